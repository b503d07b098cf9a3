-- Safety of a script, put by put.
use Rattle.std.proofs.Common.{◌≡◌, ℕ, ◌+◌, ◌<◌, ◌≤◌, List, [], ◌∷◌, ◌++◌, length, refl, sym, ◌∙◌, subst, arith}
use Rattle.redomail.proofs.Common.{put, Layout, Message, Reply, row, Words, saturate, IsLayout, size, Mailbox, Safe, Seen, Put, puts, Script, in_row, Get}
use Rattle.redomail.proofs.Leading.{no_deed}
use Rattle.redomail.proofs.Scripts.{held-small}
use Rattle.redomail.proofs.Words.{put-other, put-same, put-nothing, place_small, deeds_of_put-none}

pub size_small : (l : Layout) → IsLayout l → size l ≤ 900000
size_small l h = place_small l l.cap h h.small

module _ (l : Layout) (p : ℕ) (m : Message) (s0 : Mailbox) where
  pub seen : (e : Script Reply) (w : Words) (s : Mailbox) → Safe l p m s0 e w s → Seen l p m s0 w s
  seen (Get i next) w s h = h.0
  seen _ w s h = h.0

  -- a put that is no deed
  pub silent : (i v : ℕ) (e : Script Reply) (w : Words) (s : Mailbox) → 3 < i → i < size l → Seen l p m s0 w s → Safe l p m s0 e (put w i v) s → Safe l p m s0 (Put i v e) w s
  silent i v e w s low high look h = (look, high, (s, no_deed l.cap s _ (deeds_of_put-none l p w i v low), h))

  -- puts of values that the words have already
  pub same_row : (i : ℕ) (vs : List ℕ) (ys : List (ℕ × ℕ)) (e : Script Reply) (w : Words) (s : Mailbox) → IsLayout l → 3 < i → i + length vs ≤ size l
      → row w i (length vs) ≡ vs → Safe l p m s0 (puts ys e) w s → Safe l p m s0 (puts (in_row i vs ++ ys) e) w s
  same_row i [] ys e w s layout low high stands h = h
  same_row i (v ∷ vs) ys e w s layout low high stands h =
      let small = size_small l layout in
      let same : saturate i ≡ i = held-small i (omega arith) in
      let here : w i ≡ v = cc in
      let next : row w (i + 1) (length vs) ≡ vs = cc in
      let rest = same_row (i + 1) vs ys e w s layout (omega arith) (omega arith) next h in
      let P : ℕ → Type 0 = λ j. Safe l p m s0 (Put j v (puts (in_row (i + 1) vs ++ ys) e)) w s in
      subst P (sym same) (silent i v _ w s low (omega arith) (seen _ w s rest)
      (subst (λ x. Safe l p m s0 (puts (in_row (i + 1) vs ++ ys) e) x s) (sym (put-nothing w i v here)) rest))

  -- several puts in a row that keep what is known
  pub row_of : (Known : Words → Type 0) (low high : ℕ) (s : Mailbox) → IsLayout l → 3 < low → high ≤ size l
      → ((w : Words) → Known w → Seen l p m s0 w s) → ((w : Words) (i v : ℕ) → low ≤ i → i < high → Known w → Known (put w i v))
      → (i : ℕ) (vs : List ℕ) (ys : List (ℕ × ℕ)) (e : Script Reply) (w : Words) → low ≤ i → i + length vs ≤ high → Known w
      → ((v : Words) → Known v → row v i (length vs) ≡ vs → ((j : ℕ) → j < i → v j ≡ w j) → Safe l p m s0 (puts ys e) v s)
      → Safe l p m s0 (puts (in_row i vs ++ ys) e) w s
  row_of Known low high s layout above below look keep i [] ys e w a b known go = go w known refl (λ j _. refl)
  row_of Known low high s layout above below look keep i (x ∷ vs) ys e w a b known go =
      let small = size_small l layout in
      let same : saturate i ≡ i = held-small i (omega arith) in
      let rest = row_of Known low high s layout above below look keep (i + 1) vs ys e (put w i x) (omega arith) (omega arith)
      (keep w i x a (omega arith) known)
      (λ v kv stands alike.
      let here : v i ≡ x = alike i (omega arith) ∙ put-same w i x i refl in
      go v kv (rw (here, stands) refl) (λ j lt. alike j (omega arith) ∙ put-other w i x j (λ q. omega arith))) in
      let P : ℕ → Type 0 = λ j. Safe l p m s0 (Put j x (puts (in_row (i + 1) vs ++ ys) e)) w s in
      subst P (sym same) (silent i x _ w s (omega arith) (omega arith) (look w known) rest)
