-- The mailbox deeds of a script's puts: each Commit has the append's own number and value, each Close is that of a close,
-- each Ruin that of a ruin. It holds over any words, so steps of other processes don't affect it.
use Rattle.std.proofs.Common.{◌≡◌, ℕ, zero, suc, ◌+◌, ◌<◌, ◌≤◌, true, ◌&&◌, ◌==◌, List, [], ◌∷◌, ◌++◌, length, All, Option, Some, None, refl, sym, ◌∙◌, subst, arith, eqb-true}
use Rattle.rmeworld.proofs.Common.{and_parts, cond_both, All-nil, All-cons, put, Deed, Layout, Record, Reply, deeds_of_put, Words, IsLayout, row, last_at, saturate, board_at, place_at, Script, Get, Put}
use Rattle.rmeworld.proofs.Common.{Done, puts, gets, in_row, script, consistent, apply_steps, store_steps, record_of, redo, repair, held-small}
use Rattle.redomail.specs.Tasks.{early_reply, unless_replied}
use Rattle.redomail.proofs.Words.{put-other, put-same, place_low, deeds_of_put-none}
use Rattle.redomail.specs.declared.deed.Deed.TheVariants as deed
use Rattle.redomail.specs.declared.reply.Reply.TheVariants as reply
use Rattle.redomail.specs.declared.task.Task.TheVariants as task

-- each deed of this script's puts, over these words, has D
abbrev pub Sends : Layout → ℕ → (Deed → Type 0) → Script Reply → Words → Type 0
Sends l p D (Get i next) w = Sends l p D (next (w i)) w
Sends l p D (Put i v rest) w = All D (deeds_of_put l p w i v) × Sends l p D rest (put w i v)
Sends l p D (Done a) w = Unit {0}

module _ (l : Layout) (p : ℕ) (D : Deed → Type 0) (shows : (at seq : ℕ) (v : List ℕ) → D (deed.Show p at seq v)) where
  -- a put's deeds, by the puts that can be a deed
  put_has : (i v : ℕ) (w : Words) → (i ≡ 3 → v ≡ 1 → D (deed.Commit p (w 5) (row w 6 l.width))) → (i ≡ 1 → D (deed.Close p)) → (i ≡ 0 → D (deed.Ruin p)) → All D (deeds_of_put l p w i v)
  put_has i v w commits closes ruins =
      cond_both (w i == v) _ _ (All D) (λ _. All-nil D) (λ _.
      cond_both ((i == 3) && (v == 1)) _ _ (All D) (λ e. let both = and_parts (i == 3) (v == 1) e in All-cons D _ [] (commits (eqb-true i 3 both.0) (eqb-true v 1 both.1)) (All-nil D)) (λ _.
      cond_both (i == 2) _ _ (All D) (λ _. All-cons D _ [] (shows _ _ _) (All-nil D)) (λ _.
      cond_both ((i == 1) && (v == 1)) _ _ (All D) (λ e. let both = and_parts (i == 1) (v == 1) e in All-cons D _ [] (closes (eqb-true i 1 both.0)) (All-nil D)) (λ _.
      cond_both ((i == 0) && (v == 1)) _ _ (All D) (λ e. let both = and_parts (i == 0) (v == 1) e in All-cons D _ [] (ruins (eqb-true i 0 both.0)) (All-nil D)) (λ _. All-nil D)))))

  -- a put after the first four words is no deed
  silent : (i v : ℕ) (e : Script Reply) (w : Words) → 3 < i → Sends l p D e (put w i v) → Sends l p D (Put i v e) w
  silent i v e w high h = (subst (All D) (sym (deeds_of_put-none l p w i v high)) (All-nil D), h)

  row_silent : (i : ℕ) (vs : List ℕ) (ys : List (ℕ × ℕ)) (e : Script Reply) (w : Words) → 3 < i → ((v : Words) → Sends l p D (puts ys e) v) → Sends l p D (puts (in_row i vs ++ ys) e) w
  row_silent i [] ys e w high go = go w
  row_silent i (x ∷ vs) ys e w high go =
      silent (saturate i) x (puts (in_row (i + 1) vs ++ ys) e) w (omega arith) (row_silent (i + 1) vs ys e (put w (saturate i) x) (omega arith) go)

  -- a row of puts, with the words after them
  row_known : (i : ℕ) (vs : List ℕ) (ys : List (ℕ × ℕ)) (e : Script Reply) (w : Words) → 3 < i → i + length vs ≤ 1000000
      → ((v : Words) → row v i (length vs) ≡ vs → ((j : ℕ) → j < i → v j ≡ w j) → Sends l p D (puts ys e) v) → Sends l p D (puts (in_row i vs ++ ys) e) w
  row_known i [] ys e w high small go = go w refl (λ j _. refl)
  row_known i (x ∷ vs) ys e w high small go =
      let same : saturate i ≡ i = held-small i (omega arith) in
      let rest = row_known (i + 1) vs ys e (put w i x) (omega arith) (omega arith)
      (λ v stands alike.
      let here : v i ≡ x = alike i (omega arith) ∙ put-same w i x i refl in
      go v (rw (here, stands) refl) (λ j lt. alike j (omega arith) ∙ put-other w i x j (λ q. omega arith))) in
      let P : ℕ → Type 0 = λ j. Sends l p D (Put j x (puts (in_row (i + 1) vs ++ ys) e)) w in
      subst P (sym same) (silent i x (puts (in_row (i + 1) vs ++ ys) e) w high rest)

  -- the apply steps commit nothing
  apply_sends : (r : Record) (a : Reply) (w : Words) → Sends l p D (puts (apply_steps l p r) (Done a)) w
  apply_sends r a w =
      let low = place_low l r.at in
      row_silent (place_at l r.at) (p ∷ r.seq ∷ r.value) ((last_at l p, r.seq) ∷ (2, saturate (r.at + 1)) ∷ (3, 0) ∷ []) (Done a) w (omega arith)
      (λ v.
      let x : Words = put v (last_at l p) r.seq in
      let y : Words = put x 2 (saturate (r.at + 1)) in
      silent (last_at l p) r.seq (Put 2 (saturate (r.at + 1)) (Put 3 0 (Done a))) v (omega arith) (
        put_has 2 (saturate (r.at + 1)) x (λ e. absurd (omega arith)) (λ e. absurd (omega arith)) (λ e. absurd (omega arith)),
        (put_has 3 0 y (λ _ e. absurd (omega arith)) (λ e. absurd (omega arith)) (λ e. absurd (omega arith)), tt),
      ))

  -- storing commits the message that it was given
  store_sends : (at seq : ℕ) (value : List ℕ) (w : Words) → IsLayout l → length value ≡ l.width → D (deed.Commit p seq value) → Sends l p D (puts (store_steps l p (record_of at seq value)) (Done reply.Stored)) w
  store_sends at seq value w layout wide asked =
      let most = layout.most in
      row_known 4 (at ∷ seq ∷ value) ((3, 1) ∷ apply_steps l p (record_of at seq value)) (Done reply.Stored) w (omega arith) (omega arith)
      (λ v stands _.
      let number : v 5 ≡ seq = cc in
      let long : row v 6 (length value) ≡ value = cc in
      let words : row v 6 l.width ≡ value = subst (λ n. row v 6 n ≡ value) wide long in
      (put_has 3 1 v (λ _ _. rw (number, words) asked) (λ e. absurd (omega arith)) (λ e. absurd (omega arith)), apply_sends (record_of at seq value) reply.Stored (put v 3 1)))

  pub append_sends : (seq : ℕ) (value : List ℕ) (w : Words) → IsLayout l → length value ≡ l.width → D (deed.Commit p seq value) → Sends l p D (script l p (task.Append seq value)) w
  append_sends seq value w layout wide asked = by (early_reply l.cap seq (w 1) (w 2) (w (last_at l p)))
    where
      by : (o : Option Reply) → Sends l p D (unless_replied o (puts (store_steps l p (record_of (w 2) seq value)) (Done reply.Stored))) w
      by None = store_sends (w 2) seq value w layout wide asked
      by (Some answer) = tt

  pub close_sends : (w : Words) → D (deed.Close p) → Sends l p D (script l p task.Close) w
  close_sends w asked =
      let P : Script Reply → Type 0 = λ e. Sends l p D e w in
      cond_both (w 1 == 1) _ _ P (λ _. tt) (λ _. (put_has 1 1 w (λ e. absurd (omega arith)) (λ _. asked) (λ e. absurd (omega arith)), tt))

  pub ruin_sends : (w : Words) → D (deed.Ruin p) → Sends l p D (script l p task.Ruin) w
  ruin_sends w asked = (put_has 0 1 w (λ e. absurd (omega arith)) (λ e. absurd (omega arith)) (λ _. asked), tt)

  pub board_sends : (i v : ℕ) (w : Words) → Sends l p D (script l p (task.BoardPut i v)) w
  board_sends i v w = silent (board_at l i) v (Done reply.Done) w (omega arith) tt

  gets_sends : (i n : ℕ) (read : List ℕ) (next : List ℕ → Script Reply) (w : Words) → ((xs : List ℕ) → Sends l p D (next xs) w) → Sends l p D (gets i n read next) w
  gets_sends i zero read next w go = go read
  gets_sends i (suc n) read next w go = gets_sends (i + 1) n (read ++ w i ∷ []) next w go

  -- mending applies the armed record, and commits nothing
  pub consistent_sends : (w : Words) → Sends l p D (consistent l p) w
  consistent_sends w =
      let P : Script Reply → Type 0 = λ e. Sends l p D e w in
      cond_both (w 0 == 1) (Done (reply.Ruined true)) (repair l p) P (λ _. tt) (λ _.
      cond_both (w 3 == 0) _ _ P (λ _. tt) (λ _.
      gets_sends 6 l.width [] (redo l p (w 4) (w 5)) w (λ xs. apply_sends (record_of (w 4) (w 5) xs) (reply.Mended true) w)))
