-- The apply steps and the storing of a record are safe.
use Rattle.std.proofs.Common.{◌≡◌, ℕ, suc, ◌+◌, ◌-◌, true, false, ◌==◌, List, [], ◌∷◌, ◌++◌, length, refl, sym, ◌∙◌, subst, inl, inr, arith, eq-eqb, ne_eqb}
use Rattle.redomail.proofs.Common.{cond_both, put, Layout, Message, Record, Reply, deeds_of_put, row, Words, saturate, last_at, place_at, message, Mailbox, mailbox_after, Safe, Added, Done, Put, puts, entry}
use Rattle.redomail.proofs.Common.{apply_steps, store_steps}
use Rattle.redomail.specs.declared.deed.Deed.TheVariants as deed
use Rattle.redomail.specs.declared.reply.Reply.TheVariants as reply
use Rattle.redomail.specs.Replies.{ReplyMeans, Disarms}
use Rattle.redomail.proofs.Leading.{no_deed, one_deed}
use Rattle.redomail.proofs.Safe.{silent, same_row, row_of}
use Rattle.redomail.proofs.Scripts.{held-small}
use Rattle.redomail.proofs.Words.{put-other, put-same, put-nothing, place_low, place_up, entry-alike, entry-from_row, row-from_entry}
use Rattle.redomail.proofs.Modes.{Half, Whole, Shape-from_idle, Shape-from_half, Shape-from_whole}
use Rattle.redomail.proofs.Changes.{Ready, Ready-put, Half-put, Half-put-last, Whole-last, Whole-from_half, Allowed-show, Idle-from_whole, Allowed-commit, Half-from_ready}

-- a reply that ends the apply steps
abbrev pub IsApplied : Reply → Type 0
IsApplied reply.Stored = Unit {0}
IsApplied (reply.Mended true) = Unit {0}
IsApplied _ = ⊥

tells_shown : (l : Layout) (p : ℕ) (m : Message) (s0 s : Mailbox) (a : Reply) → IsApplied a → s.shown ≡ s0.shown ++ m ∷ [] → ReplyMeans l p m s0 a s
tells_shown l p m s0 s reply.Stored is e = e
tells_shown l p m s0 s (reply.Mended true) is e = inr e
tells_shown l p m s0 s _ is e = absurd is

added_from_tells : (l : Layout) (p : ℕ) (m : Message) (s0 s : Mailbox) (a : Reply) → IsApplied a → ReplyMeans l p m s0 a s → Added m s0 s
added_from_tells l p m s0 s reply.Stored is h = inr h
added_from_tells l p m s0 s (reply.Mended true) is h = h
added_from_tells l p m s0 s _ is h = absurd is

disarms : (a : Reply) (w : Words) → IsApplied a → w 3 ≡ 0 → Disarms a w
disarms reply.Stored w is e = e
disarms (reply.Mended true) w is e = e
disarms _ w is e = absurd is

module _ (l : Layout) (p : ℕ) (m : Message) (s0 : Mailbox) where
  end_of_whole : (r : Record) (a : Reply) (w : Words) (s : Mailbox) → IsApplied a → Whole l p w s r → ReplyMeans l p m s0 a s → Safe l p m s0 (Put 3 0 (Done a)) w s
  end_of_whole r a w s is h tells =
      let added = added_from_tells l p m s0 s a is tells in
      let low = place_low l l.cap in (
        (Shape-from_whole l p w s r h, added),
        omega arith,
        (
          s,
          no_deed l.cap s _ (cond_both (w 3 == 0) [] [] (λ ds. ds ≡ []) (λ _. refl) (λ _. refl)),
          ((Shape-from_idle l p (put w 3 0) s (Idle-from_whole l p w s r h), added), tells, disarms a (put w 3 0) is refl),
        ),
      )

  abbrev last_steps : Record → List (ℕ × ℕ)
  last_steps r = (last_at l p, r.seq) ∷ (2, saturate (r.at + 1)) ∷ (3, 0) ∷ []

  -- a record that is shown already: nothing changes except armed
  count_of_whole : (r : Record) (a : Reply) (w : Words) (s : Mailbox) → IsApplied a → Whole l p w s r → ReplyMeans l p m s0 a s → Safe l p m s0 (Put 2 (saturate (r.at + 1)) (Put 3 0 (Done a))) w s
  count_of_whole r a w s is h tells =
      let low = place_low l l.cap in
      let layout = h.armed.base.layout in
      let room = h.armed.room in
      let small = layout.small in
      let same : saturate (r.at + 1) ≡ r.at + 1 = held-small (r.at + 1) (omega arith) in
      let stands : (w 2 == r.at + 1) ≡ true = eq-eqb (w 2) (r.at + 1) h.count in
      let rest = end_of_whole r a w s is h tells in
      let P : ℕ → Type 0 = λ v. Safe l p m s0 (Put 2 v (Put 3 0 (Done a))) w s in
      subst P (sym same) (
        (Shape-from_whole l p w s r h, added_from_tells l p m s0 s a is tells),
        omega arith,
        (s, rw stands refl, subst (λ x. Safe l p m s0 (Put 3 0 (Done a)) x s) (sym (put-nothing w 2 (r.at + 1) h.count)) rest),
      )

  last_of_whole : (r : Record) (a : Reply) (w : Words) (s : Mailbox) → IsApplied a → Whole l p w s r → ReplyMeans l p m s0 a s → Safe l p m s0 (puts (last_steps r) (Done a)) w s
  last_of_whole r a w s is h tells =
      let low = place_low l l.cap in
      let process = h.armed.base.process in
      silent l p m s0 (last_at l p) r.seq (Put 2 (saturate (r.at + 1)) (Put 3 0 (Done a))) w s (omega arith) (omega arith) (Shape-from_whole l p w s r h, added_from_tells l p m s0 s a is tells)
      (subst (λ x. Safe l p m s0 (Put 2 (saturate (r.at + 1)) (Put 3 0 (Done a))) x s) (sym (put-nothing w (last_at l p) r.seq (Whole-last l p w s r h)))
      (count_of_whole r a w s is h tells))

  -- the words of the entry, which are there already
  stands : (r : Record) (w : Words) → length r.value ≡ l.width → entry l w r.at ≡ message p r.seq r.value → row w (place_at l r.at) (length (p ∷ r.seq ∷ r.value)) ≡ p ∷ r.seq ∷ r.value
  stands r w wide e = rw wide (row-from_entry l w r.at p r.seq r.value e)

  pub apply_whole : (r : Record) (a : Reply) (w : Words) (s : Mailbox) → IsApplied a → Whole l p w s r → ReplyMeans l p m s0 a s → Safe l p m s0 (puts (apply_steps l p r) (Done a)) w s
  apply_whole r a w s is h tells =
      let low = place_low l r.at in
      let up = place_up l r.at l.cap h.armed.room in
      let wide = h.armed.wide in
      same_row l p m s0 (place_at l r.at) (p ∷ r.seq ∷ r.value) (last_steps r) (Done a) w s h.armed.base.layout (omega arith) (omega arith)
      (stands r w h.armed.wide h.entry)
      (last_of_whole r a w s is h tells)

  show_of : (r : Record) (w : Words) → w 2 ≡ r.at → w 5 ≡ r.seq → row w 6 l.width ≡ r.value → deeds_of_put l p w 2 (r.at + 1) ≡ deed.Show p r.at r.seq r.value ∷ []
  show_of r w e s v =
      let n : (w 2 == r.at + 1) ≡ false = ne_eqb (w 2) (r.at + 1) (λ x. omega arith) in
      let minus : r.at + 1 - 1 ≡ r.at = omega arith in
      rw (n, minus, s, v) refl

  -- a record that isn't shown, after the puts of its entry and of p's last number
  count_of_half : (r : Record) (a : Reply) (w : Words) (s : Mailbox) → IsApplied a → message p r.seq r.value ≡ m → s.shown ≡ s0.shown → Half l p w s r
      → entry l w r.at ≡ message p r.seq r.value → w (last_at l p) ≡ r.seq → Safe l p m s0 (Put 2 (saturate (r.at + 1)) (Put 3 0 (Done a))) w s
  count_of_half r a w s is mine same h whole last =
      let low = place_low l l.cap in
      let layout = h.armed.base.layout in
      let room = h.armed.room in
      let small = layout.small in
      let count : saturate (r.at + 1) ≡ r.at + 1 = held-small (r.at + 1) (omega arith) in
      let t : Mailbox = mailbox_after s (deed.Show p r.at r.seq r.value) in
      let P : ℕ → Type 0 = λ v. Safe l p m s0 (Put 2 v (Put 3 0 (Done a))) w s in
      subst P (sym count) (
        (Shape-from_half l p w s r h, inl same),
        omega arith,
        (
          t,
          one_deed l.cap s _ (deed.Show p r.at r.seq r.value) (show_of r w h.count h.armed.seq h.armed.value) (Allowed-show l p w s r h),
          end_of_whole r a (put w 2 (r.at + 1)) t is (Whole-from_half l p w s r whole last h) (tells_shown l p m s0 t a is (rw (same, ← mine) refl)),
        ),
      )

  last_of_half : (r : Record) (a : Reply) (w : Words) (s : Mailbox) → IsApplied a → message p r.seq r.value ≡ m → s.shown ≡ s0.shown → Half l p w s r
      → entry l w r.at ≡ message p r.seq r.value → Safe l p m s0 (puts (last_steps r) (Done a)) w s
  last_of_half r a w s is mine same h whole =
      let low = place_low l l.cap in
      let here = place_low l r.at in
      let process = h.armed.base.process in
      let v : Words = put w (last_at l p) r.seq in
      let en : entry l v r.at ≡ entry l w r.at = entry-alike l v w r.at (λ j x y. put-other w (last_at l p) r.seq j (λ e. omega arith)) in
      silent l p m s0 (last_at l p) r.seq (Put 2 (saturate (r.at + 1)) (Put 3 0 (Done a))) w s (omega arith) (omega arith) (Shape-from_half l p w s r h, inl same)
      (count_of_half r a v s is mine same (Half-put-last l p w s r whole h) (en ∙ whole) (put-same w (last_at l p) r.seq (last_at l p) refl))

  pub apply_half : (r : Record) (a : Reply) (w : Words) (s : Mailbox) → IsApplied a → message p r.seq r.value ≡ m → s.shown ≡ s0.shown → Half l p w s r
      → Safe l p m s0 (puts (apply_steps l p r) (Done a)) w s
  apply_half r a w s is mine same h =
      let below = place_low l r.at in
      let up = place_up l r.at l.cap h.armed.room in
      let wide = h.armed.wide in
      let layout = h.armed.base.layout in
      let Known : Words → Type 0 = λ v. Half l p v s r × (v (last_at l p) + 1 ≡ r.seq) in
      elim h.last [
        | inl low ↦
            row_of l p m s0 Known (place_at l r.at) (place_at l r.at + 2 + l.width) s layout (omega arith) (omega arith)
            (λ v k. (Shape-from_half l p v s r k.0, inl same))
            (λ v i x above _ k. Half-put l p v s r i x above k)
            (place_at l r.at) (p ∷ r.seq ∷ r.value) (last_steps r) (Done a) w (omega arith) (omega arith) (h, low)
            (λ v k row_stands _.
            let e : row v (place_at l r.at) (suc (suc l.width)) ≡ p ∷ r.seq ∷ r.value = subst (λ n. row v (place_at l r.at) (suc (suc n)) ≡ p ∷ r.seq ∷ r.value) wide row_stands in
            last_of_half r a v s is mine same k.0 (entry-from_row l v r.at p r.seq r.value e))
        | inr high ↦
            same_row l p m s0 (place_at l r.at) (p ∷ r.seq ∷ r.value) (last_steps r) (Done a) w s layout (omega arith) (omega arith)
            (stands r w wide high.1)
            (last_of_half r a w s is mine same h high.1)
      ]

  -- the commit
  arm : (r : Record) (w : Words) (s : Mailbox) → message p r.seq r.value ≡ m → s.shown ≡ s0.shown → Ready l p w s r → w 4 ≡ r.at → w 5 ≡ r.seq → row w 6 l.width ≡ r.value
      → Safe l p m s0 (Put 3 1 (puts (apply_steps l p r) (Done reply.Stored))) w s
  arm r w s mine same h at seq value =
      let low = place_low l l.cap in
      let e : deeds_of_put l p w 3 1 ≡ deed.Commit p r.seq r.value ∷ [] = rw (h.idle.disarmed, seq, value) refl in
      let t : Mailbox = mailbox_after s (deed.Commit p r.seq r.value) in (
        (Shape-from_idle l p w s h.idle, inl same),
        omega arith,
        (
          t,
          one_deed l.cap s _ (deed.Commit p r.seq r.value) e (Allowed-commit l p w s r h),
          apply_half r reply.Stored (put w 3 1) t tt mine same (Half-from_ready l p w s r at seq value h),
        ),
      )

  pub store : (r : Record) (w : Words) (s : Mailbox) → message p r.seq r.value ≡ m → s.shown ≡ s0.shown → Ready l p w s r → Safe l p m s0 (puts (store_steps l p r) (Done reply.Stored)) w s
  store r w s mine same h =
      let low = place_low l l.cap in
      let wide = h.wide in
      row_of l p m s0 (λ v. Ready l p v s r) 4 (10 + l.width) s h.idle.base.layout (omega arith) (omega arith)
      (λ v k. (Shape-from_idle l p v s k.idle, inl same))
      (λ v i x above below k. Ready-put l p v s r i x (omega arith) below k)
      4 (r.at ∷ r.seq ∷ r.value) ((3, 1) ∷ apply_steps l p r) (Done reply.Stored) w (omega arith) (omega arith) h
      (λ v k row_stands _.
      let at : v 4 ≡ r.at = cc in
      let seq : v 5 ≡ r.seq = cc in
      let value : row v 6 (length r.value) ≡ r.value = cc in
      arm r v s mine same k at seq (subst (λ n. row v 6 n ≡ r.value) wide value))
