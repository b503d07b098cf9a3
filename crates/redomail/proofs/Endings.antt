-- The words ruined and armed after the tasks.
use Rattle.std.proofs.Common.{◌≡◌, ℕ, ◌+◌, true, ◌==◌, List, [], ◌∷◌, ◌++◌, refl, sym, ap, ◌∙◌, arith, append_assoc, eqb-true, Option, Some, None}
use Rattle.redomail.proofs.Common.{cond_both, eqb-false, put, Layout, Record, Reply, row, Words, saturate, last_at, board_at, place_at, final, words_after_puts, Done, puts, Script, in_row, apply_steps}
use Rattle.redomail.proofs.Common.{store_steps, record_of, redo, append_decision, close, repair}
use Rattle.redomail.specs.declared.reply.Reply.TheVariants as reply
use Rattle.redomail.specs.declared.task.Task.TheVariants as task
use Rattle.redomail.specs.Tasks.{early_reply, unless_replied}
use Rattle.redomail.specs.Laws.{TasksEnd, ConsistentEnds}
use Rattle.redomail.proofs.Words.{put-other, place_low}
use Rattle.redomail.proofs.Repairs.{Outside, Outside-append, Outside-in_row, written-append, final-puts, final-gets, flag_off}

written-other : (xs : List (ℕ × ℕ)) (w : Words) (i : ℕ) → Outside xs i → words_after_puts xs w i ≡ w i
written-other [] w i out = refl
written-other (x ∷ xs) w i out = written-other xs (put w x.0 x.1) i out.1 ∙ put-other w x.0 x.1 i out.0

-- a script keeps ruined and leaves no record armed
abbrev Ends : Words → Script Reply → Type 0
Ends w e = (final e w 0 ≡ w 0) × (final e w 3 ≡ 0)

module _ (l : Layout) (p : ℕ) (r : Record) where
  outside_apply : Outside (apply_steps l p r) 0
  outside_apply =
      let low = place_low l r.at in
      Outside-append (in_row (place_at l r.at) (p ∷ r.seq ∷ r.value)) ((last_at l p, r.seq) ∷ (2, saturate (r.at + 1)) ∷ (3, 0) ∷ []) 0
      (Outside-in_row (place_at l r.at) (p ∷ r.seq ∷ r.value) 0 (omega arith) (omega arith))
      ((λ e. omega arith), ((λ e. omega arith), ((λ e. omega arith), tt)))

  apply_ends : (a : Reply) (w : Words) → Ends w (puts (apply_steps l p r) (Done a))
  apply_ends a w = (
    ap (λ f. f 0) (final-puts (apply_steps l p r) (Done a) w) ∙ written-other (apply_steps l p r) w 0 outside_apply,
    ap (λ f. f 3) (final-puts (apply_steps l p r) (Done a) w) ∙ flag_off l p r w,
  )

  abbrev front : List (ℕ × ℕ)
  front = in_row 4 (r.at ∷ r.seq ∷ r.value) ++ (3, 1) ∷ []

  store_ends : (a : Reply) (w : Words) → Ends w (puts (store_steps l p r) (Done a))
  store_ends a w =
      let split : store_steps l p r ≡ front ++ apply_steps l p r = sym (append_assoc (in_row 4 (r.at ∷ r.seq ∷ r.value)) ((3, 1) ∷ []) (apply_steps l p r)) in
      let all : words_after_puts (store_steps l p r) w ≡ words_after_puts (apply_steps l p r) (words_after_puts front w) = ap (λ xs. words_after_puts xs w) split ∙ written-append front (apply_steps l p r) w in
      let first : words_after_puts front w 0 ≡ w 0 =
      written-other front w 0
      (Outside-append (in_row 4 (r.at ∷ r.seq ∷ r.value)) ((3, 1) ∷ []) 0 (Outside-in_row 4 (r.at ∷ r.seq ∷ r.value) 0 (omega arith) (omega arith))
      ((λ e. omega arith), tt)) in (
        ap (λ f. f 0) (final-puts (store_steps l p r) (Done a) w) ∙ (ap (λ f. f 0) all ∙ (written-other (apply_steps l p r) (words_after_puts front w) 0 outside_apply ∙ first)),
        ap (λ f. f 3) (final-puts (store_steps l p r) (Done a) w) ∙ (ap (λ f. f 3) all ∙ flag_off l p r (words_after_puts front w)),
      )

module _ (l : Layout) (p : ℕ) (w : Words) where
  decided_ends : (seq : ℕ) (value : List ℕ) (closed count last : ℕ) → w 3 ≡ 0 → Ends w (append_decision l p seq value closed count last)
  decided_ends seq value closed count last off = by (early_reply l.cap seq closed count last)
    where
      by : (o : Option Reply) → Ends w (unless_replied o (puts (store_steps l p (record_of count seq value)) (Done reply.Stored)))
      by None = store_ends l p (record_of count seq value) reply.Stored w
      by (Some answer) = (refl, off)

  close_ends : w 3 ≡ 0 → Ends w close
  close_ends off =
      let P : Script Reply → Type 0 = λ x. (final x w 0 ≡ w 0) × (final x w 3 ≡ 0) in
      cond_both (w 1 == 1) _ _ P (λ _. (refl, off)) (λ _. (refl, off))

  pub repair_ends : Ends w (repair l p)
  repair_ends =
      let P : Script Reply → Type 0 = λ x. (final x w 0 ≡ w 0) × (final x w 3 ≡ 0) in
      let r : Record = record_of (w 4) (w 5) (row w 6 l.width) in
      let same = final-gets 6 l.width [] (redo l p (w 4) (w 5)) w in
      let done = apply_ends l p r (reply.Mended true) w in
      cond_both (w 3 == 0) _ _ P (λ y. (refl, eqb-true (w 3) 0 y)) (λ _. (ap (λ f. f 0) same ∙ done.0, ap (λ f. f 3) same ∙ done.1))

pub tasks_end : TasksEnd
tasks_end l p (task.Append seq value) w off = decided_ends l p w seq value (w 1) (w 2) (w (last_at l p)) off
tasks_end l p task.Close w off = close_ends l p w off
tasks_end l p task.Repair w any = repair_ends l p w
tasks_end l p (task.BoardGet i) w any = (refl, refl)
tasks_end l p (task.BoardPut i v) w any = (
  put-other w (board_at l i) v 0 (λ e. omega arith),
  put-other w (board_at l i) v 3 (λ e. omega arith),
)
tasks_end l p task.Ruin w any = (refl, refl)
tasks_end l p task.Check w any = (refl, refl)

pub consistent_ends : ConsistentEnds
consistent_ends l p w =
    let P : Script Reply → Type 0 = λ x. (final x w 0 ≡ w 0) × ((w 0 ≡ 1 → ⊥) → final x w 3 ≡ 0) × (w 0 ≡ 1 → final x w ≡ w) in
    let mended = repair_ends l p w in
    cond_both (w 0 == 1) _ _ P (λ y. (refl, (λ n. absurd (n (eqb-true (w 0) 1 y))), (λ _. refl)))
    (λ n. (mended.0, (λ _. mended.1), (λ on. absurd (eqb-false (w 0) 1 n on))))
