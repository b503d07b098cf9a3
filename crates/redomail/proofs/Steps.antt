-- The number of steps of each task.
use Rattle.std.proofs.Common.{subst, false, inl, inr, ◌≡◌, ℕ, zero, suc, ◌+◌, ◌*◌, true, ◌==◌, List, [], ◌∷◌, ◌++◌, length, refl, sym, ◌∙◌, ap, arith, length-append, Bool, not, if◌then◌else◌, nat_le, nat_lt, Option}
use Rattle.redomail.proofs.Common.{cases_Bool, cond_both, Layout, Record, Reply, Words, saturate, last_at, place_at, steps, answer, steps_of, Done, puts, Script, gets, in_row, Get, apply_steps}
use Rattle.redomail.proofs.Common.{store_steps, record_of, redo, append_decision, repair}
use Rattle.redomail.specs.declared.task.Task.TheVariants as task
use Rattle.redomail.specs.declared.reply.Reply.TheVariants as reply
use Rattle.redomail.specs.Tasks.{unless_replied}
use Rattle.redomail.specs.Laws.{MendingHasItsSteps, consistent_steps, RepliesHaveTheirSteps}
use Rattle.redomail.proofs.Scripts.{length-in_row, length-store_steps}

steps-puts : (xs : List (ℕ × ℕ)) (a : Reply) (w : Words) → steps (puts xs (Done a)) w ≡ length xs
steps-puts [] a w = refl
steps-puts (x ∷ xs) a w = ap suc (steps-puts xs a (_))

answer-puts : (xs : List (ℕ × ℕ)) (a : Reply) (w : Words) → answer (puts xs (Done a)) w ≡ a
answer-puts [] a w = refl
answer-puts (x ∷ xs) a w = answer-puts xs a (_)

steps-gets : (i n : ℕ) (read : List ℕ) (next : List ℕ → Script Reply) (w : Words) (k : ℕ) → ((xs : List ℕ) → length xs ≡ length read + n → steps (next xs) w ≡ k) → steps (gets i n read next) w ≡ n + k
steps-gets i zero read next w k h =
    let e : 0 + k ≡ k = omega arith in h read (omega arith) ∙ sym e
steps-gets i (suc n) read next w k h =
    let one : length (read ++ w i ∷ []) ≡ length read + 1 = length-append read (w i ∷ []) in
    let rest = steps-gets (i + 1) n (read ++ w i ∷ []) next w k (λ xs e. h xs (omega arith)) in
    omega (arith, rest)

answer-gets : (i n : ℕ) (read : List ℕ) (next : List ℕ → Script Reply) (w : Words) (a : Reply) → ((xs : List ℕ) → answer (next xs) w ≡ a) → answer (gets i n read next) w ≡ a
answer-gets i zero read next w a h = h read
answer-gets i (suc n) read next w a h = answer-gets (i + 1) n (read ++ w i ∷ []) next w a h

pub length-apply_steps : (l : Layout) (p : ℕ) (r : Record) → length (apply_steps l p r) ≡ 5 + length r.value
length-apply_steps l p r =
    let last3 : List (ℕ × ℕ) = (last_at l p, r.seq) ∷ (2, saturate (r.at + 1)) ∷ (3, 0) ∷ [] in
    omega (
      arith,
      length-append (in_row (place_at l r.at) (p ∷ r.seq ∷ r.value)) last3,
      length-in_row (place_at l r.at) (p ∷ r.seq ∷ r.value),
    )

decided_steps : (l : Layout) (p seq : ℕ) (value : List ℕ) (closed count last : ℕ) (w : Words) → length value ≡ l.width
    → 3 + steps (append_decision l p seq value closed count last) w ≡ steps_of l (task.Append seq value) (answer (append_decision l p seq value closed count last) w)
decided_steps l p seq value closed count last w wide =
    let left : Option Reply → Script Reply = λ o. unless_replied o (puts (store_steps l p (record_of count seq value)) (Done reply.Stored)) in
    let P : Option Reply → Type 0 = λ o. 3 + steps (left o) w ≡ steps_of l (task.Append seq value) (answer (left o) w) in
    cond_both (seq == 0) _ _ P (λ _. refl) (λ _.
    cond_both (nat_le seq last) _ _ P (λ _. refl) (λ _.
    cond_both (nat_lt (last + 1) seq) _ _ P (λ _. refl) (λ _.
    cond_both (closed == 1) _ _ P (λ _. refl) (λ _.
    cond_both (count == l.cap) _ _ P (λ _. refl) (λ _.
    let r : Record = record_of count seq value in
    let a = answer-puts (store_steps l p r) reply.Stored w in
    let n = steps-puts (store_steps l p r) reply.Stored w in
    let k = length-store_steps l p r in
    let e : 3 + steps (puts (store_steps l p r) (Done reply.Stored)) w ≡ 11 + 2 * l.width = omega arith in
    e ∙ ap (steps_of l (task.Append seq value)) (sym a))))))

redo_steps : (l : Layout) (p : ℕ) (w : Words) → steps (gets 6 l.width [] (redo l p (w 4) (w 5))) w ≡ 5 + 2 * l.width
redo_steps l p w =
    let none : length {A = ℕ} [] ≡ 0 = refl in
    steps-gets 6 l.width [] (redo l p (w 4) (w 5)) w (5 + l.width)
    (λ xs e.
    let r : Record = record_of (w 4) (w 5) xs in
    steps-puts (apply_steps l p r) (reply.Mended true) w ∙ (length-apply_steps l p r ∙ (omega arith)))
    ∙ (omega arith)

pub steps_reported : RepliesHaveTheirSteps
steps_reported l p (task.Append seq value) w fits =
    let e = decided_steps l p seq value (w 1) (w 2) (w (last_at l p)) w fits in omega (arith, e)
steps_reported l p task.Close w fits =
    let P : Script Reply → Type 0 = λ x. suc (steps x w) ≡ steps_of l task.Close (answer x w) in
    cond_both (w 1 == 1) _ _ P (λ _. refl) (λ _. refl)
steps_reported l p task.Repair w fits =
    let P : Script Reply → Type 0 = λ x. suc (steps x w) ≡ steps_of l task.Repair (answer x w) in
    cond_both (w 3 == 0) _ _ P (λ _. refl)
    (λ _.
    let n = redo_steps l p w in
    let a = answer-gets 6 l.width [] (redo l p (w 4) (w 5)) w (reply.Mended true) (λ xs. answer-puts (apply_steps l p (record_of (w 4) (w 5) xs)) (reply.Mended true) w) in
    let e : suc (suc (suc (steps (gets 6 l.width [] (redo l p (w 4) (w 5))) w))) ≡ 8 + 2 * l.width = omega arith in
    e ∙ ap (steps_of l task.Repair) (sym a))
steps_reported l p _ w fits = refl

-- a repair's steps and its reply
repair_reported : (l : Layout) (p : ℕ) (w : Words) → (suc (steps (repair l p) w) ≡ consistent_steps l (answer (repair l p) w)) × (answer (repair l p) w ≡ reply.Mended (not (w 3 == 0)))
repair_reported l p w =
    let P : Bool → Type 0 = λ b.
    let e : Script Reply = if b then Done (reply.Mended false) else Get 4 (λ at. Get 5 (λ seq. gets 6 l.width [] (redo l p at seq))) in
    (suc (suc (steps e w)) ≡ consistent_steps l (answer e w)) × (answer e w ≡ reply.Mended (not b)) in
    let n = redo_steps l p w in
    let a = answer-gets 6 l.width [] (redo l p (w 4) (w 5)) w (reply.Mended true) (λ xs. answer-puts (apply_steps l p (record_of (w 4) (w 5) xs)) (reply.Mended true) w) in
    let e : suc (suc (suc (suc (steps (gets 6 l.width [] (redo l p (w 4) (w 5))) w)))) ≡ 9 + 2 * l.width = omega arith in
    let off : P true = (refl, refl) in
    let on : P false = (e ∙ ap (consistent_steps l) (sym a), a) in
    elim (cases_Bool (w 3 == 0)) [ inl y ↦ subst P (sym y) off | inr f ↦ subst P (sym f) on ]

pub consistent_reported : MendingHasItsSteps
consistent_reported l p w =
    let P : Bool → Type 0 = λ b.
    let e : Script Reply = if b then Done (reply.Ruined true) else repair l p in
    (suc (steps e w) ≡ consistent_steps l (answer e w)) × (answer e w ≡ (if b then reply.Ruined true else reply.Mended (not (w 3 == 0)))) in
    elim (cases_Bool (w 0 == 1)) [ inl y ↦ subst P (sym y) (refl, refl) | inr f ↦ subst P (sym f) (repair_reported l p w) ]
