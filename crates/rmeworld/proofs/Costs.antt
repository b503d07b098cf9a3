-- Each script of a call ends with the table's number for its reply.
use Rattle.std.proofs.Common.{◌≡◌, ℕ, zero, suc, ◌+◌, ◌*◌, ◌≤◌, true, ◌==◌, List, [], ◌∷◌, ◌++◌, length, Option, Some, refl, ap, ◌∙◌, arith, length-append, nat_le, nat_lt}
use Rattle.rmeworld.proofs.Common.{cond_both, Layout, Record, Reply, Script, Get as Asks, Put as Writes, Done, puts, gets, consistent, apply_steps, store_steps, record_of, append_decision, append, redo}
use Rattle.rmeworld.proofs.Common.{repair, close, length-store_steps, task_steps, mending_steps, Costs}
use Rattle.redomail.specs.declared.reply.Reply.TheVariants as reply
use Rattle.redomail.specs.declared.task.Task.TheVariants as task
use Rattle.redomail.specs.Tasks.{unless_replied}
use Rattle.redomail.proofs.Steps.{length-apply_steps}

costs-puts : (f : Reply → Option ℕ) (xs : List (ℕ × ℕ)) (a : Reply) (steps : ℕ) → f a ≡ Some (steps + length xs) → Costs f (puts xs (Done a)) steps
costs-puts f [] a steps h = let e : steps + 0 ≡ steps = omega arith in h ∙ ap Some e
costs-puts f (x ∷ xs) a steps h = let e : steps + suc (length xs) ≡ steps + 1 + length xs = omega arith in costs-puts f xs a (steps + 1) (h ∙ ap Some e)

costs-gets : (f : Reply → Option ℕ) (i n : ℕ) (read : List ℕ) (next : List ℕ → Script Reply) (steps : ℕ) → ((xs : List ℕ) → length xs ≡ length read + n → Costs f (next xs) (steps + n)) → Costs f (gets i n read next) steps
costs-gets f i zero read next steps h =
    let e : steps + 0 ≡ steps = omega arith in rw e at (h read (omega arith))
costs-gets f i (suc n) read next steps h = λ v.
    let one : length (read ++ v ∷ []) ≡ length read + 1 = length-append read (v ∷ []) in
    let e : steps + suc n ≡ steps + 1 + n = omega arith in
    costs-gets f (i + 1) n (read ++ v ∷ []) next (steps + 1) (λ xs is. rw e at (h xs (omega arith)))

module _ (l : Layout) (p : ℕ) where
  decided_costs : (seq : ℕ) (value : List ℕ) (closed count last : ℕ) → length value ≡ l.width → Costs (task_steps l (task.Append seq value)) (append_decision l p seq value closed count last) 3
  decided_costs seq value closed count last wide =
      let P : Option Reply → Type 0 = λ o. Costs (task_steps l (task.Append seq value)) (unless_replied o (puts (store_steps l p (record_of count seq value)) (Done reply.Stored))) 3 in
      cond_both (seq == 0) _ _ P (λ _. refl) (λ _.
      cond_both (nat_le seq last) _ _ P (λ _. refl) (λ _.
      cond_both (nat_lt (last + 1) seq) _ _ P (λ _. refl) (λ _.
      cond_both (closed == 1) _ _ P (λ _. refl) (λ _.
      cond_both (count == l.cap) _ _ P (λ _. refl) (λ _.
      let r : Record = record_of count seq value in
      let k = length-store_steps l p r in
      let e : 11 + 2 * l.width ≡ 3 + length (store_steps l p r) = omega arith in
      costs-puts (task_steps l (task.Append seq value)) (store_steps l p r) reply.Stored 3 (ap Some e))))))

  pub append_costs : (seq : ℕ) (value : List ℕ) → length value ≡ l.width → Costs (task_steps l (task.Append seq value)) (append l p seq value) 0
  append_costs seq value wide = λ closed. λ count. λ last. decided_costs seq value closed count last wide

  pub close_costs : Costs (task_steps l task.Close) close 0
  close_costs = λ closed. let P : Script Reply → Type 0 = λ x. Costs (task_steps l task.Close) x 1 in cond_both (closed == 1) _ _ P (λ _. refl) (λ _. refl)

  redo_costs : (at seq : ℕ) → Costs (mending_steps l) (gets 6 l.width [] (redo l p at seq)) 4
  redo_costs at seq =
      costs-gets (mending_steps l) 6 l.width [] (redo l p at seq) 4
      (λ xs e.
      let r : Record = record_of at seq xs in
      let k = length-apply_steps l p r in
      let none : length {A = ℕ} [] ≡ 0 = refl in
      let sum : 9 + 2 * l.width ≡ 4 + l.width + length (apply_steps l p r) = omega arith in
      costs-puts (mending_steps l) (apply_steps l p r) (reply.Mended true) (4 + l.width) (ap Some sum))

  repair_costs : Costs (mending_steps l) (repair l p) 1
  repair_costs = λ armed. let P : Script Reply → Type 0 = λ x. Costs (mending_steps l) x 2 in cond_both (armed == 0) _ _ P (λ _. refl) (λ _. λ at. λ seq. redo_costs at seq)

  pub consistent_costs : Costs (mending_steps l) (consistent l p) 0
  consistent_costs = λ ruined. let P : Script Reply → Type 0 = λ x. Costs (mending_steps l) x 1 in cond_both (ruined == 1) _ _ P (λ _. refl) (λ _. repair_costs)

-- no script takes more steps than the greatest number in its table
pub costs_most : (f : Reply → Option ℕ) (most : ℕ) → ((a : Reply) (x : ℕ) → f a ≡ Some x → x ≤ most) → (e : Script Reply) (steps : ℕ) → Costs f e steps → steps ≤ most
costs_most f most h (Asks i rest) steps costs = let more = costs_most f most h (rest 0) (steps + 1) (costs 0) in omega arith
costs_most f most h (Writes i v rest) steps costs = let more = costs_most f most h rest (steps + 1) costs in omega arith
costs_most f most h (Done a) steps costs = h a steps costs
