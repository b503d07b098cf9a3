use Rattle.std.proofs.Common.{◌≡◌, ◌∙◌, ℕ, suc, ◌+◌, [], ◌∷◌, ◌++◌, take, drop, Some, All, sym, ap, subst, arith}
use Rattle.robust.proofs.Common.{All-push, AllSent, Member, fault_by, Done}
use Rattle.std.proofs.lemmas.List.{take_all}
use Rattle.std.proofs.Math.Seq.{split_at, take-suc}
use Rattle.table_runs.specs.declared.lab.lab_fault.LabFault.TheVariants.{Reply}
use Rattle.robust.proofs.lab.lab_run.first_fault.Goals as goal

pub returns-in-Fault-clause-first : goal.returns-in-Fault-clause-first
returns-in-Fault-clause-first c =
    let ended = c.args.ended.now in
    let i = c.loop-done.done-index in
    let d = c.done-item.result in
    record {
      front = take i ended;
      done = d;
      back = drop (suc i) ended;
      are = split_at ended i d c.loop-done-test.true ∙ ap (λ (x : Done). take i ended ++ x ∷ drop (suc i) ended) (sym c.done-item.is);
      sent = c.loop-done.invariant;
      below = c.number-p.ensures.seat_view.below;
      cause_is = ap (fault_by d.member.seat_view.by) c.in-Fault.is ∙ ap (λ (p : ℕ). Some (Member p c.in-Fault.fault)) (sym c.number-p.ensures.is);
    }

pub returns-in-Refused-clause-first : goal.returns-in-Refused-clause-first
returns-in-Refused-clause-first c =
    let ended = c.args.ended.now in
    let i = c.loop-done.done-index in
    let d = c.done-item.result in
    record {
      front = take i ended;
      done = d;
      back = drop (suc i) ended;
      are = split_at ended i d c.loop-done-test.true ∙ ap (λ (x : Done). take i ended ++ x ∷ drop (suc i) ended) (sym c.done-item.is);
      sent = c.loop-done.invariant;
      below = c.number-p.ensures.seat_view.below;
      cause_is = ap (fault_by d.member.seat_view.by) c.in-Refused.is ∙ ap (λ (p : ℕ). Some (Reply p c.in-Refused.reply)) (sym c.number-p.ensures.is);
    }

pub loop-done-preserved : goal.loop-done-preserved
loop-done-preserved c =
    let ended = c.args.ended.now in
    let i = c.loop-done.done-index in
    let d = c.done-item.result in
    let P : Done → Type 0 = λ done. done.ending ≡ AllSent in
    let one : suc i ≡ i + 1 = omega arith in
    let more : take i ended ++ d ∷ [] ≡ take (i + 1) ended = ap (λ (x : Done). take i ended ++ x ∷ []) c.done-item.is ∙ sym (take-suc ended i d c.loop-done-test.true) ∙ ap (λ (k : ℕ). take k ended) one in
    subst (All P) more (All-push P (take i ended) d c.loop-done.invariant c.in-AllSent.is)

pub returns-clause-none : goal.returns-clause-none
returns-clause-none c = λ none.
    subst (All (λ (done : Done). done.ending ≡ AllSent)) (take_all c.loop-done.done-index c.args.ended.now (omega (arith, c.loop-done-test.false))) c.loop-done.invariant
