use Rattle.std.proofs.Common.{◌≡◌, ◌+◌, true, sym, ◌∙◌, subst}
use Rattle.std.proofs.lemmas.Bool.{both_ways}
use Rattle.algorithm_texts.specs.FinishedDrafts.{is_in}
use Rattle.algorithm_texts.proofs.RunMarks.{MarkedSo, so_first, so_on, so_skip, all_within}
use Rattle.algorithm_texts.proofs.flow.mark_all.Goals as goal
use Rattle.algorithm_texts.proofs.flow.mark_all.Goals.{then-is_in, else-is_in}

pub loop-place-init : goal.loop-place-init
loop-place-init c = so_first c.args.call.«from» (λ at. is_in c.args.reached.now at ≡ true) c.args.marks.now

pub loop-place-preserved : goal.loop-place-preserved
loop-place-preserved c = elim c.if-is_in.branch [
  | then-is_in w ↦
      subst (λ ms. MarkedSo c.args.call.«from» (λ at. is_in c.args.reached.now at ≡ true) c.args.marks.now ms (c.loop-place.place + 1)) (sym (w.marks-is ∙ w.mark.ensures))
      (so_on c.args.call.«from» (λ at. is_in c.args.reached.now at ≡ true) c.args.marks.now c.loop-place.marks c.loop-place.place c.loop-place.invariant (sym c.is_in.ensures ∙ w.if-is_in.true))
  | else-is_in w ↦
      subst (λ ms. MarkedSo c.args.call.«from» (λ at. is_in c.args.reached.now at ≡ true) c.args.marks.now ms (c.loop-place.place + 1)) (sym w.marks-is)
      (so_skip c.args.call.«from» (λ at. is_in c.args.reached.now at ≡ true) c.args.marks.now c.loop-place.marks c.loop-place.place c.loop-place.invariant
      (λ h. both_ways c.is_in.result w.if-is_in.false (c.is_in.ensures ∙ h)))
]

pub returns-clause-marked : goal.returns-clause-marked
returns-clause-marked c = all_within _ c.args.call c.loop-place.place c.loop-place.invariant.marked c.loop-place-test.false
