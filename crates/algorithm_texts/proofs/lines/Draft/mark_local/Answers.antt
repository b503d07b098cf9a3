use Rattle.std.proofs.Common.{◌+◌, sym, ◌∙◌, subst}
use Rattle.std.proofs.lemmas.Bool.{both_ways}
use Rattle.algorithm_texts.specs.Drafts.{draft_view}
use Rattle.algorithm_texts.specs.Rounds.{LocalMarked}
use Rattle.algorithm_texts.proofs.RunChecks.{within_at}
use Rattle.algorithm_texts.proofs.RunMarks.{MarkedSo, so_first, so_on, so_skip, all_within}
use Rattle.algorithm_texts.proofs.RoundMarks.{local_parts, local_here}
use Rattle.algorithm_texts.proofs.lines.Draft.mark_local.Goals as goal
use Rattle.algorithm_texts.proofs.lines.Draft.mark_local.Goals.{then-is_local_in, else-is_local_in}

pub loop-place-init : goal.loop-place-init
loop-place-init c = so_first c.args.call.«from» (LocalMarked (draft_view c.args.self.now) c.args.call c.args.reached.now) c.args.left.now

pub loop-place-preserved : goal.loop-place-preserved
loop-place-preserved c =
    let d = draft_view c.args.self.now in
    elim c.if-is_local_in.branch [
      | then-is_local_in w ↦
          subst (λ ms. MarkedSo c.args.call.«from» (LocalMarked d c.args.call c.args.reached.now) c.args.left.now ms (c.loop-place.place + 1)) (sym (w.left-is ∙ w.mark.ensures))
          (so_on c.args.call.«from» (LocalMarked d c.args.call c.args.reached.now) c.args.left.now c.loop-place.left c.loop-place.place c.loop-place.invariant
          (local_here d c.args.call c.args.reached.now c.loop-place.place (within_at c.args.call c.loop-place.place c.loop-place.auto.place c.loop-place-test.true)
          (sym c.is_local_in.ensures ∙ w.if-is_local_in.true)))
      | else-is_local_in w ↦
          subst (λ ms. MarkedSo c.args.call.«from» (LocalMarked d c.args.call c.args.reached.now) c.args.left.now ms (c.loop-place.place + 1)) (sym w.left-is)
          (so_skip c.args.call.«from» (LocalMarked d c.args.call c.args.reached.now) c.args.left.now c.loop-place.left c.loop-place.place c.loop-place.invariant
          (λ h. both_ways c.is_local_in.result w.if-is_local_in.false (c.is_local_in.ensures ∙ local_parts d c.args.call c.args.reached.now c.loop-place.place h)))
    ]

pub returns-clause-marked : goal.returns-clause-marked
returns-clause-marked c = λ at h l. all_within _ c.args.call c.loop-place.place c.loop-place.invariant.marked c.loop-place-test.false at h.within h l
