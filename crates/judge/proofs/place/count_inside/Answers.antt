use Rattle.judge.proofs.place.count_inside.Goals.{then-is_inside, else-is_inside}
use Rattle.judge.proofs.Common.{is_inside}
use Rattle.std.proofs.lemmas.List.Sums.{count_by_more_yes, count_by_more_no}
use Rattle.std.proofs.Common.{arith, sym}
use Rattle.judge.proofs.place.count_inside.Goals as goal

pub loop-phase-preserved : goal.loop-phase-preserved
loop-phase-preserved c = elim c.if-is_inside.branch [
  | then-is_inside w ↦ (let more = count_by_more_yes is_inside c.args.phases.now c.loop-phase.phase-index _ c.loop-phase-test.true (sym w.if-is_inside.ensures) in
      omega (arith, w.count-is, c.loop-phase.invariant, more))
  | else-is_inside w ↦ (let same = count_by_more_no is_inside c.args.phases.now c.loop-phase.phase-index _ c.loop-phase-test.true (sym w.if-is_inside.ensures) in
      omega (arith, w.count-is, c.loop-phase.invariant, same))
]
