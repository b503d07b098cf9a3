use Rattle.judge.proofs.place.count_dead_in.Goals.{then-is_dead_in, else-is_dead_in}
use Rattle.judge.proofs.Common.{is_dead_in}
use Rattle.std.proofs.lemmas.List.Sums.{count_by_more_yes, count_by_more_no}
use Rattle.std.proofs.Common.{arith, sym}
use Rattle.judge.proofs.place.count_dead_in.Goals as goal

pub loop-phase-preserved : goal.loop-phase-preserved
loop-phase-preserved c = elim c.if-is_dead_in.branch [
  | then-is_dead_in w ↦ (let more = count_by_more_yes is_dead_in c.args.phases.now c.loop-phase.phase-index _ c.loop-phase-test.true (sym w.if-is_dead_in.ensures) in
      omega (arith, w.count-is, c.loop-phase.invariant, more))
  | else-is_dead_in w ↦ (let same = count_by_more_no is_dead_in c.args.phases.now c.loop-phase.phase-index _ c.loop-phase-test.true (sym w.if-is_dead_in.ensures) in
      omega (arith, w.count-is, c.loop-phase.invariant, same))
]
