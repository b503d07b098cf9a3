use Rattle.std.proofs.Common.{arith}
use Rattle.schedule.proofs.ReplaysCommon.{deed_at}
use Rattle.schedule.specs.declared.replays.stage.TraceStage.TheVariants as stages
use Rattle.schedule.proofs.Fed.{fed_none, fed_more}
use Rattle.schedule.proofs.InPlace.{shorter}
use Rattle.schedule.proofs.replays.stage.hear_lines.Goals as goal

pub loop-deed-init : goal.loop-deed-init
loop-deed-init c = record { fed = fed_none (stages.Judging c.args.head.now c.args.judge.now c.args.running_verdict.now) c.args.text.now c.args.number.now; shorter = omega arith }

pub loop-deed-smaller : goal.loop-deed-smaller
loop-deed-smaller c = omega (arith, shorter (deed_at c.args.head.now.width) c.loop-deed.rest.now c.in-Some.after.now c.in-Some.deed c.in-Some.ensures)

pub loop-deed-preserved : goal.loop-deed-preserved
loop-deed-preserved c = record {
  fed = rw c.saturating_add.ensures (fed_more _ c.args.head.now c.loop-deed.judge c.hear.new.judge c.loop-deed.running_verdict c.hear.new.self c.args.text.now c.loop-deed.rest.now c.in-Some.after.now c.args.number.now c.loop-deed.number c.in-Some.deed c.in-Some.ensures c.hear.ensures c.loop-deed.invariant.fed);
  shorter = omega (arith, c.loop-deed.invariant.shorter, shorter (deed_at c.args.head.now.width) c.loop-deed.rest.now c.in-Some.after.now c.in-Some.deed c.in-Some.ensures);
}
