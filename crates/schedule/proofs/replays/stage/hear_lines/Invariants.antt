use Rattle.std.proofs.Common.{◌≤◌, length}
use Rattle.schedule.proofs.ReplaysCommon.{Fed}
use Rattle.schedule.specs.declared.replays.stage.TraceStage.TheVariants as stages
use Rattle.schedule.proofs.replays.stage.hear_lines.Given as goal

abbrev pub invariant-loop-deed : goal.invariant-loop-deed
invariant-loop-deed l = record {
  fed : Fed (stages.Judging l.head l.fn.judge l.fn.running_verdict) (stages.Judging l.head l.judge l.running_verdict) l.text l.rest l.fn.number l.number;
  shorter : length l.rest ≤ length l.text;
}

abbrev pub decreases-loop-deed : goal.decreases-loop-deed
decreases-loop-deed l = length l.rest
