use Rattle.std.proofs.Common.{take}
use Rattle.schedule.specs.RunningVerdicts.{Hears, running_judge}
use Rattle.algorithm_lab.specs.Runs.{deeds_of}
use Rattle.algorithm_lab.proofs.verdict.hear_all.Given as goal

abbrev pub invariant-loop-one : goal.invariant-loop-one
invariant-loop-one l = Hears (running_judge l.initial.judge l.initial.running_verdict) (deeds_of (take l.one-index l.reports)) (running_judge l.judge l.running_verdict)
