use Rattle.std.proofs.Common.{take}
use Rattle.diagram.proofs.Common.{Hears, first_running_verdict, running_judge, deeds_of, reports_in, events_in}
use Rattle.diagram.proofs.deed_verdict.verdict_on.Given as goal

abbrev pub invariant-loop-row : goal.invariant-loop-row
invariant-loop-row l = Hears (running_judge l.fn.judge first_running_verdict) (deeds_of (reports_in (events_in (take l.row-index l.rows)))) (running_judge l.judge l.running_verdict)
