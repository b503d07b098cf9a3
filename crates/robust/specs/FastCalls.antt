-- The calls that have a fast path, and what the fast path of a lock answers.
use Rattle.std.specs.Prelude.{Option, Some, None}
use Rattle.rmeworld.specs.declared.answer.Answer.{Answer}
use Rattle.rmeworld.specs.declared.answer.Answer.TheVariants.{Clean}
use Rattle.rmeworld.specs.declared.call.Call.{Call}
use Rattle.rmeworld.specs.declared.call.Call.TheVariants.{Append, Unlock}
use Rattle.robust.specs.declared.call.led.Led.{Led}
use Rattle.robust.specs.declared.call.led.Led.TheVariants as Leads

-- the calls after another one that have a fast path
abbrev pub HasFastWay : Call → Type 0
HasFastWay (Append seq value) = Unit {0}
HasFastWay Unlock = Unit {0}
HasFastWay _ = ⊥

-- what the fast path answers: none where the machine goes on, an inner none where it was blocked, or the answer
abbrev pub reports_by : Led → Option (Option Answer)
reports_by Leads.Blocked = Some None
reports_by Leads.Entered = Some (Some Clean)
reports_by Leads.Further = None
