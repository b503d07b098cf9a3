-- How shrinking on a variant ends, from what was written.
use Rattle.std.proofs.Common.{Option, Result, inl}
use Rattle.crashlab.specs.minimization.Shrunk.{Shrinks}
use Rattle.crashlab.specs.declared.variants.variant.Variant.{Variant}
use Rattle.schedule.specs.Schedules.{Scheduled}
use Rattle.schedule.specs.Tapes.{Tape}
use Rattle.command_parts.specs.declared.ending.Ending.{Ending}
use Rattle.command_parts.specs.declared.fault.CommandFault.{CommandFault}
use Rattle.command_parts.specs.Endings.{Prints}
use Rattle.lock_commands.specs.Shrinks.{ShrinksSchedule}
use Rattle.command_parts.specs.Findings.{shrunk_status, shrunk_text}

-- what shrinking answers was written
pub shrunk_reported : (variant : Variant) (schedule : Scheduled) (answer : Option Scheduled) (before now : Tape) (end : Result Ending CommandFault)
    → Shrinks variant schedule answer → Prints (shrunk_status answer) (shrunk_text answer) before now end → ShrinksSchedule variant schedule before now end
shrunk_reported variant schedule answer before now end shrinks prints = inl (record { answer = answer; shrinks = shrinks; prints = prints })
