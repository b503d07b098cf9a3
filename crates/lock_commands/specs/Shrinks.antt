-- How the command `shrink` ends.
use Rattle.std.specs.Prelude.{◌≡◌, ◌⊎◌, ℕ, List, Option, Result, Ok, Err}
use Rattle.command_parts.specs.Findings.{shrunk_text, shrunk_status}
use Rattle.crashlab.specs.declared.variants.variant.Variant.{Variant}
use Rattle.schedule.specs.declared.replays.replay_fault.ReplayFault.TheVariants as faults_of_replay
use Rattle.schedule.specs.Tapes.{Tape, Reading}
use Rattle.schedule.specs.Schedules.{Scheduled, schedule_at}
use Rattle.schedule.specs.Wholes.{Silent, WasRead}
use Rattle.crashlab.specs.minimization.Shrunk.{IsReason, Shrinks}
use Rattle.command_parts.specs.declared.fault.CommandFault.TheVariants.{Refused}
use Rattle.cli.specs.declared.arguments.args.ShrinkArgs.{ShrinkArgs}
use Rattle.command_parts.specs.ScheduleTexts.{IsWrongText}
use Rattle.command_parts.specs.declared.ending.Ending.{Ending}
use Rattle.command_parts.specs.declared.fault.CommandFault.{CommandFault}
use Rattle.command_parts.specs.Endings.{Prints, ReadsNothing, RunsOut}

-- what shrinking answers is written
pub record TellsShrunk (variant : Variant) (schedule : Scheduled) (before now : Tape) (end : Result Ending CommandFault) : Type 0 where
  pub answer : Option Scheduled
  pub shrinks : Shrinks variant schedule answer
  pub prints : Prints (shrunk_status answer) (shrunk_text answer) before now end

-- the fault is the line that the variant's world refuses, and nothing is written
pub record TellsRefused (variant : Variant) (schedule : Scheduled) (before now : Tape) (end : Result Ending CommandFault) : Type 0 where
  pub line : ℕ
  pub number : ℕ
  pub purpose : IsReason variant schedule (faults_of_replay.Refused line number)
  pub reports : end ≡ Err (Refused line number)
  pub silent : Silent before now

-- the schedule is shrunk, a line of it is refused, or memory has run out before either is known
abbrev pub ShrinksSchedule : Variant → Scheduled → Tape → Tape → Result Ending CommandFault → Type 0
ShrinksSchedule variant schedule before now end =
    TellsShrunk variant schedule before now end ⊎ (TellsRefused variant schedule before now end ⊎ RunsOut before now end)

-- the schedule that was read is shrunk
pub record ShrinksText (variant : Variant) (old new : Reading) (before now : Tape) (end : Result Ending CommandFault) : Type 0 where
  pub text : List ℕ
  pub read : WasRead old new text
  pub schedule : Scheduled
  pub spelled : schedule_at text ≡ Ok schedule
  pub shrunk : ShrinksSchedule variant schedule before now end

-- the text isn't a schedule, and nothing is written
pub record TellsText (old new : Reading) (before now : Tape) (end : Result Ending CommandFault) : Type 0 where
  pub fault : CommandFault
  pub wrong : IsWrongText old new fault
  pub reports : end ≡ Err fault
  pub silent : Silent before now

-- how `shrink` ends
abbrev pub ShrinkEnds : ShrinkArgs → Reading → Reading → Tape → Tape → Result Ending CommandFault → Type 0
ShrinkEnds args old new before now end =
    ShrinksText args.variant old new before now end ⊎ (TellsText old new before now end ⊎ ReadsNothing old new before now end)
