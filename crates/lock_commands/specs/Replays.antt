-- How a replay ends.
use Rattle.std.specs.Prelude.{◌≡◌, ◌≢◌, ℕ, Bool, false, List, Option, None, is_some, IfSome, Vec, Result, Ok, IfOk}
use Rattle.std.specs.declared.alloc.Global.{Global}
use Rattle.crashlab.specs.declared.variants.variant.Variant.TheVariants.{Right}
use Rattle.rmeworld.specs.declared.image.Image.{Image}
use Rattle.rmeworld.specs.ImageText.{image_line}
use Rattle.rmeworld.specs.Replayed.{image_of}
use Rattle.rmecore.specs.declared.refusal.Refusal.{Refusal}
use Rattle.judge.specs.Table.{State}
use Rattle.schedule.specs.declared.replays.replay_fault.ReplayFault.{ReplayFault}
use Rattle.schedule.specs.declared.replays.verdict.Verdict.{Verdict}
use Rattle.schedule.specs.Tapes.{Tape, Reading}
use Rattle.schedule.specs.Schedules.{Scheduled, schedule_at}
use Rattle.schedule.specs.Runs.{Part, deeds_of}
use Rattle.schedule.specs.Verdicts.{verdict_on}
use Rattle.schedule.specs.Wholes.{WasRead, ReplaysSource, world_run}
use Rattle.cli.specs.declared.arguments.args.ReplayArgs.{ReplayArgs}
use Rattle.command_parts.specs.declared.ending.Ending.{Ending}
use Rattle.command_parts.specs.declared.fault.CommandFault.{CommandFault}
use Rattle.command_parts.specs.Endings.{IsEnded, TellsReads}
use Rattle.command_parts.specs.Statuses.{outcome, replay_status, status_after, status_ended}
use Rattle.lock_commands.specs.Tellings.{Manner, Replayed, TellsRead, RunRequest}

-- only the report of a schedule on the right lock is asked for
abbrev pub IsPlainReplay : ReplayArgs → Option (List ℕ) → Type 0
IsPlainReplay args image = (image ≡ None) × (args.variant ≡ Right) × (args.json ≡ false) × (args.each ≡ false) × (args.save ≡ None)

-- how the run is to be written
abbrev pub replay_manner : ReplayArgs → Manner
replay_manner args = Replayed args.each args.json (is_some args.save)

abbrev pub replay_request : ReplayArgs → RunRequest
replay_request args = record { variant = args.variant; manner = replay_manner args }

-- the report of the schedule that was read was written, or the command answers why not
abbrev pub TellsReplay : Reading → Reading → Tape → Tape → Result Ending CommandFault → Type 0
TellsReplay old new before now end =
    (answer : Result Verdict ReplayFault) × ReplaysSource old new before now answer × (outcome end ≡ replay_status answer)

-- the right lock is asked for, from the beginning
abbrev pub IsFromBeginning : ReplayArgs → Option (List ℕ) → Type 0
IsFromBeginning args image = (image ≡ None) × (args.variant ≡ Right)

-- these bytes are the image after the run of a schedule on a new world
abbrev pub IsLast : Scheduled → List ℕ → Type 0
IsLast schedule bytes = bytes ≡ image_line (image_of (world_run schedule).left)

-- the image to be saved, if any, is the last image of the schedule that was read
pub record SavesLast (old new : Reading) (save : Option (Vec ℕ Global)) : Type 0 where
  pub text : List ℕ
  pub read : WasRead old new text
  pub schedule : Scheduled
  pub spelled : schedule_at text ≡ Ok schedule
  pub last : IfSome save (λ image. IsLast schedule image.items)

-- a schedule was played up to its verdict, from this state of the judge on
pub record IsPlayedToVerdict {S : Type 0} (start : State) (run : Part S (ℕ × Refusal)) (left : S) (before now : ℕ) (verdict : Verdict) : Type 0 where
  pub verdict_is : verdict ≡ verdict_on start (deeds_of run.reports)
  pub left_is : left ≡ run.left
  pub whole : now ≡ before

-- the command has ended: the image to be saved is that of the machine after the run
pub record IsReplayed {S : Type 0} (start : State) (run : Part S (ℕ × Refusal)) (picture_of : S → Image) (saves : Bool) (before now : ℕ) (ending : Ending) : Type 0 where
  pub status_is : ending.status ≡ status_after (verdict_on start (deeds_of run.reports))
  pub last : IfSome ending.save (λ text. text.items ≡ image_line (picture_of run.left))
  pub ended : IsEnded saves before now ending

-- whatever else is asked for, no verdict is against the right lock, and a failed read isn't taken for the end of the text
abbrev pub ReplayEnds : ReplayArgs → Option (List ℕ) → Reading → Reading → Tape → Tape → Result Ending CommandFault → Type 0
ReplayEnds args image old new before now end =
    (status_ended end ≡ 1 → args.variant ≢ Right) × (IsPlainReplay args image → TellsReplay old new before now end)
    × (IsFromBeginning args image → IfOk end (λ ending. SavesLast old new ending.save))
    × ((IsPlainReplay args image → ⊥) → TellsRead (replay_request args) image old new before now end) × TellsReads old new end
