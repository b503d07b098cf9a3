-- How judging, a hunt and a run end.
use Rattle.std.specs.Prelude.{◌≡◌, ◌≢◌, ◌⊎◌, ◌↔◌, ℕ, ◌-◌, ◌*◌, ◌^◌, ◌<◌, ◌≤◌, min, Bool, true, false, List, All, length, Some, None, Result, Ok, Err, IsErrAnd}
use Rattle.crashlab.specs.declared.variants.variant.Variant.{Variant}
use Rattle.crashlab.specs.declared.variants.variant.Variant.TheVariants.{Right}
use Rattle.crashlab.specs.hunts.Hunted.{found_from}
use Rattle.crashlab.specs.hunts.Hunts.{IsFound}
use Rattle.table_runs.specs.declared.lab.spec.Spec.{Spec}
use Rattle.schedule.specs.Schedules.{Scheduled, spelling}
use Rattle.schedule.specs.Words.{parts_of}
use Rattle.schedule.specs.Tapes.{Tape, Reading}
use Rattle.schedule.specs.Reports.{verdict_line}
use Rattle.schedule.specs.TraceJudges.{trace_answer}
use Rattle.schedule.specs.Wholes.{Silent, WasRead}
use Rattle.schedule.specs.declared.replays.replay_fault.ReplayFault.{ReplayFault}
use Rattle.schedule.specs.declared.replays.verdict.Verdict.{Verdict}
use Rattle.crashlab.specs.minimization.Shrunk.{Shrinks}
use Rattle.diagram.specs.StepLines.{verdict_object}
use Rattle.cli.specs.declared.arguments.args.HuntArgs.{HuntArgs}
use Rattle.cli.specs.declared.arguments.args.RunArgs.{RunArgs}
use Rattle.cli.specs.Sizes.{HuntFits, RunFits}
use Rattle.command_parts.specs.declared.fault.CommandFault.TheVariants.{BadSize, Member, OutOfMemory}
use Rattle.command_parts.specs.declared.ending.Ending.{Ending}
use Rattle.command_parts.specs.declared.fault.CommandFault.{CommandFault}
use Rattle.command_parts.specs.Endings.{Prints, ReadsNothing, RunsOut}
use Rattle.command_parts.specs.Statuses.{fault_of_replay, status_after}
use Rattle.lock_commands.specs.Tallies.{IsFine, tallies_sent, tallies_text}
use Rattle.lock_commands.specs.declared.tally.SenderTally.{SenderTally}
use Rattle.command_parts.specs.Findings.{nothing_line}
use Rattle.table_runs.specs.declared.lab.lab_fault.LabFault.{LabFault}
use Rattle.table_runs.specs.declared.lab.lab_fault.LabFault.TheVariants as of_lab

-- a verdict as a line, or as a JSON object
abbrev pub verdict_text : Bool → Verdict → List ℕ
verdict_text false verdict = verdict_line verdict
verdict_text true verdict = verdict_object verdict

-- the line of a trace's verdict is written, or its fault is answered and nothing is written
abbrev pub TellsVerdict : Bool → Result Verdict ReplayFault → Tape → Tape → Result Ending CommandFault → Type 0
TellsVerdict json (Ok verdict) before now end = Prints (status_after verdict) (verdict_text json verdict) before now end
TellsVerdict json (Err fault) before now end = (end ≡ Err (fault_of_replay fault)) × Silent before now

-- a trace was read to its end: the result is that of its text
pub record TellsTrace (json : Bool) (old new : Reading) (before now : Tape) (end : Result Ending CommandFault) : Type 0 where
  pub text : List ℕ
  pub read : WasRead old new text
  pub reports : TellsVerdict json (trace_answer (parts_of text)) before now end

-- how `judge` ends
abbrev pub JudgeEnds : Bool → Reading → Reading → Tape → Tape → Result Ending CommandFault → Type 0
JudgeEnds json old new before now end = ReadsNothing old new before now end ⊎ TellsTrace json old new before now end

-- the schedule that was found is written, or a shrunk one
abbrev pub TellsFound : Bool → Variant → Scheduled → Tape → Tape → Result Ending CommandFault → Type 0
TellsFound false variant found before now end = Prints 1 (spelling found) before now end
TellsFound true variant found before now end =
    ((least : Scheduled) × Shrinks variant found (Some least) × Prints 1 (spelling least) before now end) ⊎ RunsOut before now end

-- a wrong variant fails on a schedule with at most the moves asked for, and the schedule is written
pub record TellsFind (args : HuntArgs) (before now : Tape) (end : Result Ending CommandFault) : Type 0 where
  pub wrong : args.variant ≢ Right
  pub schedule : Scheduled
  pub few : length schedule.lines ≤ args.moves.steps
  pub found : IsFound args.variant schedule
  pub exact : Some schedule ≡ found_from args.variant args.moves args.first_round args.rounds
  pub text : TellsFound args.shrink args.variant schedule before now end

-- how `hunt` ends: nothing found, a schedule found, sizes out of their ranges, or out of memory before either is known
abbrev pub HuntEnds : HuntArgs → Tape → Tape → Result Ending CommandFault → Type 0
HuntEnds args before now end =
    (None ≡ found_from args.variant args.moves args.first_round args.rounds) × Prints 0 nothing_line before now end
    ⊎ TellsFind args before now end
    ⊎ (end ≡ Err BadSize) × (HuntFits args → ⊥) × Silent before now
    ⊎ RunsOut before now end

-- the sizes of a run's lab: room for each message, and the greatest limit of numbers
abbrev pub lab_for : RunArgs → Spec
lab_for args =
    record {
      procs = args.procs;
      messages = args.messages;
      limit = 2 ^ 62;
      cap = min (args.procs * args.messages) (2 ^ 64 - 1);
      width = args.width;
    }

-- the lines of these tallies are written, and the status is 0 if each message came once and in order
pub record TellsTallies (tallies : List SenderTally) (before now : Tape) (end : Result Ending CommandFault) : Type 0 where
  pub status : ℕ
  pub few : (status ≡ 0) ⊎ (status ≡ 1)
  pub fine : (status ≡ 0) ↔ All IsFine tallies
  pub prints : Prints status (tallies_text tallies) before now end

-- why a run has no tallies: a size is outside its range, a sender could not go on, or memory has run out
abbrev pub HasNoTallies : RunArgs → CommandFault → Type 0
HasNoTallies args BadSize = RunFits args → ⊥
HasNoTallies args (Member p) = p < args.procs
HasNoTallies args OutOfMemory = Unit {0}
HasNoTallies args fault = ⊥

-- how `run` ends: each sender has all its messages in the mailbox, each once and in order; or there are no tallies
abbrev pub RunEnds : RunArgs → Tape → Tape → Result Ending CommandFault → Type 0
RunEnds args before now end =
    Prints 0 (tallies_text (tallies_sent args.procs args.messages)) before now end ⊎ IsErrAnd end (λ fault. HasNoTallies args fault × Silent before now)

-- the fault of a lab
abbrev pub fault_of_lab : LabFault → CommandFault
fault_of_lab of_lab.BadSpec = BadSize
fault_of_lab of_lab.OutOfMemory = OutOfMemory
fault_of_lab (of_lab.Member p fault) = Member p
fault_of_lab (of_lab.Reply p reply) = Member p
