-- What is written of a schedule's run, on the machine that is asked for: a drawing, the run step by step, or its report.
use Rattle.std.specs.Prelude.{◌≡◌, ◌≢◌, ◌⊎◌, ℕ, ◌+◌, ◌-◌, ◌^◌, min, Bool, true, false, List, Option, Some, None, Result, Ok, Err, IfOk, IfSome, IsOk}
use Rattle.command_parts.specs.declared.ending.Ending.{Ending}
use Rattle.command_parts.specs.declared.fault.CommandFault.{CommandFault}
use Rattle.command_parts.specs.Endings.{FailsToRead, RefusesCommand}
use Rattle.crashlab.specs.declared.variants.variant.Variant.{Variant}
use Rattle.crashlab.specs.declared.variants.variant.Variant.TheVariants.{Right}
use Rattle.crashlab.specs.variants.VariantWorlds as variants
use Rattle.diagram.specs.declared.act.DiagramRow.{DiagramRow}
use Rattle.diagram.specs.declared.drawing.End.{End}
use Rattle.diagram.specs.declared.drawing.End.TheVariants as ends
use Rattle.diagram.specs.declared.phase.LifelinePhase.{LifelinePhase}
use Rattle.diagram.specs.declared.phase.LifelinePhase.TheVariants.{Rest, Dead}
use Rattle.diagram.specs.declared.diagram_layout.Style.{Style}
use Rattle.diagram.specs.Drawings.{diagram_layout_of, drawing_text}
use Rattle.diagram.specs.Events.{DiagramEvent, events_on}
use Rattle.diagram.specs.Followed.{FollowsRun}
use Rattle.diagram.specs.MarkedRuns.{marked_run_text}
use Rattle.diagram.specs.Pages.{page_text}
use Rattle.diagram.specs.Rows.{events_in, EndsAs, IsJudged}
use Rattle.diagram.specs.StepLines.{FollowsAsLines, step_lines}
use Rattle.diagram.specs.DiagramLayouts.{layout_of as sizes_of}
use Rattle.judge.specs.Starts.{state_of}
use Rattle.rmecore.specs.declared.refusal.Refusal.{Refusal}
use Rattle.rmecore.specs.Refused.{number_of}
use Rattle.judge.specs.Table.{State, empty_state}
use Rattle.judge.specs.declared.start.Start.{Start}
use Rattle.rmeworld.specs.declared.image.Image.{Image}
use Rattle.rmeworld.specs.ImageRules.{IsLawfulImage}
use Rattle.rmeworld.specs.ImageText.{image_line}
use Rattle.rmeworld.specs.ImageStart.{IsStartOf}
use Rattle.rmeworld.specs.Replayed.{world_behaviour}
use Rattle.rmeworld.specs.WorldState.{image_world, new_world}
use Rattle.schedule.specs.declared.replays.replay_fault.ReplayFault.{ReplayFault}
use Rattle.schedule.specs.declared.replays.replay_fault.ReplayFault.TheVariants as of_replay
use Rattle.schedule.specs.declared.replays.verdict.Verdict.{Verdict}
use Rattle.schedule.specs.Tapes.{Tape, Writes, Begins, BreaksOff, Reading}
use Rattle.schedule.specs.Reports.{IsReport}
use Rattle.schedule.specs.Runs.{Part, deeds_of, run_on}
use Rattle.schedule.specs.Verdicts.{verdict_on}
use Rattle.rmeworld.specs.Behaviours.{Behaviour}
use Rattle.schedule.specs.Replays.{Replays}
use Rattle.schedule.specs.Schedules.{Scheduled, head_of, schedule_at}
use Rattle.command_parts.specs.declared.fault.CommandFault.TheVariants as faults
use Rattle.lock_commands.specs.Settings.{IsFitting, IsMadeFit, IsMisfit, IsPicture, IsUnmade, IsWrongImage}
use Rattle.command_parts.specs.ScheduleTexts.{IsWrongText}
use Rattle.command_parts.specs.ReportObjects.{report_object}
use Rattle.command_parts.specs.Statuses.{outcome, replay_status, status_after}
use Rattle.schedule.specs.Wholes.{Silent, WasRead, layout_of}

-- ---- one run

-- a drawing, a page, or a replay: with each step, or the report alone; as JSON; and whether its last image is to be saved
pub data Manner : Type 0 where
  Drawn : Style → Manner
  Paged : Manner
  Replayed : Bool → Bool → Bool → Manner

-- the status of a run that is drawn to its end is that of its verdict; if a line was refused, that is the fault
abbrev pub ending_of : End → Result Ending CommandFault
ending_of (ends.Judged verdict) = Ok (record { status = status_after verdict; save = None })
ending_of (ends.Refused line number verdict) = Err (faults.Refused line number)

-- the text of a drawing was written, or a prefix of it if the device or memory has failed. Out of memory leaves some of it
-- unwritten
abbrev pub IsDrawingWritten : Tape → Tape → List ℕ → End → Result Ending CommandFault → Type 0
IsDrawingWritten before now text last (Err faults.Write) = Begins before.taken now.taken text × (now.failures ≡ min (before.failures + 1) (2 ^ 64 - 1))
IsDrawingWritten before now text last (Err faults.OutOfMemory) = BreaksOff before.taken now.taken text × (now.failures ≡ before.failures)
IsDrawingWritten before now text last end = Writes before now text × (end ≡ ending_of last)

-- a schedule that is played on a machine: the states in which its judge and the machine begin, and the phase of each process there
pub record RunStart (S : Type 0) : Type 0 where
  pub machine : Behaviour S
  pub judged : State
  pub first : S
  pub phase : LifelinePhase
  pub schedule : Scheduled

abbrev pub run_start : {S : Type 0} → Behaviour S → State → S → LifelinePhase → Scheduled → RunStart S
run_start machine judged first phase schedule = record { machine = machine; judged = judged; first = first; phase = phase; schedule = schedule }

-- its run
abbrev pub run_of : {S : Type 0} → RunStart S → Part S (ℕ × Refusal)
run_of start = run_on start.machine 2 start.first start.schedule.lines

-- the steps and crashes of its run
abbrev pub run_events : {S : Type 0} → RunStart S → List DiagramEvent
run_events start = events_on start.machine start.first start.schedule.lines

-- the rows of the drawing show exactly the steps and crashes of the schedule's run, and how it ends
pub record DrawsMachineRun {S : Type 0} (style : Style) (start : RunStart S) (before now : Tape) (end : Result Ending CommandFault) : Type 0 where
  pub rows : List DiagramRow
  pub last : End
  pub shows : events_in rows ≡ run_events start
  pub ends_as : EndsAs start.judged (run_of start) last
  pub written : IsDrawingWritten before now (drawing_text (diagram_layout_of style (head_of start.schedule) rows last) start.phase rows last) last end

-- a drawing in this style, or a page
abbrev pub drawn_as : Bool → Style → Manner
drawn_as true style = Paged
drawn_as false style = Drawn style

-- the page is that of rows which show exactly the steps and crashes of the schedule's run, and of its first and last image
pub record PagesRun {S : Type 0} (start : RunStart S) (before now : Tape) (end : Result Ending CommandFault) : Type 0 where
  pub rows : List DiagramRow
  pub last : End
  pub after : Image
  pub shows : events_in rows ≡ run_events start
  pub ends_as : EndsAs start.judged (run_of start) last
  pub left : IsJudged last → after ≡ start.machine.image_of (run_of start).left
  pub written : IsDrawingWritten before now (page_text (head_of start.schedule) start.phase (start.machine.image_of start.first) rows after last) last end

-- this is the report of a run, of which no line is refused
pub record IsReportOf {S : Type 0} (start : State) (picture_of : S → Image) (run : Part S (ℕ × Refusal)) (text : List ℕ) : Type 0 where
  pub accepted : run.refused ≡ None
  pub report : IsReport start (picture_of run.left) run.reports text

-- the report of a run was written as one JSON object, and its verdict is that of the run
pub record ReportsObject {S : Type 0} (before now : Tape) (start : State) (picture_of : S → Image) (run : Part S (ℕ × Refusal)) (verdict : Verdict) : Type 0 where
  pub verdict_is : verdict ≡ verdict_on start (deeds_of run.reports)
  pub text : List ℕ
  pub of_run : IsReportOf start picture_of run text
  pub writes : Writes before now (report_object text)

-- a write has failed after a beginning of the object
pub record BeginsObject {S : Type 0} (before now : Tape) (start : State) (picture_of : S → Image) (run : Part S (ℕ × Refusal)) : Type 0 where
  pub text : List ℕ
  pub of_run : IsReportOf start picture_of run text
  pub begins : Begins before.taken now.taken (report_object text)
  pub failed : now.failures ≡ min (before.failures + 1) (2 ^ 64 - 1)

-- the result of a replay that writes its report as one JSON object. Where a line is refused or memory has run out, nothing is written
abbrev pub ReplaysObject : {S : Type 0} → Tape → Tape → State → (S → Image) → Part S (ℕ × Refusal) → Result Verdict ReplayFault → Type 0
ReplaysObject before now start picture_of run (Ok verdict) = ReportsObject before now start picture_of run verdict
ReplaysObject before now start picture_of run (Err (of_replay.Refused line number)) =
    Silent before now × ((refusal : Refusal) × (run.refused ≡ Some (line, refusal)) × (number_of refusal ≡ Some number))
ReplaysObject before now start picture_of run (Err of_replay.Write) = BeginsObject before now start picture_of run
ReplaysObject before now start picture_of run (Err of_replay.OutOfMemory) = Silent before now
ReplaysObject before now start picture_of run (Err fault) = ⊥

-- the result of a replay that writes each step, as JSON or as text, or the report alone
abbrev pub AnswersRun : {S : Type 0} → Bool → Bool → RunStart S → Tape → Tape → Result Verdict ReplayFault → Type 0
AnswersRun true true start before now answer =
    FollowsAsLines before now start.judged start.machine.image_of (run_of start)
    (step_lines (head_of start.schedule) start.phase (start.machine.image_of start.first) (run_events start)) answer
AnswersRun true false start before now answer =
    FollowsRun before now start.judged start.machine.image_of (run_of start)
    (marked_run_text (sizes_of (head_of start.schedule)) start.phase (run_events start)) answer
AnswersRun false true start before now answer = ReplaysObject before now start.judged start.machine.image_of (run_of start) answer
AnswersRun false false start before now answer = Replays before now start.judged start.machine.image_of (run_of start) answer

-- out of memory for the image that is to be saved, after a verdict
abbrev pub WantsImage : Bool → Result Verdict ReplayFault → Result Ending CommandFault → Type 0
WantsImage saves answer end = (saves ≡ true) × IsOk answer × (end ≡ Err faults.OutOfMemory)

-- the run was written, and the command has that result; or it was out of memory for the image to be saved. The image is
-- the one after the run
pub record ReplaysRun {S : Type 0} (each json saves : Bool) (start : RunStart S) (before now : Tape) (end : Result Ending CommandFault) : Type 0 where
  pub answer : Result Verdict ReplayFault
  pub answers : AnswersRun each json start before now answer
  pub ends_so : (outcome end ≡ replay_status answer) ⊎ WantsImage saves answer end
  pub last : IfOk end (λ ending. IfSome ending.save (λ text. text.items ≡ image_line (start.machine.image_of (run_of start).left)))

-- nothing is written: out of memory
pub record Wants (before now : Tape) (end : Result Ending CommandFault) : Type 0 where
  pub silent : Silent before now
  pub memory : end ≡ Err faults.OutOfMemory

-- the run is written in this manner, or there was no memory
abbrev pub WritesRun : {S : Type 0} → Manner → RunStart S → Tape → Tape → Result Ending CommandFault → Type 0
WritesRun (Drawn style) start before now end = DrawsMachineRun style start before now end ⊎ Wants before now end
WritesRun Paged start before now end = PagesRun start before now end ⊎ Wants before now end
WritesRun (Replayed each json saves) start before now end = ReplaysRun each json saves start before now end ⊎ Wants before now end

-- ---- the machine that is asked for

-- on a new world of the right lock, all processes at rest
abbrev pub TellsNew : Manner → Scheduled → Tape → Tape → Result Ending CommandFault → Type 0
TellsNew manner schedule before now end =
    RefusesCommand before now (IsUnmade schedule) end
    ⊎ WritesRun manner (run_start world_behaviour (empty_state schedule.procs schedule.cap) (new_world (layout_of schedule) schedule.limit) Rest schedule) before now end

-- on a new world of a variant
abbrev pub TellsVariant : Variant → Manner → Scheduled → Tape → Tape → Result Ending CommandFault → Type 0
TellsVariant variant manner schedule before now end =
    RefusesCommand before now (IsUnmade schedule) end
    ⊎ WritesRun manner (run_start variants.variant_behaviour (empty_state schedule.procs schedule.cap) (variants.new_world variant (layout_of schedule) schedule.limit) Rest schedule) before now end

-- on the world of an image, all processes dead, with a judge that starts in the state of the image
pub record TellsOn (image : Image) (manner : Manner) (schedule : Scheduled) (before now : Tape) (end : Result Ending CommandFault) : Type 0 where
  pub lawful : IsLawfulImage image
  pub fits : IsFitting image schedule
  pub start : Start
  pub begins : IsStartOf image start
  pub tells : WritesRun manner (run_start world_behaviour (state_of start) (image_world image) Dead schedule) before now end

-- on the world of this image if it fits the header, or of the widened image
abbrev pub TellsImage : Image → Manner → Scheduled → Tape → Tape → Result Ending CommandFault → Type 0
TellsImage image manner schedule before now end =
    RefusesCommand before now (IsMisfit image schedule) end
    ⊎ (Wants before now end ⊎ ((fitted : Image) × IsMadeFit schedule.width image fitted × TellsOn fitted manner schedule before now end))

-- an image goes with the right lock only
abbrev pub TellsSchedule : Variant → Option Image → Manner → Scheduled → Tape → Tape → Result Ending CommandFault → Type 0
TellsSchedule variant (Some image) manner schedule before now end = TellsImage image manner schedule before now end
TellsSchedule variant None manner schedule before now end =
    (variant ≡ Right → TellsNew manner schedule before now end) × (variant ≢ Right → TellsVariant variant manner schedule before now end)

-- ---- the whole

-- what is asked for: a run on this variant, written in this manner
pub record RunRequest : Type 0 where
  pub variant : Variant
  pub manner : Manner

-- the run of the schedule that was read is written, on the image of the text that is given, if one is
pub record WritesReadRun (request : RunRequest) (image : Option (List ℕ)) (old new : Reading) (before now : Tape) (end : Result Ending CommandFault) : Type 0 where
  pub text : List ℕ
  pub read : WasRead old new text
  pub schedule : Scheduled
  pub spelled_so : schedule_at text ≡ Ok schedule
  pub picture : Option Image
  pub pictured : IsPicture image picture
  pub reports : TellsSchedule request.variant picture request.manner schedule before now end

-- what is wrong with what was read: the image or the text; or a device or memory has failed
abbrev pub IsUnreadable : Option (List ℕ) → Reading → Reading → CommandFault → Type 0
IsUnreadable image old new fault =
    FailsToRead old new fault ⊎ (IsWrongImage image fault ⊎ IsWrongText old new fault)

-- the run is written, or the fault of what was to be read is answered
abbrev pub TellsRead : RunRequest → Option (List ℕ) → Reading → Reading → Tape → Tape → Result Ending CommandFault → Type 0
TellsRead request image old new before now end =
    RefusesCommand before now (IsUnreadable image old new) end ⊎ WritesReadRun request image old new before now end
