-- A run as JSON, an object a line (docs/dev/texts.md, "Step by step as JSON"): the format, the image before the first step, each
-- step or crash with the lock words after it, the last image, and the verdict.
use Rattle.std.specs.Prelude.{◌≡◌, ℕ, ◌+◌, ◌-◌, ◌^◌, min, List, [], ◌∷◌, ◌++◌, map, codes, Option, Some, None, Result, Ok, Err, OnOk, get_or, slice_set, if◌then◌else◌}
use Rattle.std.specs.Fmt.{decimal}
use Rattle.std.specs.List.{join_with_byte}
use Rattle.rmecore.specs.declared.fault.Fault.{Fault}
use Rattle.rmecore.specs.declared.fault.Fault.TheVariants.{Overtaken}
use Rattle.rmecore.specs.declared.happened.Happened.{Happened}
use Rattle.rmecore.specs.declared.kind.Kind.{Kind}
use Rattle.rmecore.specs.declared.own.Own.{Own}
use Rattle.rmecore.specs.declared.refusal.Refusal.{Refusal}
use Rattle.rmecore.specs.declared.word.Word.{Word}
use Rattle.rmecore.specs.declared.word.Word.TheVariants.{Choosing, Number, Inside, Data}
use Rattle.rmecore.specs.Refused.{number_of}
use Rattle.redomail.specs.declared.deed.Deed.{Deed}
use Rattle.redomail.specs.declared.layout.Layout.{Layout}
use Rattle.judge.specs.Table.{State}
use Rattle.rmeworld.specs.declared.answer.Answer.{Answer}
use Rattle.rmeworld.specs.declared.image.Image.{Image}
use Rattle.rmeworld.specs.ImageText.{image_line}
use Rattle.schedule.specs.declared.replays.replay_fault.ReplayFault.{ReplayFault}
use Rattle.schedule.specs.declared.replays.replay_fault.ReplayFault.TheVariants as faults
use Rattle.schedule.specs.declared.replays.verdict.Verdict.{Verdict}
use Rattle.schedule.specs.declared.replays.verdict.Verdict.TheVariants.{Fine, Against}
use Rattle.schedule.specs.declared.texts.head.Head.{Head}
use Rattle.schedule.specs.Answers.{words_of_answer}
use Rattle.schedule.specs.Deeds.{words_of_deed}
use Rattle.schedule.specs.Runs.{Part, deeds_of}
use Rattle.schedule.specs.Tapes.{Tape, Writes, Begins, BreaksOff}
use Rattle.schedule.specs.Verdicts.{number_of_fault, verdict_on}
use Rattle.diagram.specs.declared.act.RowAct.{RowAct}
use Rattle.diagram.specs.declared.act.RowAct.TheVariants.{Silent, Telling, Fell}
use Rattle.diagram.specs.declared.act.DiagramRow.{DiagramRow}
use Rattle.diagram.specs.declared.drawing.End.{End}
use Rattle.diagram.specs.declared.drawing.End.TheVariants.{Judged, Refused}
use Rattle.diagram.specs.declared.phase.LifelinePhase.{LifelinePhase}
use Rattle.diagram.specs.declared.phase.LifelinePhase.TheVariants.{Rest}
use Rattle.diagram.specs.declared.remote_marks.RemoteMarks.{RemoteMarks}
use Rattle.diagram.specs.DiagramLayouts.{layout_of}
use Rattle.diagram.specs.Drawings.{WritesText}
use Rattle.diagram.specs.Events.{DiagramEvent}
use Rattle.diagram.specs.Followed.{row_of}
use Rattle.diagram.specs.MarkedRuns.{MarkedStepsState, last_marks, marked_steps_with, steps_at_start}
use Rattle.diagram.specs.Pictures.{around, class_of}
use Rattle.diagram.specs.RemoteMarks.{marks_member}
use Rattle.diagram.specs.Rows.{deed_of, answer_of}
use Rattle.diagram.specs.Signs.{name_of, stores, word_sign}

-- ---- the lock words after a step

-- the lock words of process j; past the list all 0
abbrev pub own_at : List Own → ℕ → Own
own_at lock j = get_or lock j (record { choosing = 0; number = 0; inside = 0 })

-- a word is stored. Past the list, and of a data word, nothing changes
abbrev pub words_after_store : List Own → Word → ℕ → List Own
words_after_store lock (Choosing j) v = slice_set lock j (record (own_at lock j) { choosing = v })
words_after_store lock (Number j) v = slice_set lock j (record (own_at lock j) { number = v })
words_after_store lock (Inside j) v = slice_set lock j (record (own_at lock j) { inside = v })
words_after_store lock (Data i) v = lock

-- only a step that stores changes a word
abbrev pub lock_after : List Own → Happened → List Own
lock_after lock h = if stores h.kind then words_after_store lock h.word h.value else lock

-- the lock words after a row. A crash changes none
abbrev pub lock_with : List Own → RowAct → List Own
lock_with lock (Silent h times) = lock_after lock h
lock_with lock (Telling step) = lock_after lock step.happened
lock_with lock (Fell deed) = lock

-- ---- the objects

-- what has been played so far: what its steps have shown, and the lock words
pub record PlayedState : Type 0 where
  pub steps : MarkedStepsState
  pub lock : List Own

-- the same after a row
abbrev pub played_with : PlayedState → DiagramRow → PlayedState
played_with played row = record { steps = marked_steps_with played.steps row; lock = lock_with played.lock row.act }

-- a step or a crash: its number from 1 on, its marks, and the process's phase and all lock words after it
pub record StepObject : Type 0 where
  pub step : ℕ
  pub row : DiagramRow
  pub phase : LifelinePhase
  pub marks : Option RemoteMarks
  pub lock : List Own

-- the object of a row, where the row has been played
abbrev pub object_of : PlayedState → DiagramRow → StepObject
object_of played row =
    record {
      step = played.steps.lifelines.rows;
      row = row;
      phase = get_or played.steps.lifelines.phases row.p Rest;
      marks = last_marks played.steps;
      lock = played.lock;
    }

-- the objects of rows, where those before them have been played
abbrev pub objects_of : PlayedState → List DiagramRow → List StepObject
objects_of played [] = []
objects_of played (row ∷ rows) = object_of (played_with played row) row ∷ objects_of (played_with played row) rows

-- ---- their text

abbrev pub quoted_text : List ℕ → List ℕ
quoted_text text = 34 ∷ text ++ 34 ∷ []

abbrev pub null_text : List ℕ
null_text = codes "null"

-- whether a step loads its word or stores it
abbrev pub access_name : Kind → List ℕ
access_name kind = if stores kind then codes "store" else codes "load"

-- the kind of a step, and its word as no process names it: a lock word has its index
unfoldable pub happened_text : Layout → Happened → List ℕ
happened_text l h =
    codes "\"kind\":\"" ++ name_of h.kind ++ codes "\",\"access\":\"" ++ access_name h.kind ++ codes "\",\"word\":\"" ++ word_sign l l.procs h.word
    ++ around (codes "\",\"value\":") h.value []

-- what a process does. A crash has no access
abbrev pub act_text : Layout → RowAct → List ℕ
act_text l (Silent h times) = happened_text l h
act_text l (Telling step) = happened_text l step.happened
act_text l (Fell deed) = codes "\"kind\":\"crash\",\"access\":null,\"word\":null,\"value\":null"

-- a line of the report, without its end
abbrev pub deed_text : Option Deed → List ℕ
deed_text None = null_text
deed_text (Some deed) = quoted_text (join_with_byte 32 (words_of_deed deed))

abbrev pub answer_text : ℕ → Option Answer → List ℕ
answer_text p None = null_text
answer_text p (Some answer) = quoted_text (join_with_byte 32 (codes "answer" ∷ decimal p ∷ words_of_answer answer))

-- the lock words of a process: choosing, number, inside
unfoldable pub own_text : Own → List ℕ
own_text own = around (codes "[") own.choosing (around (codes ",") own.number (around (codes ",") own.inside (codes "]")))

-- further ones, each after a comma
abbrev pub more_owns : List Own → List ℕ
more_owns [] = []
more_owns (own ∷ lock) = 44 ∷ own_text own ++ more_owns lock

abbrev pub owns_text : List Own → List ℕ
owns_text [] = []
owns_text (own ∷ lock) = own_text own ++ more_owns lock

-- the beginning of the object of a step: its number, its process, and the phase of that after it
unfoldable pub step_place : ℕ → ℕ → LifelinePhase → List ℕ
step_place step p phase =
    around (codes "{\"step\":") step (around (codes ",\"process\":") p (codes ",\"phase\":\"")) ++ class_of phase ++ codes "\","

abbrev pub place_text : StepObject → List ℕ
place_text object = step_place object.step object.row.p object.phase

-- what it tells, and the lock words after it
unfoldable pub report_text : ℕ → Option Deed → Option Answer → List Own → List ℕ
report_text p deed answer lock =
    codes ",\"deed\":" ++ deed_text deed ++ codes ",\"answer\":" ++ answer_text p answer ++ codes ",\"lock\":[" ++ owns_text lock ++ codes "]}\n"

-- the line of an object
unfoldable pub object_line : Layout → StepObject → List ℕ
object_line l object =
    place_text object ++ act_text l object.row.act ++ marks_member object.marks
    ++ report_text object.row.p (deed_of object.row.act) (answer_of object.row.act) object.lock

-- the lines of objects
abbrev pub object_lines : Layout → List StepObject → List ℕ
object_lines l [] = []
object_lines l (object ∷ objects) = object_line l object ++ object_lines l objects

-- what has been played after rows
abbrev pub played_after : PlayedState → List DiagramRow → PlayedState
played_after played [] = played
played_after played (row ∷ rows) = played_after (played_with played row) rows

-- the lines of rows are written, and what has been played after them is left; or a beginning is written, and the reason why not
-- the rest
abbrev pub TellsObjects : {A : Type 0} → Tape → Tape → Layout → PlayedState → PlayedState → List DiagramRow → Result A ReplayFault → Type 0
TellsObjects before now l played after_it rows result =
    WritesText before now (object_lines l (objects_of played rows)) result × OnOk result (after_it ≡ played_after played rows)

-- ---- the whole

-- the name of the format, and its version
unfoldable pub format_line : List ℕ
format_line = codes "{\"format\":\"rmelab steps\",\"version\":1}\n"

-- who came before whom, of fault 4
abbrev pub overtaking_text : Fault → List ℕ
overtaking_text (Overtaken by of) = around (codes ",\"by\":") by (around (codes ",\"of\":") of [])
overtaking_text _ = []

-- the number of a fault
unfoldable pub fault_text : Fault → List ℕ
fault_text fault = around (codes "{\"verdict\":\"against\",\"fault\":") (number_of_fault fault) (codes ",\"deed\":")

-- the deed that a verdict is against, and why
unfoldable pub against_text : ℕ → Fault → List ℕ
against_text at fault = fault_text fault ++ decimal at ++ overtaking_text fault ++ codes "}\n"

-- the verdict as an object
abbrev pub verdict_object : Verdict → List ℕ
verdict_object Fine = codes "{\"verdict\":\"fine\"}\n"
verdict_object (Against at fault) = against_text at fault

-- before the first step of a run all processes are in the same phase
abbrev pub state_before_steps : Head → LifelinePhase → Image → List DiagramEvent → PlayedState
state_before_steps head first image events = record { steps = steps_at_start (layout_of head) first events; lock = image.lock }

-- the objects of a run's steps and crashes
abbrev pub objects_on : Head → LifelinePhase → Image → List DiagramEvent → List StepObject
objects_on head first image events = objects_of (state_before_steps head first image events) (map row_of events)

-- the lines before the first step
unfoldable pub first_lines : Image → List ℕ
first_lines image = format_line ++ image_line image

-- all lines but the last two, from the image before the first step on
abbrev pub step_lines : Head → LifelinePhase → Image → List DiagramEvent → List ℕ
step_lines head first image events = first_lines image ++ object_lines (layout_of head) (objects_on head first image events)

-- the last two lines: the last image, and the verdict
unfoldable pub last_lines : Image → Verdict → List ℕ
last_lines image verdict = image_line image ++ verdict_object verdict

-- what is written after the steps of a run that has ended so, on a machine with this image
abbrev pub EndingLines : Tape → Tape → Image → End → Result Verdict ReplayFault → Type 0
EndingLines before now image (Judged verdict) (Ok said) = (said ≡ verdict) × Writes before now (last_lines image verdict)
EndingLines before now image (Judged verdict) (Err faults.Write) =
    Begins before.taken now.taken (last_lines image verdict) × (now.failures ≡ min (before.failures + 1) (2 ^ 64 - 1))
EndingLines before now image (Judged verdict) (Err faults.OutOfMemory) =
    BreaksOff before.taken now.taken (last_lines image verdict) × (now.failures ≡ before.failures)
EndingLines before now image (Refused line number verdict) (Err (faults.Refused at purpose)) = (at ≡ line) × (purpose ≡ number) × Writes before now []
EndingLines before now image (Refused line number verdict) (Err faults.Write) =
    (now.taken ≡ before.taken) × (now.failures ≡ min (before.failures + 1) (2 ^ 64 - 1))
EndingLines before now image end result = ⊥

-- all lines of a run: its steps and the last two lines, or only its steps up to the line that is refused
abbrev pub all_lines : {S : Type 0} → State → (S → Image) → Part S (ℕ × Refusal) → Option (ℕ × Refusal) → List ℕ → List ℕ
all_lines start image_of run None steps = steps ++ last_lines (image_of run.left) (verdict_on start (deeds_of run.reports))
all_lines start image_of run (Some refusal) steps = steps

-- all lines were written, and the verdict is that of the run; or there is none, as a replay answers it, and where a device or
-- memory fails, a beginning was written. Out of memory leaves some of the text unwritten
abbrev pub FollowsAsLines : {S : Type 0} → Tape → Tape → State → (S → Image) → Part S (ℕ × Refusal) → List ℕ → Result Verdict ReplayFault → Type 0
FollowsAsLines before now start image_of run steps (Ok verdict) =
    (run.refused ≡ None) × (verdict ≡ verdict_on start (deeds_of run.reports)) × Writes before now (all_lines start image_of run None steps)
FollowsAsLines before now start image_of run steps (Err (faults.Refused line number)) =
    Writes before now steps × ((refusal : Refusal) × (run.refused ≡ Some (line, refusal)) × (number_of refusal ≡ Some number))
FollowsAsLines before now start image_of run steps (Err faults.Write) =
    Begins before.taken now.taken (all_lines start image_of run run.refused steps) × (now.failures ≡ min (before.failures + 1) (2 ^ 64 - 1))
FollowsAsLines before now start image_of run steps (Err faults.OutOfMemory) =
    BreaksOff before.taken now.taken (all_lines start image_of run run.refused steps) × (now.failures ≡ before.failures)
FollowsAsLines before now start image_of run steps (Err fault) = ⊥
