-- A run written step by step: for each step or crash the phase of its process and what it reads or writes, and then what it
-- reports; at the end the last lines of a report.
use Rattle.std.specs.Prelude.{◌≡◌, ℕ, ◌+◌, ◌-◌, ◌^◌, min, List, [], ◌∷◌, ◌++◌, map, codes, Option, Some, None, Result, Ok, Err, get_or}
use Rattle.rmecore.specs.declared.refusal.Refusal.{Refusal}
use Rattle.rmecore.specs.Refused.{number_of}
use Rattle.judge.specs.Table.{State}
use Rattle.redomail.specs.declared.deed.Deed.{Deed}
use Rattle.redomail.specs.declared.layout.Layout.{Layout}
use Rattle.rmeworld.specs.declared.answer.Answer.{Answer}
use Rattle.rmeworld.specs.declared.image.Image.{Image}
use Rattle.rmeworld.specs.declared.stepped.Stepped.{Stepped}
use Rattle.schedule.specs.declared.replays.replay_fault.ReplayFault.{ReplayFault}
use Rattle.schedule.specs.declared.replays.replay_fault.ReplayFault.TheVariants.{Refused, Write, OutOfMemory}
use Rattle.schedule.specs.declared.replays.verdict.Verdict.{Verdict}
use Rattle.schedule.specs.Tapes.{Tape, Writes, Begins, BreaksOff}
use Rattle.schedule.specs.Reports.{IsEnd, reports_text}
use Rattle.schedule.specs.Runs.{Part, deeds_of, reports_of}
use Rattle.schedule.specs.Transitions.{Took, Fell}
use Rattle.schedule.specs.Verdicts.{verdict_on}
use Rattle.diagram.specs.declared.act.RowAct.{RowAct}
use Rattle.diagram.specs.declared.act.RowAct.TheVariants as acts
use Rattle.diagram.specs.declared.act.DiagramRow.{DiagramRow}
use Rattle.diagram.specs.declared.drawing.End.{End}
use Rattle.diagram.specs.declared.drawing.End.TheVariants.{Judged}
use Rattle.diagram.specs.declared.drawing.End.TheVariants as ends
use Rattle.diagram.specs.declared.phase.LifelinePhase.{LifelinePhase}
use Rattle.diagram.specs.declared.phase.LifelinePhase.TheVariants.{Rest}
use Rattle.diagram.specs.declared.remote_marks.RemoteMarks.{RemoteMarks}
use Rattle.diagram.specs.Events.{DiagramEvent}
use Rattle.diagram.specs.Phases.{phase_shown, with_phase}
use Rattle.diagram.specs.Pictures.{around, class_of}
use Rattle.diagram.specs.RemoteMarks.{marks_text}
use Rattle.diagram.specs.Rows.{deed_of, answer_of}
use Rattle.diagram.specs.Signs.{sign}

-- ---- one event

-- a step as it is drawn in a row
abbrev pub act_of_step : Option Deed → Option Answer → Stepped → RowAct
act_of_step None None step = acts.Silent step.happened 1
act_of_step deed answer step = acts.Telling step

-- an event as a row of its own
abbrev pub row_of : DiagramEvent → DiagramRow
row_of (Took p step) = record { p = p; act = act_of_step step.deed step.answer step }
row_of (Fell p deed) = record { p = p; act = acts.Fell deed }

-- what a row reads or writes. A crash does neither
abbrev pub access_of : Layout → ℕ → RowAct → List ℕ
access_of l p (acts.Fell deed) = []
access_of l p act = 32 ∷ sign l p act

-- the phase of a row's process, what the row reads or writes, and in which models that is remote
unfoldable pub place_line : Layout → List LifelinePhase → Option RemoteMarks → DiagramRow → List ℕ
place_line l phases marks row =
    around (codes "at ") row.p (codes " ") ++ class_of (get_or phases row.p Rest) ++ access_of l row.p row.act ++ marks_text marks ++ 10 ∷ []

-- what a row reports
abbrev pub reports_by : ℕ → RowAct → List ℕ
reports_by p act = reports_text (reports_of p (deed_of act) (answer_of act))

-- a row with these marks, after which the processes are in these phases
unfoldable pub row_text : Layout → List LifelinePhase → Option RemoteMarks → DiagramRow → List ℕ
row_text l phases marks row = place_line l phases marks row ++ reports_by row.p row.act

-- ---- a run

-- the phases after a row
abbrev pub phases_with : List LifelinePhase → DiagramRow → List LifelinePhase
phases_with phases row = with_phase phases row.p (phase_shown row.act)

-- the phases of the processes after rows
abbrev pub phases_after : List LifelinePhase → List DiagramRow → List LifelinePhase
phases_after phases [] = phases
phases_after phases (row ∷ rows) = phases_after (phases_with phases row) rows

-- rows without marks, one after the other
abbrev pub rows_text : Layout → List LifelinePhase → List DiagramRow → List ℕ
rows_text l phases [] = []
rows_text l phases (row ∷ rows) = row_text l (phases_with phases row) None row ++ rows_text l (phases_with phases row) rows

-- the steps and crashes of a run, as a session has them: without marks
abbrev pub run_text : Layout → List LifelinePhase → List DiagramEvent → List ℕ
run_text l phases events = rows_text l phases (map row_of events)

-- ---- the whole

-- what is written after the steps of a run that has ended so, on a machine with this image
abbrev pub WritesEnding : Tape → Tape → Image → End → Result Verdict ReplayFault → Type 0
WritesEnding before now image (Judged verdict) (Ok said) = (said ≡ verdict) × ((end : List ℕ) × IsEnd image verdict end × Writes before now end)
WritesEnding before now image (Judged verdict) (Err Write) =
    ((end : List ℕ) → IsEnd image verdict end → Begins before.taken now.taken end) × (now.failures ≡ min (before.failures + 1) (2 ^ 64 - 1))
WritesEnding before now image (Judged verdict) (Err OutOfMemory) =
    ((end : List ℕ) → IsEnd image verdict end → BreaksOff before.taken now.taken end) × (now.failures ≡ before.failures)
WritesEnding before now image (ends.Refused line number verdict) (Err (Refused at purpose)) = (at ≡ line) × (purpose ≡ number) × Writes before now []
WritesEnding before now image (ends.Refused line number verdict) (Err Write) =
    (now.taken ≡ before.taken) × (now.failures ≡ min (before.failures + 1) (2 ^ 64 - 1))
WritesEnding before now image end result = ⊥

-- all that is written of a run: its steps and the end of its report, or only its steps up to the line that is refused
abbrev pub IsAllFollowed : {S : Type 0} → State → (S → Image) → Part S (ℕ × Refusal) → Option (ℕ × Refusal) → List ℕ → List ℕ → Type 0
IsAllFollowed start image_of run None steps text =
    (end : List ℕ) × IsEnd (image_of run.left) (verdict_on start (deeds_of run.reports)) end × (text ≡ steps ++ end)
IsAllFollowed start image_of run (Some refusal) steps text = text ≡ steps

-- all was written, and the verdict is that of the run
pub record IsFollowed {S : Type 0} (before now : Tape) (start : State) (image_of : S → Image) (run : Part S (ℕ × Refusal)) (steps : List ℕ) (verdict : Verdict) : Type 0 where
  pub accepted : run.refused ≡ None
  pub verdict_is : verdict ≡ verdict_on start (deeds_of run.reports)
  pub text : List ℕ
  pub all : IsAllFollowed start image_of run None steps text
  pub writes : Writes before now text

-- or why there is no verdict, as a replay answers it; where a device or memory fails, a beginning was written. Out of memory
-- leaves some of the text unwritten: so where all steps before a refused line were written, the answer is the refusal
abbrev pub FollowsRun : {S : Type 0} → Tape → Tape → State → (S → Image) → Part S (ℕ × Refusal) → List ℕ → Result Verdict ReplayFault → Type 0
FollowsRun before now start image_of run steps (Ok verdict) = IsFollowed before now start image_of run steps verdict
FollowsRun before now start image_of run steps (Err (Refused line number)) =
    Writes before now steps × ((refusal : Refusal) × (run.refused ≡ Some (line, refusal)) × (number_of refusal ≡ Some number))
FollowsRun before now start image_of run steps (Err Write) =
    ((text : List ℕ) → IsAllFollowed start image_of run run.refused steps text → Begins before.taken now.taken text)
    × (now.failures ≡ min (before.failures + 1) (2 ^ 64 - 1))
FollowsRun before now start image_of run steps (Err OutOfMemory) =
    ((text : List ℕ) → IsAllFollowed start image_of run run.refused steps text → BreaksOff before.taken now.taken text)
    × (now.failures ≡ before.failures)
FollowsRun before now start image_of run steps (Err fault) = ⊥
