-- The rows of a drawing, and the run that they show.
use Rattle.std.specs.Prelude.{◌≡◌, ℕ, List, [], ◌∷◌, Option, Some, None, Result, Ok, Err}
use Rattle.std.specs.List.{flat_map}
use Rattle.std.proofs.Math.ListN.{replicate}
use Rattle.rmecore.specs.declared.refusal.Refusal.{Refusal}
use Rattle.rmecore.specs.declared.happened.Happened.{Happened}
use Rattle.rmecore.specs.Refused.{number_of}
use Rattle.redomail.specs.declared.deed.Deed.{Deed}
use Rattle.rmeworld.specs.declared.stepped.Stepped.{Stepped}
use Rattle.rmeworld.specs.declared.answer.Answer.{Answer}
use Rattle.judge.specs.Table.{State}
use Rattle.schedule.specs.declared.replays.verdict.Verdict.{Verdict}
use Rattle.schedule.specs.Runs.{Part, deeds_of}
use Rattle.schedule.specs.Transitions.{Took}
use Rattle.schedule.specs.Transitions as events
use Rattle.schedule.specs.Verdicts.{verdict_on}
use Rattle.diagram.specs.declared.act.RowAct.{RowAct}
use Rattle.diagram.specs.declared.act.RowAct.TheVariants.{Silent, Telling, Fell}
use Rattle.diagram.specs.declared.act.DiagramRow.{DiagramRow}
use Rattle.diagram.specs.declared.stop.DiagramStop.{DiagramStop}
use Rattle.diagram.specs.declared.stop.DiagramStop.TheVariants as stops
use Rattle.diagram.specs.declared.drawing.End.{End}
use Rattle.diagram.specs.declared.drawing.End.TheVariants as ends
use Rattle.diagram.specs.Events.{DiagramEvent}

-- a silent step: it has no deed and ends no call
abbrev pub silent_step : Happened → Stepped
silent_step happened = record { happened = happened; deed = None; answer = None }

-- the events that a row shows. A silent step is shown as often as it was taken
abbrev pub events_shown : ℕ → RowAct → List DiagramEvent
events_shown p (Silent happened times) = replicate times (Took p (silent_step happened))
events_shown p (Telling step) = Took p step ∷ []
events_shown p (Fell deed) = events.Fell p deed ∷ []

-- the events that rows show
abbrev pub events_in : List DiagramRow → List DiagramEvent
events_in rows = flat_map (λ row. events_shown row.p row.act) rows

-- the deed of a row, if it has one
abbrev pub deed_of : RowAct → Option Deed
deed_of (Silent happened times) = None
deed_of (Telling step) = step.deed
deed_of (Fell deed) = Some deed

-- the answer of the call that a row ends, if it ends one
abbrev pub answer_of : RowAct → Option Answer
answer_of (Silent happened times) = None
answer_of (Telling step) = step.answer
answer_of (Fell deed) = None

-- how a run ends: with the verdict on its deeds, and at the refused line, if there is one
abbrev pub EndsAs : {S : Type 0} → State → Part S (ℕ × Refusal) → End → Type 0
EndsAs start run (ends.Judged verdict) = (run.refused ≡ None) × (verdict ≡ verdict_on start (deeds_of run.reports))
EndsAs start run (ends.Refused line number verdict) =
    ((refusal : Refusal) × (run.refused ≡ Some (line, refusal)) × (number_of refusal ≡ Some number)) × (verdict ≡ verdict_on start (deeds_of run.reports))

-- all lines were played
abbrev pub IsJudged : End → Type 0
IsJudged (ends.Judged verdict) = Unit {0}
IsJudged end = ⊥

-- how a run ends, by how its lines were played
abbrev pub IsRunEnd : {A : Type 0} → Result A (ℕ × DiagramStop) → Verdict → End → Type 0
IsRunEnd (Ok x) verdict (ends.Judged said) = said ≡ verdict
IsRunEnd (Err (line, stops.Refused number)) verdict (ends.Refused at purpose said) = (at ≡ line) × (purpose ≡ number) × (said ≡ verdict)
IsRunEnd played verdict end = ⊥
