-- What replaying a schedule on a machine writes and answers (the specification's Replay clause).
use Rattle.std.specs.Prelude.{◌≡◌, ℕ, ◌+◌, ◌-◌, ◌^◌, min, List, Option, Some, None, Result, Ok, Err}
use Rattle.rmecore.specs.declared.refusal.Refusal.{Refusal}
use Rattle.rmecore.specs.Refused.{number_of}
use Rattle.rmeworld.specs.declared.image.Image.{Image}
use Rattle.judge.specs.Table.{State}
use Rattle.schedule.specs.declared.replays.verdict.Verdict.{Verdict}
use Rattle.schedule.specs.declared.replays.replay_fault.ReplayFault.{ReplayFault}
use Rattle.schedule.specs.declared.replays.replay_fault.ReplayFault.TheVariants.{Refused, Write, OutOfMemory}
use Rattle.schedule.specs.Runs.{Part, deeds_of}
use Rattle.schedule.specs.Verdicts.{verdict_on}
use Rattle.schedule.specs.Reports.{reports_text, IsReport, IsEnd}
use Rattle.schedule.specs.Tapes.{Tape, Writes, Begins, BreaksOff}

-- all that is written of a run: its report, or what it reports before the line that is refused
abbrev pub IsWholeReport : {S : Type 0} → State → (S → Image) → Part S (ℕ × Refusal) → Option (ℕ × Refusal) → List ℕ → Type 0
IsWholeReport start image_of run None text = IsReport start (image_of run.left) run.reports text
IsWholeReport start image_of run (Some refusal) text = text ≡ reports_text run.reports

-- the report was written, and its verdict is that of the run
pub record Reported {S : Type 0} (before now : Tape) (start : State) (image_of : S → Image) (run : Part S (ℕ × Refusal)) (verdict : Verdict) : Type 0 where
  pub accepted : run.refused ≡ None
  pub verdict_is : verdict ≡ verdict_on start (deeds_of run.reports)
  pub text : List ℕ
  pub report : IsReport start (image_of run.left) run.reports text
  pub writes : Writes before now text

-- why there is no verdict. After a refusal just what the steps before it report was written. A sink that fails has failed
-- once more, and has taken a beginning. Out of memory leaves some of the text unwritten: so where all that the steps before
-- a refused line report was written, the answer is the refusal
abbrev pub CutShort : {S : Type 0} → Tape → Tape → State → (S → Image) → Part S (ℕ × Refusal) → ReplayFault → Type 0
CutShort before now start image_of run (Refused line number) =
    Writes before now (reports_text run.reports) × ((refusal : Refusal) × (run.refused ≡ Some (line, refusal)) × (number_of refusal ≡ Some number))
CutShort before now start image_of run Write =
    ((text : List ℕ) → IsWholeReport start image_of run run.refused text → Begins before.taken now.taken text) × (now.failures ≡ min (before.failures + 1) (2 ^ 64 - 1))
CutShort before now start image_of run OutOfMemory =
    ((text : List ℕ) → IsWholeReport start image_of run run.refused text → BreaksOff before.taken now.taken text) × (now.failures ≡ before.failures)
CutShort before now start image_of run fault = ⊥

-- what a replay writes and answers
abbrev pub Replays : {S : Type 0} → Tape → Tape → State → (S → Image) → Part S (ℕ × Refusal) → Result Verdict ReplayFault → Type 0
Replays before now start image_of run (Ok verdict) = Reported before now start image_of run verdict
Replays before now start image_of run (Err fault) = CutShort before now start image_of run fault

-- the end of the report is written
abbrev pub Closes : {A : Type 0} → Tape → Tape → Image → Verdict → Result A ReplayFault → Type 0
Closes before now image verdict (Ok x) = (end : List ℕ) × IsEnd image verdict end × Writes before now end
Closes before now image verdict (Err Write) = ((end : List ℕ) → IsEnd image verdict end → Begins before.taken now.taken end) × (now.failures ≡ min (before.failures + 1) (2 ^ 64 - 1))
Closes before now image verdict (Err OutOfMemory) = ((end : List ℕ) → IsEnd image verdict end → BreaksOff before.taken now.taken end) × (now.failures ≡ before.failures)
Closes before now image verdict (Err fault) = ⊥
