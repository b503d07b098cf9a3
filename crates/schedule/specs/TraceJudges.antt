-- Judging a trace, line by line (the specification's Trace).
use Rattle.std.specs.Prelude.{◌≡◌, ℕ, ◌-◌, min, Bool, true, ◌+◌, ◌<◌, ◌≤◌, ◌^◌, ◌⊎◌, ◌&&◌, nat_lt, nat_le, List, [], ◌∷◌, ◌++◌, length, Option, Some, None, Result, Ok, Err, if◌then◌else◌}
use Rattle.rmecore.specs.declared.refusal.Refusal.{Refusal}
use Rattle.rmecore.specs.declared.refusal.Refusal.TheVariants.{BadProcs, BadCap}
use Rattle.rmecore.specs.Refused.{number_of}
use Rattle.redomail.specs.declared.deed.Deed.{Deed}
use Rattle.judge.specs.Table.{empty_state}
use Rattle.judge.specs.Kept.{Kept}
use Rattle.judge.specs.Stands.{Keeps}
use Rattle.schedule.specs.declared.lines.fault.LineFault.{LineFault}
use Rattle.schedule.specs.declared.replays.verdict.Verdict.{Verdict}
use Rattle.schedule.specs.declared.replays.replay_fault.ReplayFault.{ReplayFault}
use Rattle.schedule.specs.declared.replays.replay_fault.ReplayFault.TheVariants.{Text, Refused, Read, OutOfMemory}
use Rattle.schedule.specs.declared.texts.trace.TraceHead.{TraceHead}
use Rattle.schedule.specs.declared.replays.stage.TraceStage.{TraceStage}
use Rattle.schedule.specs.declared.replays.stage.TraceStage.TheVariants as stages
use Rattle.schedule.specs.Numbers.{number_of as number_of_line}
use Rattle.schedule.specs.Words.{parts_of}
use Rattle.schedule.specs.Texts.{text_at}
use Rattle.schedule.specs.Deeds.{deed_at}
use Rattle.schedule.specs.Traces.{trace_head_at}
use Rattle.schedule.specs.Tapes.{Reading}
use Rattle.schedule.specs.Verdicts.{verdict_on}
use Rattle.schedule.specs.RunningVerdicts.{first_running_verdict, running_judge, Hears}

-- why no judge has these sizes
abbrev pub judge_refusal : ℕ → ℕ → Option Refusal
judge_refusal procs cap =
    if nat_lt 0 procs && nat_le procs 64 then (if nat_lt 0 cap && nat_le cap 65536 then None else Some BadCap) else Some BadProcs

-- the number of a refusal, if there is one
abbrev pub refusal_number : Option Refusal → Option ℕ
refusal_number None = None
refusal_number (Some refusal) = number_of refusal

-- the verdict on deeds, unless the header was refused
abbrev pub judged_of : Option ℕ → ℕ → ℕ → List Deed → Result Verdict ReplayFault
judged_of None procs cap deeds = Ok (verdict_on (empty_state procs cap) deeds)
judged_of (Some number) procs cap deeds = Err (Refused 1 number)

-- the answer for what reading a trace gives
abbrev pub answer_of : Result (TraceHead × List Deed) (ℕ × LineFault) → Result Verdict ReplayFault
answer_of (Ok read) = judged_of (refusal_number (judge_refusal read.0.procs read.0.cap)) read.0.procs read.0.cap read.1
answer_of (Err fault) = Err (Text fault.0 (number_of_line fault.1))

-- the answer for a trace's text, by its parts: its first fault, or the refusal of its header, or the verdict on its deeds
abbrev pub trace_answer : List (List ℕ) → Result Verdict ReplayFault
trace_answer parts = answer_of (text_at trace_head_at (λ h. deed_at h.width) parts)

-- ---- after some lines

-- what reading gives for a text of just these lines
abbrev pub reading_of : List (List ℕ) → Result (TraceHead × List Deed) (ℕ × LineFault)
reading_of lines = text_at trace_head_at (λ h. deed_at h.width) (lines ++ [] ∷ [])

-- a header's width, from 1 to 8
abbrev pub IsNarrow : TraceHead → Type 0
IsNarrow head = (1 ≤ head.width) × (head.width ≤ 8)

-- what the type guarantees
abbrev pub IsStage : TraceStage → Type 0
IsStage stages.First = Unit {0}
IsStage (stages.Refused head number) = IsNarrow head
IsStage (stages.Judging head judge running_verdict) = IsNarrow head
IsStage (stages.Faulty line fault) = Unit {0}

-- what is known after these lines
abbrev pub Stands : TraceStage → List (List ℕ) → Type 0
Stands stages.First lines = lines ≡ []
Stands (stages.Refused head number) lines =
    (deeds : List Deed) × (reading_of lines ≡ Ok (head, deeds)) × (refusal_number (judge_refusal head.procs head.cap) ≡ Some number)
Stands (stages.Judging head judge running_verdict) lines =
    (deeds : List Deed) × (reading_of lines ≡ Ok (head, deeds)) × (judge_refusal head.procs head.cap ≡ None)
    × ((first : Kept) × Keeps first (empty_state head.procs head.cap) × Hears (running_judge first first_running_verdict) deeds (running_judge judge running_verdict))
Stands (stages.Faulty line fault) lines = (reading_of lines ≡ Err (line, fault)) × (0 < length lines)

-- a stage has taken `more` lines from the front of a text, the first of which has this number; `rest` is the text after them
pub record Fed (before now : TraceStage) (text rest : List ℕ) (number count_now : ℕ) : Type 0 where
  pub more : List (List ℕ)
  pub parts : parts_of text ≡ more ++ parts_of rest
  pub count : number < 2 ^ 64 → count_now ≡ min (number + length more) (2 ^ 64 - 1)
  pub stands : (lines : List (List ℕ)) → Stands before lines → Stands now (lines ++ more)

-- the number of the next line, and what is known of the trace
pub record TraceJudgeState : Type 0 where
  pub line : ℕ
  pub stage : TraceStage

-- this is known after these lines, while their number fits in 64 bits
abbrev pub Follows : TraceJudgeState → List (List ℕ) → Type 0
Follows trace_judge lines = length lines + 3 < 2 ^ 64 → (trace_judge.line ≡ length lines + 1) × Stands trace_judge.stage lines

-- ---- the whole source

-- the answer for the text that the source gave, to its end
abbrev pub AnswersText : List ℕ → List ℕ → Bool → Result Verdict ReplayFault → Type 0
AnswersText old new ended answer = (text : List ℕ) × (new ≡ old ++ text) × (ended ≡ true) × (answer ≡ trace_answer (parts_of text))

-- what judging a trace answers. Where the source fails or memory runs out, the end was not reached
abbrev pub JudgesTrace : Reading → Reading → Result Verdict ReplayFault → Type 0
JudgesTrace old new (Err Read) = (new.ended ≡ old.ended) × (new.failures ≡ min (old.failures + 1) (2 ^ 64 - 1))
JudgesTrace old new (Err OutOfMemory) = (new.ended ≡ old.ended) × (new.failures ≡ old.failures)
JudgesTrace old new answer = AnswersText old.given new.given new.ended answer × (new.failures ≡ old.failures)

-- what judging a trace answers where it is known that the source gives this text
abbrev pub JudgesText : List ℕ → Result Verdict ReplayFault → Type 0
JudgesText text answer = (answer ≡ Err Read) ⊎ (answer ≡ Err OutOfMemory) ⊎ (answer ≡ trace_answer (parts_of text))
