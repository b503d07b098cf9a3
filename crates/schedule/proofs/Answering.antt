-- The answer of a trace that was judged to its end.
use Rattle.std.proofs.Common.{◌≡◌, ℕ, ◌+◌, ◌-◌, ◌<◌, ◌^◌, ◌⊎◌, min, inl, inr, List, [], ◌∷◌, ◌++◌, length, Option, Some, None, Result, Ok, Err, Bool, true, refl, sym, ap, subst, ◌∙◌}
use Rattle.schedule.proofs.ReplaysCommon.{Refusal, Deed, Kept, empty_state, LineFault, RunningVerdict, ReplayFault, Text, Read, OutOfMemory, TraceStage, TraceHead, Verdict, deed_at, first_running_verdict, parts_of, text_at, trace_head_at}
use Rattle.schedule.proofs.ReplaysCommon.{Stands, trace_answer, answer_of, judged_of, judge_refusal, refusal_number, JudgesTrace}
use Rattle.schedule.specs.declared.replays.stage.TraceStage.TheVariants as stages
use Rattle.schedule.specs.Numbers.{number_of}
use Rattle.schedule.specs.Tapes.{Reading}
use Rattle.schedule.specs.TraceJudges.{JudgesText}
use Rattle.schedule.proofs.Closing.{ruled_on}
use Rattle.schedule.proofs.Staging.{none_last, none_empty, fine_last, faulty_last}

abbrev item : TraceHead → List (List ℕ) → Result Deed LineFault
item h = deed_at h.width

pub ended_first : (lines : List (List ℕ)) → Stands stages.First lines → trace_answer (lines ++ [] ∷ []) ≡ Err (Text 1 1)
ended_first lines none = rw none (ap answer_of (none_empty trace_head_at item))

pub ended_judging : (lines : List (List ℕ)) (head : TraceHead) (judge : Kept) (running_verdict : RunningVerdict) → Stands (stages.Judging head judge running_verdict) lines
    → trace_answer (lines ++ [] ∷ []) ≡ Ok running_verdict.verdict
ended_judging lines head judge running_verdict h =
    let ruled = ruled_on h.3.0 judge first_running_verdict running_verdict h.0 (empty_state head.procs head.cap) refl h.3.2 h.3.1 in
    ap answer_of h.1 ∙ ap (λ (o : Option Refusal). judged_of (refusal_number o) head.procs head.cap h.0) h.2 ∙ ap (λ v. Ok v) (sym ruled)

pub cut_faulty : (lines : List (List ℕ)) (rest : List ℕ) (k : ℕ) (f : LineFault) → 0 < length rest → Stands (stages.Faulty k f) lines
    → trace_answer (lines ++ rest ∷ []) ≡ Err (Text k (number_of f))
cut_faulty lines rest k f some h = ap answer_of (faulty_last trace_head_at item lines rest (k, f) h.1 some h.0)

-- the last line has no LF, and no earlier line is faulty
pub cut_fine : (stage : TraceStage) (lines : List (List ℕ)) (rest : List ℕ) → 0 < length rest → ((k : ℕ) (f : LineFault) → stage ≡ stages.Faulty k f → ⊥) → Stands stage lines
    → trace_answer (lines ++ rest ∷ []) ≡ Err (Text (length lines + 1) 5)
cut_fine stages.First lines rest some sound none = rw none (ap answer_of (none_last trace_head_at item rest some))
cut_fine (stages.Refused head number) lines rest some sound h = ap answer_of (fine_last trace_head_at item lines rest head h.0 some h.1)
cut_fine (stages.Judging head judge running_verdict) lines rest some sound h = ap answer_of (fine_last trace_head_at item lines rest head h.0 some h.1)
cut_fine (stages.Faulty k f) lines rest some sound h = absurd (sound k f refl)

-- ---- the whole source

-- an answer of the device or of memory, which no text has
pub IsOfDevice : ReplayFault → Type 0
IsOfDevice Read = Unit {0}
IsOfDevice OutOfMemory = Unit {0}
IsOfDevice fault = ⊥

pub of_text : Result Verdict ReplayFault → Type 0
of_text (Ok verdict) = Unit {0}
of_text (Err fault) = IsOfDevice fault → ⊥

judged_is : (o : Option ℕ) (procs size : ℕ) (deeds : List Deed) → of_text (judged_of o procs size deeds)
unfolding of_text IsOfDevice
judged_is None procs size deeds = tt
judged_is (Some number) procs size deeds = λ h. h

answer_is : (q : Result (TraceHead × List Deed) (ℕ × LineFault)) → of_text (answer_of q)
unfolding of_text IsOfDevice
answer_is (Ok read) = judged_is (refusal_number (judge_refusal read.0.procs read.0.cap)) read.0.procs read.0.cap read.1
answer_is (Err fault) = λ h. h

pub judges : (old new : Reading) (text : List ℕ) (answer : Result Verdict ReplayFault) → new.given ≡ old.given ++ text → new.ended ≡ true → new.failures ≡ old.failures
    → answer ≡ trace_answer (parts_of text) → of_text answer → JudgesTrace old new answer
unfolding of_text IsOfDevice
judges old new text (Err Read) given reports fine e is = absurd (is tt)
judges old new text (Err OutOfMemory) given reports fine e is = absurd (is tt)
judges old new text _ given reports fine e is = ((text, given, reports, e), fine)

pub is_of_text : (parts : List (List ℕ)) (answer : Result Verdict ReplayFault) → answer ≡ trace_answer parts → of_text answer
is_of_text parts answer e = subst of_text (sym e) (answer_is (text_at trace_head_at item parts))

-- the source has failed, or memory has run out
pub stops : (fault : ReplayFault) (old new : Reading) → new.ended ≡ old.ended
    → ((fault ≡ Read) × (new.failures ≡ min (old.failures + 1) (2 ^ 64 - 1))) ⊎ ((fault ≡ OutOfMemory) × (new.failures ≡ old.failures)) → JudgesTrace old new (Err fault)
stops fault old new unended (inl failed) = rw failed.0 (unended, failed.1)
stops fault old new unended (inr memory) = rw memory.0 (unended, memory.1)

pub stops_known : {A B : Type 0} (fault : ReplayFault) (text : List ℕ) → ((fault ≡ Read) × A) ⊎ ((fault ≡ OutOfMemory) × B) → JudgesText text (Err fault)
stops_known fault text (inl failed) = inl (ap Err failed.0)
stops_known fault text (inr memory) = inr (inl (ap Err memory.0))
