-- How a member's call fails.
use Rattle.std.specs.Prelude.{◌≡◌, ℕ, ◌+◌, ◌≤◌, ◌⊎◌, List, [], ◌∷◌, length, Option, Some, None, if◌then◌else◌}
use Rattle.rmecore.specs.declared.refusal.Refusal.{Refusal}
use Rattle.rmecore.specs.declared.refusal.Refusal.TheVariants.{AlreadyIn as IsIn, BadIndex as NoSuchWord}
use Rattle.rmeworld.specs.declared.call.Call.{Call}
use Rattle.rmeworld.specs.declared.call.Call.TheVariants.{Consistent, Lock}
use Rattle.rmeworld.specs.declared.answer.Answer.{Answer}
use Rattle.rmeworld.specs.declared.answer.Answer.TheVariants.{Clean, OwnerDied, NumbersSpent as SpentAnswer, NotRecoverable as RuinedAnswer}
use Rattle.rmeworld.specs.Refused.{start_refusal, is_idle}
use Rattle.table_runs.specs.declared.entry.TakenStep.{TakenStep}
use Rattle.table_runs.specs.declared.lock_fault.LockFault.{LockFault}
use Rattle.table_runs.specs.declared.lock_fault.LockFault.TheVariants.{Crashed, NotYet, NumbersSpent, NotRecoverable, AlreadyIn, NotOwner, NotInconsistent, BadIndex}
use Rattle.table_runs.specs.declared.entry_kind.Entry.{Entry as Entering}
use Rattle.table_runs.specs.declared.entry_kind.Entry.TheVariants as entering
use Rattle.table_runs.specs.SeatView.{process_state_now}
use Rattle.table_runs.specs.WorkingMembers.{Seated, began, fell}
use Rattle.table_runs.specs.Calls.{ServedAll, Served, CrashesIn, Crashes}
use Rattle.crash_plans.specs.Plans.{Askings, NeverCrashes, Fell}

-- the fault that a refused start answers
abbrev pub fault_for : Call → Refusal → LockFault
fault_for Consistent refusal = NotInconsistent
fault_for call IsIn = AlreadyIn
fault_for call NoSuchWord = BadIndex
fault_for call refusal = NotOwner

-- why the member can't start the call now, if so
abbrev pub refusal_now : Seated → Call → Option Refusal
refusal_now x call = start_refusal x.seat_view.setup.layout (process_state_now x.seat_view) call

-- refused: no step was taken, the plan wasn't asked, and nothing has changed
abbrev pub Refused : Seated → Call → Seated → (old new : Askings) → LockFault → Type 0
Refused x call y old new e = ((refusal : Refusal) × (refusal_now x call ≡ Some refusal) × (e ≡ fault_for call refusal)) × (y ≡ x) × (new ≡ old)

-- cut off by a crash, at the asking that fell
abbrev pub IsCutByCrash : Seated → Call → Seated → (old new : Askings) → LockFault → Type 0
IsCutByCrash x call y old new e = (e ≡ Crashed) × (refusal_now x call ≡ None) × ((mine : List TakenStep) × Crashes (began x call) call y mine × Fell (length mine + 1) old new)

-- a call that is never blocked fails: refused, or cut off by a crash
abbrev pub FailsUnblocked : Seated → Call → Seated → (old new : Askings) → LockFault → Type 0
FailsUnblocked x call y old new e = Refused x call y old new e ⊎ IsCutByCrash x call y old new e

-- a call that may start from anywhere outside the section. A member whose lock still waits crashes first
abbrev pub free_to_start : Seated → Seated
free_to_start x = if is_idle (process_state_now x.seat_view) then x else fell x

-- a crash while calls are under way
abbrev pub CutBy : Seated → (List Call → Type 0) → Seated → (old new : Askings) → Type 0
CutBy x Begun y old new = (mine : List TakenStep) × CrashesIn x Begun y mine × Fell (length mine + 1) old new

-- a crash while a call is under way
abbrev pub CutIn : Seated → Call → Seated → (old new : Askings) → Type 0
CutIn x call y old new = (mine : List TakenStep) × Crashes x call y mine × Fell (length mine + 1) old new

-- calls one after another, with their answers, and how often their steps were blocked
pub record CallSeries : Type 0 where
  pub calls : List Call
  pub answers : List Answer
  pub blocked : ℕ

abbrev pub call_series : List Call → List Answer → ℕ → CallSeries
call_series calls answers blocked = record { calls = calls; answers = answers; blocked = blocked }

-- such calls, and `more` askings beside those of their steps
abbrev pub AnsweredBy : ℕ → Seated → CallSeries → Seated → (old new : Askings) → Type 0
AnsweredBy more x series y old new =
    (mine : List TakenStep) × ServedAll x series.calls series.answers series.blocked y mine × NeverCrashes (length mine + more) old new

-- an answer of a call that was blocked `blocked` times
abbrev pub AnsweredIn : Seated → Call → List Answer → ℕ → Seated → (old new : Askings) → Type 0
AnsweredIn x call answers blocked y old new = (mine : List TakenStep) × Served x call answers blocked y mine × NeverCrashes (length mine + 1) old new

-- how a lock ends that may be blocked `turns` times, from right after its start, with `more` askings beside those of its
-- steps: with an answer after at most `turns` blocked readings, or without one after one more
abbrev pub LockBy : ℕ → Seated → ℕ → Option Answer → Seated → (old new : Askings) → Type 0
LockBy more x turns (Some a) y old new = (blocked : ℕ) × (blocked ≤ turns) × AnsweredBy more x (call_series (Lock ∷ []) (a ∷ []) blocked) y old new
LockBy more x turns None y old new = AnsweredBy more x (call_series (Lock ∷ []) [] (turns + 1)) y old new

-- the same, up to the asking before the answer
abbrev pub LockEnds : Seated → ℕ → Option Answer → Seated → (old new : Askings) → Type 0
LockEnds x turns o y old new = LockBy 1 x turns o y old new

-- a recovery that fails: refused in the section, or cut off by a crash
abbrev pub FailsOut : Seated → Call → Seated → (old new : Askings) → LockFault → Type 0
FailsOut x call y old new e =
    (e ≡ AlreadyIn) × (refusal_now x call ≡ Some IsIn) × (y ≡ x) × (new ≡ old)
    ⊎ (e ≡ Crashed) × (refusal_now (free_to_start x) call ≡ None) × CutIn (began (free_to_start x) call) call y old new

-- the answer of a lock with this entry
abbrev pub answer_of : Entering → Answer
answer_of entering.Clean = Clean
answer_of entering.OwnerDied = OwnerDied

-- a lock that fails: refused in the section, cut off by a crash, still waiting, out of numbers, or ruined
abbrev pub LockFails : Seated → ℕ → Seated → (old new : Askings) → LockFault → Type 0
LockFails x turns y old new e =
    FailsOut x Lock y old new e
    ⊎ (refusal_now (free_to_start x) Lock ≡ None)
    × ((e ≡ NotYet) × LockEnds (began (free_to_start x) Lock) turns None y old new
    ⊎ (e ≡ NumbersSpent) × LockEnds (began (free_to_start x) Lock) turns (Some SpentAnswer) y old new
    ⊎ (e ≡ NotRecoverable) × LockEnds (began (free_to_start x) Lock) turns (Some RuinedAnswer) y old new)
