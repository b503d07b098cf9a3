-- A whole mailbox call: the lock, the mending where the owner died, the task and the unlock, as one call.
use Rattle.std.specs.Prelude.{◌≡◌, ◌≢◌, ℕ, ◌+◌, ◌≤◌, ◌⊎◌, Bool, List, [], ◌∷◌, ◌++◌, length, Result, Ok, Err, Some, None}
use Rattle.rmecore.specs.declared.refusal.Refusal.TheVariants.{AlreadyIn as IsIn}
use Rattle.redomail.specs.declared.layout.Layout.{Layout}
use Rattle.redomail.specs.declared.reply.Reply.{Reply}
use Rattle.redomail.specs.declared.reply.Reply.TheVariants.{Mended}
use Rattle.rmeworld.specs.declared.call.Call.{Call}
use Rattle.rmeworld.specs.declared.call.Call.TheVariants.{Lock, Unlock, Consistent, Append, Close}
use Rattle.rmeworld.specs.declared.answer.Answer.{Answer}
use Rattle.rmeworld.specs.declared.answer.Answer.TheVariants.{OwnerDied, NumbersSpent as SpentAnswer, NotRecoverable as RuinedAnswer, Unlocked, Mail}
use Rattle.table_runs.specs.declared.lock_fault.LockFault.{LockFault}
use Rattle.table_runs.specs.declared.lock_fault.LockFault.TheVariants.{Crashed, NotYet, NumbersSpent, NotRecoverable, AlreadyIn, BadWidth}
use Rattle.table_runs.specs.declared.entry_kind.Entry.{Entry as Entering}
use Rattle.table_runs.specs.declared.entry_kind.Entry.TheVariants as entering
use Rattle.table_runs.specs.WorkingMembers.{Seated, began}
use Rattle.table_runs.specs.Faults.{refusal_now, free_to_start, CutBy, AnsweredBy, call_series, answer_of}
use Rattle.table_runs.specs.WholeSteps.{SumCounts}
use Rattle.crash_plans.specs.Plans.{Askings}

-- the tasks of the mailbox. A value has the width of the messages
abbrev pub IsTask : Layout → Call → Type 0
IsTask l (Append seq value) = length value ≡ l.width
IsTask l Close = Unit {0}
IsTask l call = ⊥

-- the calls after the lock
abbrev pub calls_inside : Entering → Call → List Call
calls_inside entering.Clean task = task ∷ Unlock ∷ []
calls_inside entering.OwnerDied task = Consistent ∷ task ∷ Unlock ∷ []

-- the answers of the calls after the lock
abbrev pub answers_inside : Entering → Bool → Reply → List Answer
answers_inside entering.Clean mended reply = Mail reply ∷ Unlocked ∷ []
answers_inside entering.OwnerDied mended reply = Mail (Mended mended) ∷ Mail reply ∷ Unlocked ∷ []

-- the outcome of the calls after the lock: the task's reply, or NotRecoverable where the mending finds the lock ruined and
-- the process leaves
abbrev pub Inner : Entering → Call → Result Reply LockFault → List Call → List Answer → Type 0
Inner entry task (Ok reply) order answers = (mended : Bool) × (order ≡ calls_inside entry task) × (answers ≡ answers_inside entry mended reply)
Inner entry task (Err e) order answers = (e ≡ NotRecoverable) × (entry ≡ entering.OwnerDied) × (order ≡ Consistent ∷ Unlock ∷ []) × (answers ≡ RuinedAnswer ∷ Unlocked ∷ [])

-- The outcome of a whole mailbox call that may be blocked `turns` times, with its calls, their answers and its blocked
-- readings. It is the task's reply; or the answer of the lock, where that didn't enter; or NotRecoverable, where the mending
-- finds the lock ruined.
abbrev pub IsWholeOutcome : ℕ → Call → Result Reply LockFault → List Call → List Answer → ℕ → Type 0
IsWholeOutcome turns task (Ok reply) order answers blocked =
    (blocked ≤ turns) × (entry : Entering) × (mended : Bool) × (order ≡ Lock ∷ calls_inside entry task) × (answers ≡ answer_of entry ∷ answers_inside entry mended reply)
IsWholeOutcome turns task (Err e) order answers blocked =
    (e ≡ NotYet) × (order ≡ Lock ∷ []) × (answers ≡ []) × (blocked ≡ turns + 1)
    ⊎ (blocked ≤ turns)
    × ((e ≡ NumbersSpent) × (order ≡ Lock ∷ []) × (answers ≡ SpentAnswer ∷ [])
    ⊎ (e ≡ NotRecoverable) × (order ≡ Lock ∷ []) × (answers ≡ RuinedAnswer ∷ [])
    ⊎ (e ≡ NotRecoverable) × (order ≡ Lock ∷ Consistent ∷ Unlock ∷ []) × (answers ≡ OwnerDied ∷ RuinedAnswer ∷ Unlocked ∷ []))

-- a whole call, whose lock may be blocked this often
pub record WholeTask : Type 0 where
  pub turns : ℕ
  pub task : Call

abbrev pub whole_task : ℕ → Call → WholeTask
whole_task turns task = record { turns = turns; task = task }

-- the whole call from right after the start of its lock, with `more` askings beside those of its steps: its outcome, its
-- events, and its own steps by the table
abbrev pub WholeBy : ℕ → Seated → WholeTask → Result Reply LockFault → Seated → (old new : Askings) → Type 0
WholeBy more x whole r y old new =
    (order : List Call) × (answers : List Answer) × (blocked : ℕ) × IsWholeOutcome whole.turns whole.task r order answers blocked
    × AnsweredBy more x (call_series order answers blocked) y old new × SumCounts x order answers blocked y

-- the same, up to the asking before its one answer
abbrev pub WholeEnds : Seated → ℕ → Call → Result Reply LockFault → Seated → (old new : Askings) → Type 0
WholeEnds x turns task r y old new = WholeBy 1 x (whole_task turns task) r y old new

-- the first calls of a list
abbrev pub IsFront : List Call → List Call → Type 0
IsFront done order = (later : List Call) × (order ≡ done ++ later)

-- the calls inside that may have been started so far
abbrev pub IsInner : Entering → Call → List Call → Type 0
IsInner entry task done = IsFront done (calls_inside entry task) ⊎ IsFront done (Consistent ∷ Unlock ∷ [])

-- the calls that a whole mailbox call may have started so far
abbrev pub AreCallsOf : Call → List Call → Type 0
AreCallsOf task done = ((entry : Entering) × IsFront done (Lock ∷ calls_inside entry task)) ⊎ IsFront done (Lock ∷ Consistent ∷ Unlock ∷ [])

-- a whole mailbox call after the start of its lock: it has its outcome, or a crash cuts it off
abbrev pub WholeGoes : Seated → ℕ → Call → Result Reply LockFault → Seated → (old new : Askings) → Type 0
WholeGoes x turns task r y old new =
    WholeEnds x turns task r y old new ⊎ (r ≡ Err Crashed) × CutBy x (AreCallsOf task) y old new

-- how a whole mailbox call fails: refused in the section, cut off by a crash, or with the fault of its lock or of its
-- mending
abbrev pub WholeFails : Seated → ℕ → Call → Seated → (old new : Askings) → LockFault → Type 0
WholeFails x turns task y old new e =
    (e ≡ AlreadyIn) × (refusal_now x Lock ≡ Some IsIn) × (y ≡ x) × (new ≡ old)
    ⊎ (refusal_now (free_to_start x) Lock ≡ None)
    × ((e ≡ Crashed) × CutBy (began (free_to_start x) Lock) (AreCallsOf task) y old new
    ⊎ WholeEnds (began (free_to_start x) Lock) turns task (Err e) y old new)

-- what an append is asked for
pub record AppendRequest : Type 0 where
  pub seq : ℕ
  pub value : List ℕ

abbrev pub append_request : ℕ → List ℕ → AppendRequest
append_request seq value = record { seq = seq; value = value }

-- a value of another width is refused first, and the plan isn't asked
abbrev pub AppendFails : Seated → ℕ → AppendRequest → Seated → (old new : Askings) → LockFault → Type 0
AppendFails x turns request y old new e =
    (e ≡ BadWidth) × (length request.value ≢ x.seat_view.setup.layout.width) × (y ≡ x) × (new ≡ old)
    ⊎ (length request.value ≡ x.seat_view.setup.layout.width) × WholeFails x turns (Append request.seq request.value) y old new e
