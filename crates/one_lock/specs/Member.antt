-- A member of an arena over one world: what contracts see of it, what its calls may answer, and its state after them.
use Rattle.std.specs.Prelude.{◌≡◌, ℕ, Bool, true, false, not, ◌+◌, ◌-◌, ◌^◌, ◌<◌, ◌≤◌, min, zero, suc, List, [], ◌∷◌, ◌++◌, length, Result, Ok, Err}
use Rattle.rmecore.specs.Simulated.{one_more}
use Rattle.crash_plans.specs.Plans.{Askings}
use Rattle.rmecore.specs.declared.found.Found.{Found}
use Rattle.rmecore.specs.declared.found.Found.TheVariants.{Inside as FoundInside}
use Rattle.redomail.specs.declared.layout.Layout.{Layout}
use Rattle.rmeworld.specs.MachineState.{MachineState, resting}
use Rattle.rmeworld.specs.declared.call.Call.{Call}
use Rattle.rmeworld.specs.declared.call.Call.TheVariants.{Lock, Recover, Consistent, Append, Close, Withdraw}
use Rattle.table_runs.specs.declared.lock_fault.LockFault.{LockFault}
use Rattle.table_runs.specs.declared.lock_fault.LockFault.TheVariants.{Crashed, NotYet, NumbersSpent, NotRecoverable, OutOfMemory}
use Rattle.table_runs.specs.declared.entry_kind.Entry.{Entry}
use Rattle.table_runs.specs.declared.entry_kind.Entry.TheVariants.{Clean, OwnerDied}
use Rattle.one_lock.specs.declared.member_state.MemberState.{MemberState}
use Rattle.one_lock.specs.declared.member_state.MemberState.TheVariants.{Out, Lost, Mended, Unmended}

-- the machine of a process, which is its private memory, and the values that its own steps have read or written, in order
pub record Trail : Type 0 where
  pub machine : MachineState
  pub values : List ℕ

-- a member: its process, the sizes of its arena, its state between its calls, its own steps so far (its share of the
-- ledger), those of the last call that was started, at most the greatest u64, and its trail
pub record Seat : Type 0 where
  pub process : ℕ
  pub layout : Layout
  pub standing : MemberState
  pub steps : ℕ
  pub counted : ℕ
  pub trail : Trail

-- process n of a new arena, at rest
abbrev pub new_seat : Layout → ℕ → ℕ → Seat
new_seat l limit n = record { process = n; layout = l; standing = Out; steps = 0; counted = 0; trail = record { machine = resting l limit n; values = [] } }

-- the members of a new arena, from process 0 on
abbrev pub new_seats : Layout → ℕ → ℕ → List Seat
new_seats l limit zero = []
new_seats l limit (suc n) = new_seats l limit n ++ new_seat l limit n ∷ []

-- the member is in the section
abbrev pub is_in : MemberState → Bool
is_in Mended = true
is_in Unmended = true
is_in _ = false

-- the member has lost its private memory
abbrev pub is_lost : MemberState → Bool
is_lost Lost = true
is_lost _ = false

-- the calls that a process may start in its member's state
abbrev pub may_start : MemberState → Call → Bool
may_start standing Lock = not (is_in standing)
may_start standing Recover = not (is_in standing)
may_start Unmended Consistent = true
may_start _ Consistent = false
may_start Mended (Append seq value) = true
may_start _ (Append seq value) = false
may_start Mended Close = true
may_start _ Close = false
may_start standing Withdraw = false
may_start standing _ = is_in standing

-- no call changes the member's process, or takes back a step
abbrev pub KeepsProcess : Seat → Seat → Type 0
KeepsProcess old new = (new.process ≡ old.process) × (new.layout ≡ old.layout) × (old.steps ≤ new.steps)

-- the plan was asked once for each own step, with askings a before and b after. They are counted up to 2^64 - 1
abbrev pub AskedEach : Seat → Seat → Askings → Askings → Type 0
AskedEach old new a b = b.asked < 2 ^ 64 - 1 → b.asked + old.steps ≡ a.asked + new.steps

-- the same, and the plan was asked once more
abbrev pub AskedOnceMore : Seat → Seat → Askings → Askings → Type 0
AskedOnceMore old new a b = b.asked < 2 ^ 64 - 1 → b.asked + old.steps ≡ a.asked + new.steps + 1

-- a call that was started has counted what it added to the member's share; a part of a call has counted on. Both up to the
-- greatest u64
abbrev pub CountsSteps : Seat → Seat → Type 0
CountsSteps old new = new.counted ≡ min (new.steps - old.steps) (2 ^ 64 - 1)

-- a part of a call has counted on
abbrev pub CountsOn : Seat → Seat → Type 0
CountsOn old new = new.counted ≡ min (old.counted + (new.steps - old.steps)) (2 ^ 64 - 1)

-- the falls after a call, from those before it: the first asking that falls ends it
abbrev pub falls_with : LockFault → ℕ → ℕ
falls_with Crashed f = one_more f
falls_with _ f = f

-- the falls after a call with this result
abbrev pub falls_by : {T : Type 0} → Result T LockFault → ℕ → ℕ
falls_by (Ok a) f = f
falls_by (Err e) f = falls_with e f

-- the faults of the calls that lock, but for those before the first asking
abbrev pub of_lock : LockFault → Bool
of_lock Crashed = true
of_lock NotYet = true
of_lock NumbersSpent = true
of_lock NotRecoverable = true
of_lock OutOfMemory = true
of_lock _ = false

-- the faults of a call that waits as long as it has to
abbrev pub of_wait : LockFault → Bool
of_wait NotYet = false
of_wait e = of_lock e

-- the faults of a call that is never blocked
abbrev pub of_steps : LockFault → Bool
of_steps Crashed = true
of_steps OutOfMemory = true
of_steps _ = false

-- the faults of `consistent`
abbrev pub of_consistent : LockFault → Bool
of_consistent NotRecoverable = true
of_consistent e = of_steps e

-- the state of the member after a fault: out of the section, or without its private memory
abbrev pub fallen_to : LockFault → MemberState
fallen_to NumbersSpent = Out
fallen_to NotRecoverable = Out
fallen_to _ = Lost

-- the member's state after a lock with this result
abbrev pub stands_entered : Result Entry LockFault → MemberState
stands_entered (Ok Clean) = Mended
stands_entered (Ok OwnerDied) = Unmended
stands_entered (Err e) = fallen_to e

-- the member's state after a call that leaves the section
abbrev pub stands_out : {T : Type 0} → Result T LockFault → MemberState
stands_out (Ok a) = Out
stands_out (Err e) = fallen_to e

-- the member's state after a recovery
abbrev pub stands_found : Result Found LockFault → MemberState
stands_found (Ok FoundInside) = Unmended
stands_found (Ok _) = Out
stands_found (Err e) = Lost

-- the member's state after `consistent`
abbrev pub stands_mended : Result Bool LockFault → MemberState
stands_mended (Ok b) = Mended
stands_mended (Err NotRecoverable) = Unmended
stands_mended (Err e) = Lost

-- a call on the board leaves the member's state as it was
abbrev pub stands_still : {T : Type 0} → MemberState → Result T LockFault → MemberState
stands_still s (Ok a) = s
stands_still s (Err e) = Lost

-- all members of an arena with this many processes. No two of them belong to one process
abbrev pub AreAll : ℕ → List Seat → Type 0
AreAll procs members = (0 < procs) × (length members ≡ procs)

-- the sum of these members' own steps
abbrev pub steps_taken : List Seat → ℕ
steps_taken [] = 0
steps_taken (m ∷ ms) = m.steps + steps_taken ms
