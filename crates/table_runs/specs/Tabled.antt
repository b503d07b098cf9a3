-- The own steps of a member's call, by the table of own steps of docs/theory/model.md. The table goes by the lock words of the
-- process when the call began, at the end of the caller's view, and by whether there was nothing to mend then.
use Rattle.std.specs.Prelude.{◌≡◌, ℕ, ◌+◌, ◌<◌, ◌≤◌, List, [], ◌∷◌, length, drop, Option, Some, None}
use Rattle.rmecore.specs.declared.own.Own.{Own}
use Rattle.rmeworld.specs.declared.answer.Answer.{Answer}
use Rattle.rmeworld.specs.declared.answer.Answer.TheVariants.{NumbersSpent as SpentAnswer, NotRecoverable as RuinedAnswer}
use Rattle.rmeworld.specs.declared.call.Call.{Call}
use Rattle.rmeworld.specs.declared.call.Call.TheVariants.{Lock}
use Rattle.rmeworld.specs.OwnSteps.{own_steps, most_steps}
use Rattle.rmeworld.specs.ProcessState.{ProcessState}
use Rattle.table_runs.specs.declared.entry.TakenStep.{TakenStep}
use Rattle.table_runs.specs.declared.lock_fault.LockFault.{LockFault}
use Rattle.table_runs.specs.declared.lock_fault.LockFault.TheVariants.{NotYet, NumbersSpent, NotRecoverable}
use Rattle.table_runs.specs.Runs.{crash_first, end_of, process_state_past, entries_of, process_state_of}
use Rattle.table_runs.specs.SeatView.{SeatView}
use Rattle.table_runs.specs.WorkingMembers.{Seated}
use Rattle.crash_plans.specs.Plans.{many_more}
use Rattle.table_runs.specs.Calls.{blocked_of, Served}

-- the lock words of the process at the end of its view
abbrev pub words_begun : SeatView → Own
words_begun x = (end_of x.setup x.seen).words x.by

-- the process state right before a call starts, after a pending crash
abbrev pub process_state_begun : SeatView → ProcessState
process_state_begun x = process_state_past x.setup (process_state_of x.setup x.by x.seen) (crash_first x.fallen x.by)

-- the table's number for a call with this answer
abbrev pub table_steps : SeatView → Call → Answer → Option ℕ
table_steps x call a = own_steps x.setup.layout (words_begun x) (process_state_begun x).mended call a

-- k own steps, some of them blocked: with an answer, the table's number and the blocked ones; without one, fewer than the
-- most that the call takes, and the blocked ones
abbrev pub KeepsTable : SeatView → Call → List Answer → ℕ → ℕ → Type 0
KeepsTable x call [] blocked steps = (k : ℕ) × (steps ≡ k + blocked) × (k < most_steps x.setup.layout call)
KeepsTable x call (a ∷ []) blocked steps = (k : ℕ) × (table_steps x call a ≡ Some k) × (steps ≡ k + blocked)
KeepsTable x call (a ∷ b ∷ more) blocked steps = ⊥

-- each call of a member, whatever the others do meanwhile
abbrev pub CallsKeepTheTable : Type 0
CallsKeepTheTable =
    (x : Seated) (call : Call) (answers : List Answer) (blocked : ℕ) (y : Seated) (mine : List TakenStep) → Served x call answers blocked y mine → KeepsTable x.seat_view call answers blocked (length mine)

-- the blocked readings of a process between two of its views
abbrev pub blocked_since : SeatView → SeatView → ℕ
blocked_since x y = blocked_of x (entries_of x.by (drop (length x.seen) y.seen))

-- how many own steps a lock has counted that has this answer, or none yet: the table's number, and the blocked steps
abbrev pub LockCounts : Seated → Option Answer → Seated → Type 0
LockCounts x (Some a) y = (k : ℕ) × (table_steps x.seat_view Lock a ≡ Some k) × (y.steps ≡ many_more (k + blocked_since x.seat_view y.seat_view) x.steps)
LockCounts x None y = (k : ℕ) × (k < most_steps x.seat_view.setup.layout Lock) × (y.steps ≡ many_more (k + blocked_since x.seat_view y.seat_view) x.steps)

-- the same for a lock that fails after its start without a crash
abbrev pub LockCountsOut : Seated → Seated → LockFault → Type 0
LockCountsOut x y e =
    (e ≡ NotYet → LockCounts x None y) × (e ≡ NumbersSpent → LockCounts x (Some SpentAnswer) y) × (e ≡ NotRecoverable → LockCounts x (Some RuinedAnswer) y)

-- at most k own steps have been counted
abbrev pub CountsAtMost : ℕ → Seated → Seated → Type 0
CountsAtMost most x y = (k : ℕ) × (k ≤ most) × (y.steps ≡ many_more k x.steps)
