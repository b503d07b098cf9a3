-- What a member's call answers: what the world under the mutex and the machine of its process answer.
use Rattle.std.specs.Prelude.{◌≡◌, ◌≢◌, ◌↔◌, ◌≤◌, ℕ, zero, suc, Bool, true, false, ◌⊎◌, Option, Some, None, IsNone, IfSome, IsTrue, List, [], ◌∷◌, ◌++◌, Result, Ok, Err}
use Rattle.rmecore.specs.Simulated.{tally_at}
use Rattle.rmecore.specs.declared.refusal.Refusal.{Refusal}
use Rattle.rmecore.specs.declared.refusal.Refusal.TheVariants.{OutOfMemory as WantsMemory}
use Rattle.rmecore.specs.declared.found.Found.{Found}
use Rattle.rmecore.specs.declared.found.Found.TheVariants.{Idle}
use Rattle.redomail.specs.declared.reply.Reply.{Reply}
use Rattle.redomail.specs.declared.reply.Reply.TheVariants.{Mended as MendedOrNot, Word, Done}
use Rattle.rmeworld.specs.declared.call.Call.{Call}
use Rattle.rmeworld.specs.declared.call.Call.TheVariants.{Lock}
use Rattle.rmeworld.specs.declared.answer.Answer.{Answer}
use Rattle.rmeworld.specs.declared.answer.Answer.TheVariants.{Clean, OwnerDied, NumbersSpent, Found as FoundOut, Mail}
use Rattle.rmeworld.specs.declared.outcome.Outcome.{Outcome}
use Rattle.rmeworld.specs.MachineState.{MachineState}
use Rattle.rmeworld.specs.ReplyEvents.{HasEvents}
use Rattle.rmeworld.specs.Replayed.{world_step_report, world_after_step, world_after_start, world_after_crash, start_refusal, advance_refusal, crash_refusal}
use Rattle.rmeworld.specs.WorldState.{WorldState}
use Rattle.table_runs.specs.Under.{IsAnswerOf}
use Rattle.table_runs.specs.declared.entry_kind.Entry.{Entry}
use Rattle.table_runs.specs.declared.entry_kind.Entry.TheVariants.{Clean as CleanEntry, OwnerDied as OwnerDiedEntry}
use Rattle.table_runs.specs.declared.lock_fault.LockFault.{LockFault}
use Rattle.table_runs.specs.declared.lock_fault.LockFault.TheVariants.{Crashed, NotYet, NumbersSpent as SpentFault, NotRecoverable as RuinFault, OutOfMemory}
use Rattle.table_runs.specs.declared.setup.Setup.{Setup}
use Rattle.one_lock.specs.declared.opening.Opening.{Opening}
use Rattle.one_lock.specs.declared.turn.StepReport.{StepReport}
use Rattle.one_lock.specs.declared.member_state.MemberState.{MemberState}
use Rattle.one_lock.specs.declared.member_state.MemberState.TheVariants.{Mended}
use Rattle.one_lock.specs.Execution.{HasExecution, AreSizes}
use Rattle.one_lock.specs.Member.{Seat, Trail, is_lost}
use Rattle.one_lock.specs.Trails.{crashed_if, opened_machine, Accepts, IsEventOf, moved_machine, answer_with, is_blocked_with, first_of, later_opening, opening_after, machine_after, blocked_along, events_along, longer_trail}

-- the world after the crash of p, if there is one
abbrev pub crash_by : Bool → ℕ → WorldState → WorldState
crash_by true p s = world_after_crash s p
crash_by false p s = s

-- the world after the start of p's call, if there is one
abbrev pub start_by : Option Call → ℕ → WorldState → WorldState
start_by None p s = s
start_by (Some call) p s = world_after_start s p call

-- the world after the crash and the start before a step of p
abbrev pub world_after_opening : Opening → ℕ → WorldState → WorldState
world_after_opening o p s = start_by o.call p (crash_by o.crash p s)

-- why the crash and the start before a step of p may be refused: out of memory, or the cause of the crash or of the start
abbrev pub RefusesToOpen : ℕ → Opening → WorldState → Refusal → Type 0
RefusesToOpen p o s e =
    (e ≡ WantsMemory) ⊎ ((o.crash ≡ true) × (crash_refusal s p ≡ Some e))
    ⊎ ((call : Call) × (o.call ≡ Some call) × (start_refusal (crash_by o.crash p s) p call ≡ Some e))

-- why a step of p with this opening may be refused: one of those causes, or the step's own
abbrev pub RefusesStep : ℕ → Opening → WorldState → Refusal → Type 0
RefusesStep p o s e = RefusesToOpen p o s e ⊎ (advance_refusal (world_after_opening o p s) p ≡ Some e)

-- why a crash, or a start, before a step of p is refused; none where there is no crash or no start
abbrev pub refusal_of_crash : Bool → ℕ → WorldState → Option Refusal
refusal_of_crash true p s = crash_refusal s p
refusal_of_crash false p s = None

-- why the start before a step of p is refused
abbrev pub refusal_of_start : Option Call → ℕ → WorldState → Option Refusal
refusal_of_start None p s = None
refusal_of_start (Some call) p s = start_refusal s p call

-- neither the crash nor the start before a step of p is refused
abbrev pub Opens : ℕ → Opening → WorldState → Type 0
Opens p o s = (refusal_of_crash o.crash p s ≡ None) × (refusal_of_start o.call p (crash_by o.crash p s) ≡ None)

-- the next step of p is a look or a weigh that has to be taken again: the count of its blocked steps grows
abbrev pub IsBlocked : ℕ → WorldState → Type 0
IsBlocked p s = (tally_at (world_after_step s p).tallies p).blocked ≢ (tally_at s.tallies p).blocked

-- Some run from all words 0 ends in a world with the sizes that are named. A step of p with this opening isn't refused
-- there, and this turn is its report.
pub record Reports (named : Option Setup) (p : ℕ) (o : Opening) (turn : StepReport) : Type 0 where
  pub world : WorldState
  pub steps : ℕ
  pub fact : HasExecution world steps
  pub sizes : AreSizes named world.layout world.limit
  pub opens : Opens p o world
  pub accepted : advance_refusal (world_after_opening o p world) p ≡ None
  pub happened : (world_step_report (world_after_opening o p world) p).happened ≡ turn.happened
  pub given : (world_step_report (world_after_opening o p world) p).answer ≡ turn.answer
  pub held : IsTrue turn.blocked ↔ IsBlocked p (world_after_opening o p world)

-- A machine has taken the step that a world reports: the same event, with the same answer, blocked or not.
pub record Mirrors (o : Opening) (turn : StepReport) (s : MachineState) : Type 0 where
  pub accepts : Accepts o.call (crashed_if o.crash s)
  pub event : IsEventOf (opened_machine o s) turn.happened
  pub answer : turn.answer ≡ answer_with o s turn.happened.value
  pub blocked : turn.blocked ≡ is_blocked_with o s turn.happened.value

-- A step of p's machine with this opening and value is one that some world reports.
pub record IsReportedStep (named : Option Setup) (p : ℕ) (o : Opening) (s : MachineState) (v : ℕ) : Type 0 where
  pub turn : StepReport
  pub reports : Reports named p o turn
  pub mirrors : Mirrors o turn s
  pub value : turn.happened.value ≡ v

-- what the trail says of one more step of p
abbrev pub TrailGrows : Option Setup → ℕ → Opening → Trail → Outcome → Trail → Type 0
TrailGrows named p o old outcome new = (v : ℕ) × (new ≡ longer_trail o old v) × IsReportedStep named p o old.machine v × (outcome.answer ≡ answer_with o old.machine v) × (outcome.progress.blocked ≡ is_blocked_with o old.machine v)

-- p's machine took steps of a call with these values, and none of them had an answer
abbrev pub HasTakenSteps : Option Setup → ℕ → Opening → MachineState → List ℕ → Type 0
HasTakenSteps named p first s [] = Unit {0}
HasTakenSteps named p first s (v ∷ vs) = IsReportedStep named p first s v × (answer_with first s v ≡ None) × HasTakenSteps named p later_opening (moved_machine first s v) vs

-- the turns are enough for k blocked steps; without a limit they always are
abbrev pub Suffice : Option ℕ → ℕ → Type 0
Suffice None k = Unit {0}
Suffice (Some turns) k = k ≤ turns

-- the turns that are left after one of them, if there is one
abbrev pub turns_after_one : Option ℕ → Option ℕ
turns_after_one None = None
turns_after_one (Some zero) = Some zero
turns_after_one (Some (suc turns)) = Some turns

-- a call that a member is asked for: the sizes, if they are named, the process, where it stands, the call, and how often it may be blocked
pub record AskedCall : Type 0 where
  pub named : Option Setup
  pub process : ℕ
  pub standing : MemberState
  pub call : Call
  pub turns : Option ℕ

abbrev pub asked_call : Option Setup → ℕ → MemberState → Call → Option ℕ → AskedCall
asked_call named process standing call turns = record { named = named; process = process; standing = standing; call = call; turns = turns }

-- its opening
abbrev pub opening_of : AskedCall → Opening
opening_of asked = first_of asked.standing asked.call

-- The call took its trail from one to another. Its last step gave this answer, which fits the call and has the events that the
-- table of replies asks for. The steps before it gave none, and no more of them were blocked than the call had turns. Without an
-- answer exactly as many were blocked, and the last step too.
pub record IsAnsweredCall (asked : AskedCall) (from to : Trail) (answer : Option Answer) : Type 0 where
  pub index : from.machine.index ≡ asked.process
  pub sizes : AreSizes asked.named from.machine.layout from.machine.limit
  pub before : List ℕ
  pub last : ℕ
  pub taken : HasTakenSteps asked.named asked.process (opening_of asked) from.machine before
  pub given : IsReportedStep asked.named asked.process (opening_after (opening_of asked) before) (machine_after (opening_of asked) from.machine before) last
  pub answered : answer_with (opening_after (opening_of asked) before) (machine_after (opening_of asked) from.machine before) last ≡ answer
  pub fits : IfSome answer (IsAnswerOf asked.call)
  pub events : IfSome answer (λ a. HasEvents from.machine.layout from.machine.limit asked.process (crashed_if (is_lost asked.standing) from.machine).mended asked.call a (events_along (opening_of asked) from.machine (before ++ last ∷ [])))
  pub values : to.values ≡ from.values ++ (before ++ last ∷ [])
  pub machine : to.machine ≡ machine_after (opening_of asked) from.machine (before ++ last ∷ [])
  pub few : Suffice asked.turns (blocked_along (opening_of asked) from.machine before)
  pub gives_up : IsNone answer
      → (is_blocked_with (opening_after (opening_of asked) before) (machine_after (opening_of asked) from.machine before) last ≡ true)
      × (asked.turns ≡ Some (blocked_along (opening_of asked) from.machine before))

-- The result of a member's call is the one of its process's answer, or the call was cut off.
pub record ReturnsAnswer {T : Type 0} (named : Option Setup) (by : Option Answer → Result T LockFault) (old : Seat) (call : Call) (turns : Option ℕ) (new : Seat) (result : Result T LockFault) : Type 0 where
  pub fact : (result ≡ Err Crashed) ⊎ ((result ≡ Err OutOfMemory) ⊎ ((answer : Option Answer) × (IsAnsweredCall (asked_call named old.process old.standing call turns) old.trail new.trail answer × (result ≡ by answer))))

-- the results of a lock (without an answer it has used up its turns), a recovery, a mending, a reading of the board, a call
-- without a result, and a task, by the answer of the process
abbrev pub entry_by : Option Answer → Result Entry LockFault
entry_by None = Err NotYet
entry_by (Some Clean) = Ok CleanEntry
entry_by (Some OwnerDied) = Ok OwnerDiedEntry
entry_by (Some NumbersSpent) = Err SpentFault
entry_by (Some _) = Err RuinFault

-- the result of a recovery
abbrev pub found_by : Option Answer → Result Found LockFault
found_by (Some (FoundOut found)) = Ok found
found_by _ = Ok Idle

-- the result of a mending
abbrev pub mended_by : Option Answer → Result Bool LockFault
mended_by (Some (Mail (MendedOrNot repaired))) = Ok repaired
mended_by _ = Err RuinFault

-- the result of a reading of the board
abbrev pub word_by : Option Answer → Result ℕ LockFault
word_by (Some (Mail (Word word))) = Ok word
word_by _ = Ok 0

-- the reply of a task
abbrev pub reply_by : Option Answer → Reply
reply_by (Some (Mail reply)) = reply
reply_by _ = Done

-- A task of a process that is in and has mended was given an answer, and this is its reply.
pub record IsReply (named : Option Setup) (p : ℕ) (call : Call) (reply : Reply) : Type 0 where
  pub answer : Answer
  pub from : Trail
  pub to : Trail
  pub answered : IsAnsweredCall (asked_call named p Mended call None) from to (Some answer)
  pub is : reply ≡ reply_by (Some answer)

-- A whole mailbox call that ends with what its lock was answered, after the lock's steps alone.
abbrev pub EndsAtLock : Option Setup → Seat → Option ℕ → Trail → LockFault → Type 0
EndsAtLock named old turns to NotYet = IsAnsweredCall (asked_call named old.process old.standing Lock turns) old.trail to None
EndsAtLock named old turns to SpentFault = IsAnsweredCall (asked_call named old.process old.standing Lock turns) old.trail to (Some NumbersSpent)
EndsAtLock named old turns to _ = Unit {0}
