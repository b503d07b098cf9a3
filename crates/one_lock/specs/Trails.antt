-- The own steps of a process's machine, by the values that they read or wrote.
use Rattle.std.specs.Prelude.{◌≡◌, ℕ, ◌+◌, ◌≤◌, Bool, true, false, if◌then◌else◌, List, [], ◌∷◌, ◌++◌, length, Option, Some, None, IsSome}
use Rattle.rmecore.specs.declared.access.Access.{Access}
use Rattle.rmecore.specs.declared.happened.Happened.{Happened}
use Rattle.rmeworld.specs.declared.answer.Answer.{Answer}
use Rattle.rmeworld.specs.declared.call.Call.{Call}
use Rattle.rmeworld.specs.MachineState.{MachineState, IsSize, process_state_of, process_state_after, next_access, outcome, world_event, machine_after_step, machine_after_start, machine_after_crash}
use Rattle.rmeworld.specs.ProcessState.{WorldEvent, Begins, next_process_state}
use Rattle.rmeworld.specs.WorldState.{world_event_of}
use Rattle.table_runs.specs.declared.setup.Setup.{Setup}
use Rattle.one_lock.specs.declared.opening.Opening.{Opening}
use Rattle.one_lock.specs.declared.member_state.MemberState.{MemberState}
use Rattle.one_lock.specs.Execution.{AreSizes}
use Rattle.one_lock.specs.Member.{Trail, Seat, is_lost}

-- the machine after a crash, if there is one
abbrev pub crashed_if : Bool → MachineState → MachineState
crashed_if true s = machine_after_crash s
crashed_if false s = s

-- the machine after the start of a call, if there is one
abbrev pub started_if : Option Call → MachineState → MachineState
started_if None s = s
started_if (Some call) s = machine_after_start s call

-- the machine after the crash and the start before a step
abbrev pub opened_machine : Opening → MachineState → MachineState
opened_machine o s = started_if o.call (crashed_if o.crash s)

-- the definition allows the start before a step, if there is one
abbrev pub Accepts : Option Call → MachineState → Type 0
Accepts None s = Unit {0}
Accepts (Some call) s = next_process_state s.layout s.limit (process_state_of s) (Begins s.index call) ≡ Some (process_state_of (machine_after_start s call))

-- The event is that of the machine's next step: the definition allows it, and the machine's step with the event's value leaves
-- the process state that the definition names.
pub record IsEventOf (s : MachineState) (h : Happened) : Type 0 where
  pub access : Access
  pub next : next_access s ≡ Some access
  pub event : world_event_of s.index h ≡ world_event s access h.value
  pub allowed : IsSome (next_process_state s.layout s.limit (process_state_of s) (world_event s access h.value))
  pub process_state : process_state_of (machine_after_step s h.value) ≡ process_state_after s (Some access) h.value

-- the machine after a step with this opening and value, the step's answer if it ends its call, and whether it is blocked
abbrev pub moved_machine : Opening → MachineState → ℕ → MachineState
moved_machine o s v = machine_after_step (opened_machine o s) v

abbrev pub answer_with : Opening → MachineState → ℕ → Option Answer
answer_with o s v = (outcome (opened_machine o s) (next_access (opened_machine o s)) v).answer

abbrev pub is_blocked_with : Opening → MachineState → ℕ → Bool
is_blocked_with o s v = (outcome (opened_machine o s) (next_access (opened_machine o s)) v).progress.blocked

-- the opening of a call's first step, and of its later ones
abbrev pub first_of : MemberState → Call → Opening
first_of standing call = record { crash = is_lost standing; call = Some call }

-- the opening of a later step: no crash and no start
abbrev pub later_opening : Opening
later_opening = record { crash = false; call = None }

-- the opening of the step after those with these values, and the machine before it
abbrev pub opening_after : Opening → List ℕ → Opening
opening_after first [] = first
opening_after first (v ∷ vs) = later_opening

abbrev pub machine_after : Opening → MachineState → List ℕ → MachineState
machine_after first s [] = s
machine_after first s (v ∷ vs) = machine_after later_opening (moved_machine first s v) vs

-- how many of the steps with these values were blocked
abbrev pub blocked_along : Opening → MachineState → List ℕ → ℕ
blocked_along first s [] = 0
blocked_along first s (v ∷ vs) = (if is_blocked_with first s v then 1 else 0) + blocked_along later_opening (moved_machine first s v) vs

-- the event of an access with this value, if there is one, and the events of the steps with these values
abbrev pub event_if : MachineState → Option Access → ℕ → List WorldEvent
event_if s None v = []
event_if s (Some access) v = world_event s access v ∷ []

abbrev pub events_along : Opening → MachineState → List ℕ → List WorldEvent
events_along first s [] = []
events_along first s (v ∷ vs) = event_if (opened_machine first s) (next_access (opened_machine first s)) v ++ events_along later_opening (moved_machine first s v) vs

-- a trail after one more step
abbrev pub longer_trail : Opening → Trail → ℕ → Trail
longer_trail o t v = record { machine = moved_machine o t.machine v; values = t.values ++ v ∷ [] }

-- The trail is the member's own: its machine is that of its process in an arena of its sizes, which are those that are named,
-- and there is one value for each of its own steps.
pub record IsOwnTrail (named : Option Setup) (m : Seat) : Type 0 where
  pub index : m.trail.machine.index ≡ m.process
  pub size : IsSize m.layout
  pub layout : m.trail.machine.layout ≡ m.layout
  pub limited : 1 ≤ m.trail.machine.limit
  pub sizes : AreSizes named m.trail.machine.layout m.trail.machine.limit
  pub each : m.steps ≡ length m.trail.values
