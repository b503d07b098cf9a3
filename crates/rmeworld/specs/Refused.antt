-- Which starts are refused, and why: the first cause of the call that holds.
use Rattle.std.specs.Prelude.{ℕ, Bool, true, false, not, ◌==◌, nat_lt, length, if◌then◌else◌, List, [], ◌∷◌, Option, Some, None}
use Rattle.rmecore.specs.Place.{Place, Wait, Inside}
use Rattle.rmecore.specs.Refused.{is_idle as is_idle_place}
use Rattle.rmecore.specs.declared.refusal.Refusal.{Refusal}
use Rattle.rmecore.specs.declared.refusal.Refusal.TheVariants.{CallUnderWay, NotOwner, AlreadyIn, NotInconsistent, Unmended, BadIndex, NotWaiting, BadWidth}
use Rattle.redomail.specs.declared.layout.Layout.{Layout}
use Rattle.rmeworld.specs.declared.call.Call.{Call}
use Rattle.rmeworld.specs.declared.call.Call.TheVariants.{Lock, Unlock, Consistent, Recover, Append, Close, Get, Put, Withdraw}
use Rattle.rmeworld.specs.ProcessState.{ScriptState, Free, Doing, ProcessState}

-- no call is under way
abbrev pub is_idle_by : Place → ScriptState → Bool
is_idle_by s Free = is_idle_place s
is_idle_by s (Doing purpose left) = false

abbrev pub is_idle : ProcessState → Bool
is_idle process_state = is_idle_by process_state.lock process_state.script_state

abbrev pub is_inside : Place → Bool
is_inside Inside = true
is_inside _ = false

abbrev pub is_waiting : Place → Bool
is_waiting (Wait k unpassed looked) = true
is_waiting _ = false

-- a list of tests, each with its refusal
abbrev pub Needs : Type 0
Needs = List (Bool × Refusal)

-- The needs of a call at its start, in order, each with its refusal. They depend on the words of a value, whether no call of
-- the process is under way, whether it is inside, whether a lock of it waits, and whether it has nothing to mend.
abbrev pub needs : (width : ℕ) (idle inside waiting mended : Bool) → Call → Needs
needs width idle inside waiting mended Lock = (idle, CallUnderWay) ∷ (not inside, AlreadyIn) ∷ []
needs width idle inside waiting mended Recover = (idle, CallUnderWay) ∷ (not inside, AlreadyIn) ∷ []
needs width idle inside waiting mended Unlock = (idle, CallUnderWay) ∷ (inside, NotOwner) ∷ []
needs width idle inside waiting mended Consistent = (idle, CallUnderWay) ∷ (inside, NotOwner) ∷ (not mended, NotInconsistent) ∷ []
needs width idle inside waiting mended (Append seq value) = (idle, CallUnderWay) ∷ (inside, NotOwner) ∷ (mended, Unmended) ∷ (length value == width, BadWidth) ∷ []
needs width idle inside waiting mended Close = (idle, CallUnderWay) ∷ (inside, NotOwner) ∷ (mended, Unmended) ∷ []
needs width idle inside waiting mended (Get i) = (idle, CallUnderWay) ∷ (inside, NotOwner) ∷ (nat_lt i 4, BadIndex) ∷ []
needs width idle inside waiting mended (Put i v) = (idle, CallUnderWay) ∷ (inside, NotOwner) ∷ (nat_lt i 4, BadIndex) ∷ []
needs width idle inside waiting mended Withdraw = (waiting, NotWaiting) ∷ []

-- the refusal of the first need that fails
abbrev pub first_cause : Needs → Option Refusal
first_cause [] = None
first_cause (need ∷ rest) = if need.0 then first_cause rest else Some need.1

-- why a process in this state may not start the call
abbrev pub start_refusal : Layout → ProcessState → Call → Option Refusal
start_refusal l process_state call =
    first_cause (needs l.width (is_idle process_state) (is_inside process_state.lock) (is_waiting process_state.lock) process_state.mended call)
