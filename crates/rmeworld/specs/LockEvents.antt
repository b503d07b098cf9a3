-- The lock's part of an execution: its events as events of the lock alone. A start, a step of the lock's part and a crash are one
-- event. A step of a script is none, but the last one of a script after which its process leaves is the start of the exit.
use Rattle.std.specs.Prelude.{ℕ, Bool, true, List, [], ◌∷◌, Option, Some, None, unwrap_or}
use Rattle.rmecore.specs.Place.{Event, Starts, Crashes, Steps, Place, Leaving}
use Rattle.rmecore.specs.declared.core_call.CoreCall.TheVariants as core
use Rattle.rmecore.specs.declared.kind.Kind.{Kind}
use Rattle.rmecore.specs.declared.word.Word.{Word}
use Rattle.redomail.specs.declared.layout.Layout.{Layout}
use Rattle.rmeworld.specs.ProcessState.{ProcessState, ScriptState, Free, Doing, WorldEvent, Begins, Falls, Moves, Glances, who, next_process_state}
use Rattle.rmeworld.specs.World.{GlobalState, state_after_event}
use Rattle.rmeworld.specs.declared.call.Call.{Call}
use Rattle.rmeworld.specs.declared.call.Call.TheVariants.{Lock, Unlock, Recover, Withdraw}

-- the start of a call, by whether the holder is mended. Where it is not, an unlock begins with a script
abbrev pub begun_event : ℕ → Bool → Call → Option Event
begun_event p b Lock = Some (Starts p core.Lock)
begun_event p b Recover = Some (Starts p core.Recover)
begun_event p b Withdraw = Some (Starts p core.Withdraw)
begun_event p true Unlock = Some (Starts p core.Unlock)
begun_event _ _ _ = None

-- the exit begins where a script leads to it
abbrev pub exit_event : ℕ → Place → Option Event
exit_event p Leaving = Some (Starts p core.Unlock)
exit_event p _ = None

-- a step, by the script state before it and the place after it
abbrev pub moved_event : ℕ → ScriptState → Kind → Word → ℕ → Place → Option Event
moved_event p Free kind word v lock = Some (Steps p kind word v)
moved_event p (Doing purpose left) kind word v lock = exit_event p lock

-- the event of the lock, from its process's state before it
abbrev pub lock_event : Layout → ℕ → ProcessState → WorldEvent → Option Event
lock_event l limit s (Begins p call) = begun_event p s.mended call
lock_event l limit s (Falls p) = Some (Crashes p)
lock_event l limit s (Moves p kind word v) = moved_event p s.script_state kind word v (unwrap_or (next_process_state l limit s (Moves p kind word v)) s).lock
lock_event l limit s (Glances p word v) = None

abbrev pub event_then : Option Event → List Event → List Event
event_then None es = es
event_then (Some e) es = e ∷ es

-- the events of the lock in an execution
abbrev pub lock_events : Layout → ℕ → GlobalState → List WorldEvent → List Event
lock_events l limit w [] = []
lock_events l limit w (e ∷ es) = event_then (lock_event l limit (w.process_states (who e)) e) (lock_events l limit (state_after_event l limit w e) es)
