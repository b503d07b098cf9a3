-- "Home state" of Petri nets, for a whole world: a global state that some continuation of every execution reaches. All
-- processes are at rest, all lock words are 0, and no script is under way. Which calls a continuation answers, that it need not
-- ruin the lock, and that each process can still enter.
use Rattle.std.specs.Prelude.{◌≡◌, ℕ, ◌<◌, true, List, [], ◌∷◌, All, ◌⊎◌, Option, None, IsSome, unwrap_or}
use Rattle.rmecore.specs.HomeState.{IsHome as IsHomeOfLock, EnterInLine, entries}
use Rattle.rmecore.specs.Place.{Inside, has}
use Rattle.rmecore.specs.World.{World}
use Rattle.redomail.specs.declared.deed.Deed.{Deed}
use Rattle.redomail.specs.declared.deed.Deed.TheVariants as deed
use Rattle.redomail.specs.declared.layout.Layout.{Layout}
use Rattle.judge.specs.Halves.{outers}
use Rattle.rmeworld.specs.Answered.{answer_at}
use Rattle.rmeworld.specs.ProcessState.{ScriptState, Free, Doing, ProcessState, WorldEvent, Begins, Falls, Moves, next_process_state}
use Rattle.rmeworld.specs.UnderWay.{call_at}
use Rattle.rmeworld.specs.World.{GlobalState, Execution, last_global_state, deeds, own_world_events}
use Rattle.rmeworld.specs.declared.answer.Answer.{Answer}
use Rattle.rmeworld.specs.declared.call.Call.TheVariants.{Withdraw}
use Rattle.rmeworld.specs.declared.purpose.Purpose.TheVariants.{Ruining}

-- the lock's part of a global state: its words, and the places of the processes
abbrev pub core_of : GlobalState → World
core_of w = record { words = w.words; places = λ p. (w.process_states p).lock }

-- an event that cuts off no call: neither a crash nor the start of a withdraw
abbrev pub IsUninterrupted : WorldEvent → Type 0
IsUninterrupted (Falls p) = ⊥
IsUninterrupted (Begins p Withdraw) = ⊥
IsUninterrupted _ = Unit {0}

-- a process is at rest, its lock words are 0, and it has no script under way
abbrev pub IsHome : GlobalState → ℕ → Type 0
IsHome w p = IsHomeOfLock (core_of w) p × ((w.process_states p).script_state ≡ Free)

-- the answer of an event, from its process's state before it
abbrev pub answer_of : ProcessState → WorldEvent → Option Answer
answer_of process_state (Moves p kind word v) = answer_at process_state kind v
answer_of process_state _ = None

-- among the own events of a process, from this state, one has an answer
abbrev pub IsAnswered : Layout → ℕ → ProcessState → List WorldEvent → Type 0
IsAnswered l limit process_state [] = ⊥
IsAnswered l limit process_state (e ∷ es) = IsSome (answer_of process_state e) ⊎ IsAnswered l limit (unwrap_or (next_process_state l limit process_state e) process_state) es

-- the script of an unlock that ruins the lock
abbrev pub IsRuining : ScriptState → Type 0
IsRuining (Doing Ruining left) = Unit {0}
IsRuining _ = ⊥

-- The lock is not ruined (data word 0), and no unlock under way ruins it.
abbrev pub IsRecoverable : ℕ → GlobalState → Type 0
IsRecoverable n w = (w.cells 0 ≡ 0) × ((p : ℕ) → p < n → IsRuining (w.process_states p).script_state → ⊥)

abbrev pub IsNoRuin : Deed → Type 0
IsNoRuin (deed.Ruin p) = ⊥
IsNoRuin _ = Unit {0}

-- no event ruins the lock, and it is not ruined at the end
pub record StaysRecoverable (l : Layout) (limit : ℕ) (w : GlobalState) (events : List WorldEvent) : Type 0 where
  pub no_ruin : All IsNoRuin (deeds l limit w events)
  pub ruined : (last_global_state l limit w events).cells 0 ≡ 0

-- A continuation without crash and withdraw brings all processes home. Each call that is under way at its beginning is
-- answered in it: no other call of the process begins before that answer. All that are in line at its beginning enter, in the
-- order of their pairs. Where the lock is not ruined at its beginning, nothing in it ruins the lock.
pub record CanComeHome (l : Layout) (limit : ℕ) (w : GlobalState) : Type 0 where
  pub events : List WorldEvent
  pub execution : Execution l limit w events
  pub uninterrupted : All IsUninterrupted events
  pub answered : (p : ℕ) → p < l.procs → IsSome (call_at (w.process_states p)) → IsAnswered l limit (w.process_states p) (own_world_events p events)
  pub home : (p : ℕ) → p < l.procs → IsHome (last_global_state l limit w events) p
  pub in_line : EnterInLine l.procs (core_of w) (entries (outers (deeds l limit w events)))
  pub recoverable : IsRecoverable l.procs w → StaysRecoverable l limit w events

-- The same, and what a crash cut off is mended: where the lock is not ruined, no record is armed at home (data word 3).
pub record CanComeHomeMended (l : Layout) (limit : ℕ) (w : GlobalState) : Type 0 where
  pub way : CanComeHome l limit w
  pub mended : IsRecoverable l.procs w → (last_global_state l limit w way.events).cells 3 ≡ 0

-- p enters in a continuation without crash and withdraw. Where the lock is not ruined at its beginning, nothing in it ruins the
-- lock, and p holds it at the end.
pub record CanStillEnter (l : Layout) (limit : ℕ) (w : GlobalState) (p : ℕ) : Type 0 where
  pub events : List WorldEvent
  pub execution : Execution l limit w events
  pub uninterrupted : All IsUninterrupted events
  pub enters : has (entries (outers (deeds l limit w events))) p ≡ true
  pub recoverable : IsRecoverable l.procs w → StaysRecoverable l limit w events
  pub holds : IsRecoverable l.procs w → (((last_global_state l limit w events).process_states p).lock ≡ Inside) × (((last_global_state l limit w events).process_states p).script_state ≡ Free)
