-- The run of the table (Run of docs/theory/model.md): a list of entries. Spelled out, it is an execution of the simulated
-- world.
use Rattle.std.specs.Prelude.{◌≡◌, ℕ, ◌+◌, ◌*◌, ◌<◌, ◌≤◌, ◌==◌, ◌||◌, Bool, true, false, List, [], ◌∷◌, ◌++◌, length, slice_index, filter, Option, Some, None, IsSome, unwrap_or}
use Rattle.rmecore.specs.World.{is_store}
use Rattle.rmecore.specs.declared.kind.Kind.{Kind}
use Rattle.rmecore.specs.declared.kind.Kind.TheVariants.{Glance as Looks}
use Rattle.rmecore.specs.declared.word.Word.{Word}
use Rattle.rmecore.specs.declared.word.Word.TheVariants.{Choosing as ChoosingOf, Number as NumberOf, Inside as InsideOf, Data as DataAt}
use Rattle.redomail.specs.Layout.{size}
use Rattle.rmeworld.specs.declared.call.Call.{Call}
use Rattle.rmeworld.specs.ProcessState.{ProcessState, at_rest, WorldEvent, Begins, Falls, Moves, Glances, next_process_state}
use Rattle.rmeworld.specs.World.{GlobalState, at_first, Execution, last_global_state, reading, process_state_after}
use Rattle.table_runs.specs.declared.setup.Setup.{Setup}
use Rattle.table_runs.specs.declared.entry.TakenStep.{TakenStep}

-- the crash, if there is one
abbrev pub crash_first : Bool → ℕ → List WorldEvent
crash_first true p = Falls p ∷ []
crash_first false p = []

-- the start of a call, if there is one
abbrev pub start_then : Option Call → ℕ → List WorldEvent
start_then None p = []
start_then (Some call) p = Begins p call ∷ []

-- what comes before a step of process p: at most one crash, then at most one start
abbrev pub before : Bool → Option Call → ℕ → List WorldEvent
before crashed start p = crash_first crashed p ++ start_then start p

-- one load or store of process p
abbrev pub access_event : ℕ → Kind → Word → ℕ → WorldEvent
access_event p Looks word v = Glances p word v
access_event p kind word v = Moves p kind word v

-- the events of an entry: its crash, its start, and its load or store
abbrev pub world_events : TakenStep → List WorldEvent
world_events e = before e.step.crashed e.step.start e.by ++ access_event e.by e.step.kind e.step.word e.value ∷ []

-- a run as the list of its events
abbrev pub events_of_run : List TakenStep → List WorldEvent
events_of_run [] = []
events_of_run (e ∷ es) = world_events e ++ events_of_run es

-- the entries of process p
abbrev pub entries_of : ℕ → List TakenStep → List TakenStep
entries_of p es = filter (λ (e : TakenStep). e.by == p) es

-- the number is in the list
abbrev pub has : ℕ → List ℕ → Bool
has p [] = false
has p (q ∷ qs) = (q == p) || has p qs

-- the entries are a run from the first global state on, all words 0
abbrev pub IsRun : Setup → List TakenStep → Type 0
IsRun s es = Execution s.layout s.limit at_first (events_of_run es)

-- the global state after a run
abbrev pub end_of : Setup → List TakenStep → GlobalState
end_of s es = last_global_state s.layout s.limit at_first (events_of_run es)

-- the state of a process after these events of its own. An event that isn't allowed leaves the state as it is
abbrev pub process_state_past : Setup → ProcessState → List WorldEvent → ProcessState
process_state_past s process_state hs = process_state_after s.layout s.limit process_state hs

-- the state of process p, a function of its own entries
abbrev pub process_state_of : Setup → ℕ → List TakenStep → ProcessState
process_state_of s p es = process_state_past s at_rest (events_of_run (entries_of p es))

-- each of these events is allowed to the process in turn, from this state on
abbrev pub AllowsEvents : Setup → ProcessState → List WorldEvent → Type 0
AllowsEvents s process_state [] = Unit {0}
AllowsEvents s process_state (h ∷ hs) = IsSome (next_process_state s.layout s.limit process_state h) × AllowsEvents s (unwrap_or (next_process_state s.layout s.limit process_state h) process_state) hs

-- how many words the table has: three for each process, then the data words
abbrev pub word_count : Setup → ℕ
word_count s = 3 * s.layout.procs + size s.layout

-- the index of a word in the table
abbrev pub index : Setup → Word → ℕ
index s (ChoosingOf p) = 3 * p
index s (NumberOf p) = 3 * p + 1
index s (InsideOf p) = 3 * p + 2
index s (DataAt i) = 3 * s.layout.procs + i

-- the table has the word
abbrev pub InTable : Setup → Word → Type 0
InTable s (ChoosingOf p) = p < s.layout.procs
InTable s (NumberOf p) = p < s.layout.procs
InTable s (InsideOf p) = p < s.layout.procs
InTable s (DataAt i) = i < size s.layout

-- a data word past the end of the mailbox
abbrev pub IsBeyond : Setup → Word → Type 0
IsBeyond s (DataAt i) = size s.layout ≤ i
IsBeyond s word = ⊥

-- the table's words are those of the global state
abbrev pub Shows : Setup → GlobalState → List ℕ → Type 0
Shows s w words = (length words ≡ word_count s) × ((word : Word) → InTable s word → slice_index words (index s word) ≡ reading w word)

-- the entry is a store
abbrev pub stores : TakenStep → Bool
stores e = is_store e.step.kind
