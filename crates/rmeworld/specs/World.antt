-- "World" and "Run": all processes with their lock words, and the data words. An execution is a list of events, each allowed
-- after those before it. Here are the events that are allowed, the global state after each, and their deeds.
use Rattle.std.specs.Prelude.{◌≡◌, ℕ, ◌<◌, false, ◌==◌, nat_lt, if◌then◌else◌, List, [], ◌∷◌, ◌++◌, Option, Some, None, IsSome, unwrap_or}
use Rattle.rmecore.specs.Needs.{put}
use Rattle.rmecore.specs.World.{is_store, read, write}
use Rattle.rmecore.specs.declared.outer.Outer.{Outer}
use Rattle.rmecore.specs.declared.own.Own.{Own}
use Rattle.rmecore.specs.declared.word.Word.{Word}
use Rattle.rmecore.specs.declared.word.Word.TheVariants.{Data as DataAt}
use Rattle.redomail.specs.declared.deed.Deed.{Deed}
use Rattle.redomail.specs.declared.deed.Deed.TheVariants.{Outer as OuterDeed}
use Rattle.redomail.specs.declared.layout.Layout.{Layout}
use Rattle.redomail.specs.Layout.{Words, size}
use Rattle.redomail.specs.Deeds.{deeds_of_put}
use Rattle.rmeworld.specs.ProcessState.{ProcessState, at_rest, WorldEvent, Moves, Glances, who, next_process_state, lock_deed}

-- a global state: the lock words, the data words and the states of all processes
pub record GlobalState : Type 0 where
  pub words : ℕ → Own
  pub cells : Words
  pub process_states : ℕ → ProcessState

-- all words are 0, and every process is at rest
abbrev pub at_first : GlobalState
at_first = record { words = λ p. record { choosing = 0; number = 0; inside = 0 }; cells = λ i. 0; process_states = λ p. at_rest }

abbrev pub reading_of : (ℕ → Own) → Words → Word → ℕ
reading_of words cells (DataAt i) = cells i
reading_of words cells word = read words word

-- the current value of a word
abbrev pub reading : GlobalState → Word → ℕ
reading w word = reading_of w.words w.cells word

-- a load reads the word's current value
abbrev pub ReadsWord : GlobalState → WorldEvent → Type 0
ReadsWord w (Moves p kind word v) = is_store kind ≡ false → reading w word ≡ v
ReadsWord w (Glances p word v) = reading w word ≡ v
ReadsWord w _ = Unit {0}

-- a store changes its own word alone. No other event changes a word
abbrev pub words_after : (ℕ → Own) → WorldEvent → ℕ → Own
words_after words (Moves p kind word v) = if is_store kind then write words word v else words
words_after words _ = words

-- a put past the data words changes nothing
abbrev pub put_cell : Layout → Words → Word → ℕ → Words
put_cell l cells (DataAt i) v = if nat_lt i (size l) then put cells i v else cells
put_cell l cells word v = cells

-- the data words after an event
abbrev pub cells_after : Layout → Words → WorldEvent → Words
cells_after l cells (Moves p kind word v) = if is_store kind then put_cell l cells word v else cells
cells_after l cells _ = cells

-- an event is allowed if its process's state allows it and a load reads the current value
abbrev pub Can : Layout → ℕ → GlobalState → WorldEvent → Type 0
Can l limit w e = (who e < l.procs) × IsSome (next_process_state l limit (w.process_states (who e)) e) × ReadsWord w e

-- the global state after an event
abbrev pub state_after_event : Layout → ℕ → GlobalState → WorldEvent → GlobalState
state_after_event l limit w e =
    record {
      words = words_after w.words e;
      cells = cells_after l w.cells e;
      process_states = put w.process_states (who e) (unwrap_or (next_process_state l limit (w.process_states (who e)) e) (w.process_states (who e)));
    }

-- "Run": each event is allowed after those before it
abbrev pub Execution : Layout → ℕ → GlobalState → List WorldEvent → Type 0
Execution l limit w [] = Unit {0}
Execution l limit w (e ∷ es) = Can l limit w e × Execution l limit (state_after_event l limit w e) es

-- the global state after an execution
abbrev pub last_global_state : Layout → ℕ → GlobalState → List WorldEvent → GlobalState
last_global_state l limit w [] = w
last_global_state l limit w (e ∷ es) = last_global_state l limit (state_after_event l limit w e) es

abbrev pub outer_deeds : Option Outer → List Deed
outer_deeds None = []
outer_deeds (Some d) = OuterDeed d ∷ []

-- the deeds of a put into a data word
abbrev pub put_deeds : Layout → ℕ → Words → Word → ℕ → List Deed
put_deeds l p cells (DataAt i) v = deeds_of_put l p cells i v
put_deeds l p cells word v = []

-- the deeds of an event that is a put
abbrev pub mail_deeds : Layout → Words → WorldEvent → List Deed
mail_deeds l cells (Moves p kind word v) = if is_store kind then put_deeds l p cells word v else []
mail_deeds l cells _ = []

-- "Deeds of a run": an event has at most one, the lock's or that of a put
abbrev pub event_deeds : Layout → GlobalState → WorldEvent → List Deed
event_deeds l w e = outer_deeds (lock_deed (w.process_states (who e)) e) ++ mail_deeds l w.cells e

-- the deeds of an execution
abbrev pub deeds : Layout → ℕ → GlobalState → List WorldEvent → List Deed
deeds l limit w [] = []
deeds l limit w (e ∷ es) = event_deeds l w e ++ deeds l limit (state_after_event l limit w e) es

-- the events of one process
abbrev pub own_world_events : ℕ → List WorldEvent → List WorldEvent
own_world_events p [] = []
own_world_events p (e ∷ es) = if who e == p then e ∷ own_world_events p es else own_world_events p es

-- the process state after a list of events
abbrev pub process_state_after : Layout → ℕ → ProcessState → List WorldEvent → ProcessState
process_state_after l limit process_state [] = process_state
process_state_after l limit process_state (e ∷ es) = process_state_after l limit (unwrap_or (next_process_state l limit process_state e) process_state) es
