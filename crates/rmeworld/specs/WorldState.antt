-- The state of a world as contracts see it, and its global state.
use Rattle.std.specs.Prelude.{◌≡◌, ℕ, ◌<◌, ◌≤◌, ◌^◌, ◌&&◌, nat_lt, nat_le, List, [], ◌∷◌, ◌++◌, length, map, replicate, slice_index_or, zero, suc, ◌+◌, if◌then◌else◌, Option, Some, None, IsSome}
use Rattle.rmecore.specs.Machine.{owner}
use Rattle.rmecore.specs.Simulated.{zeros as zero_words, own_at, new_tally}
use Rattle.rmecore.specs.declared.happened.Happened.{Happened}
use Rattle.rmecore.specs.declared.own.Own.{Own}
use Rattle.rmecore.specs.declared.refusal.Refusal.{Refusal}
use Rattle.rmecore.specs.declared.refusal.Refusal.TheVariants.{BadProcs, BadLimit, BadCap, BadWidth}
use Rattle.rmecore.specs.declared.tally.Tally.{Tally}
use Rattle.rmecore.specs.declared.word.Word.{Word}
use Rattle.redomail.specs.declared.deed.Deed.{Deed}
use Rattle.redomail.specs.declared.layout.Layout.{Layout}
use Rattle.redomail.specs.Layout.{words_of, size}
use Rattle.rmeworld.specs.ProcessState.{ProcessState, WorldEvent, Moves, next_process_state}
use Rattle.rmeworld.specs.MachineState.{MachineState, process_state_of, resting, machine_after_crash}
use Rattle.rmeworld.specs.declared.image.Image.{Image}
use Rattle.rmeworld.specs.ImageRules.{layout_of}
use Rattle.rmeworld.specs.World.{GlobalState, Can, state_after_event, event_deeds}

-- a world: its sizes, its words, the machines and counts of its processes, and its history
pub record WorldState : Type 0 where
  pub layout : Layout
  pub limit : ℕ
  pub words : List Own
  pub cells : List ℕ
  pub processes : List MachineState
  pub tallies : List Tally
  pub history : List Deed

-- the default for an index that is no process
abbrev pub absent_machine : MachineState
absent_machine = resting (record { procs = 0; cap = 0; width = 0 }) 0 0

-- the process at an index, and its state
abbrev pub machine_state_at : List MachineState → ℕ → MachineState
machine_state_at processes p = slice_index_or processes p absent_machine

abbrev pub process_state_at : List MachineState → ℕ → ProcessState
process_state_at processes p = process_state_of (machine_state_at processes p)

-- the global state of a world
abbrev pub global_state_of : WorldState → GlobalState
global_state_of s = record { words = own_at s.words; cells = words_of s.cells; process_states = process_state_at s.processes }

-- process p of a world of these sizes, with this limit
abbrev pub HasConfiguration : Layout → ℕ → ℕ → MachineState → Type 0
HasConfiguration l limit p s = (s.layout ≡ l) × (s.limit ≡ limit) × (s.index ≡ p)

-- the lists have one member for each process, in the order of their indices
pub record IsConfigured (l : Layout) (limit : ℕ) (words : List Own) (processes : List MachineState) (tallies : List Tally) : Type 0 where
  pub words_each : length words ≡ l.procs
  pub processes_each : length processes ≡ l.procs
  pub tallies_each : length tallies ≡ l.procs
  pub configurations : (p : ℕ) → p < l.procs → HasConfiguration l limit p (machine_state_at processes p)

-- The definition allows the event. The new global state is the one after it, and the history grows by the event's deeds
-- alone.
pub record Takes (old : WorldState) (e : WorldEvent) (new : WorldState) : Type 0 where
  pub can : Can old.layout old.limit (global_state_of old) e
  pub global_state : global_state_of new ≡ state_after_event old.layout old.limit (global_state_of old) e
  pub history : new.history ≡ old.history ++ event_deeds old.layout (global_state_of old) e
  pub layout : new.layout ≡ old.layout
  pub limit : new.limit ≡ old.limit

-- the event of a step's report
abbrev pub world_event_of : ℕ → Happened → WorldEvent
world_event_of p h = Moves p h.kind h.word h.value

-- where "Step" leaves a choice of words, the one of the least process is taken
abbrev pub ChoosesLeast : WorldState → ℕ → Happened → Type 0
ChoosesLeast old p h =
    (word : Word) (v : ℕ) → IsSome (next_process_state old.layout old.limit (process_state_at old.processes p) (Moves p h.kind word v)) → owner h.word ≤ owner word

-- n processes at rest, from p on
abbrev pub at_rest_from : Layout → ℕ → ℕ → ℕ → List MachineState
at_rest_from l limit p zero = []
at_rest_from l limit p (suc n) = resting l limit p ∷ at_rest_from l limit (p + 1) n

-- a new world: all words are 0, and all processes at rest
abbrev pub new_world : Layout → ℕ → WorldState
new_world l limit =
    record {
      layout = l;
      limit = limit;
      words = replicate l.procs zero_words;
      cells = replicate (size l) 0;
      processes = at_rest_from l limit 0 l.procs;
      tallies = replicate l.procs (new_tally zero_words);
      history = [];
    }

-- the refusal for a world of these sizes. Out of memory is not among them
abbrev pub new_refusal : Layout → ℕ → Option Refusal
new_refusal l limit =
    if nat_lt 0 l.procs && nat_le l.procs 64
    then (if nat_lt 0 limit && nat_le limit (2 ^ 62)
    then (if nat_lt 0 l.cap && nat_le l.cap 65536
    then (if nat_lt 0 l.width && nat_le l.width 8 then None else Some BadWidth)
    else Some BadCap)
    else Some BadLimit)
    else Some BadProcs

-- n crashed processes, from p on
abbrev pub crashed_from : Layout → ℕ → ℕ → ℕ → List MachineState
crashed_from l limit p zero = []
crashed_from l limit p (suc n) = machine_after_crash (resting l limit p) ∷ crashed_from l limit (p + 1) n

-- the world of an image: its words, with every process crashed
abbrev pub image_world : Image → WorldState
image_world i =
    record {
      layout = layout_of i;
      limit = i.limit;
      words = i.lock;
      cells = i.cells;
      processes = crashed_from (layout_of i) i.limit 0 (length i.lock);
      tallies = map new_tally i.lock;
      history = [];
    }
