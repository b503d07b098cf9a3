-- Worlds at the end of an execution, and their images.
use Rattle.std.specs.Prelude.{◌≡◌, ℕ, ◌≤◌, ◌^◌, ◌⊎◌, nat_lt, if◌then◌else◌, List, length}
use Rattle.rmecore.specs.Simulated.{own_at}
use Rattle.rmecore.specs.declared.own.Own.{Own}
use Rattle.redomail.specs.declared.deed.Deed.{Deed}
use Rattle.redomail.specs.declared.layout.Layout.{Layout}
use Rattle.redomail.specs.Layout.{Words, words_of, size}
use Rattle.judge.specs.Legal.{Leads}
use Rattle.judge.specs.Table.{State, empty_state}
use Rattle.judge.specs.Starts.{state_of}
use Rattle.judge.specs.declared.start.Start.{Start}
use Rattle.rmecore.specs.Lawful.{IsLawful}
use Rattle.rmeworld.specs.ImageRules.{layout_of, IsLawfulImage}
use Rattle.rmeworld.specs.ImageStart.{IsStartOf}
use Rattle.rmeworld.specs.Law.{IsLater, Sound}
use Rattle.rmeworld.specs.ProcessState.{WorldEvent, at_rest, dead_process}
use Rattle.rmeworld.specs.MachineState.{IsSize}
use Rattle.rmeworld.specs.Tallied.{AllTallied}
use Rattle.rmeworld.specs.World.{GlobalState, at_first, Execution, last_global_state, deeds}
use Rattle.rmeworld.specs.WorldState.{WorldState, IsConfigured, global_state_of, image_world}
use Rattle.rmeworld.specs.declared.image.Image.{Image}

-- these words, with each of the n processes crashed
abbrev pub crashed_global_state : ℕ → (ℕ → Own) → Words → GlobalState
crashed_global_state n words cells = record { words = words; cells = cells; process_states = λ p. if nat_lt p n then dead_process else at_rest }

-- a global state at the beginning of an execution, with the judge's state there: that of a new world, or one whose processes
-- have all crashed, with words that are possible after that
abbrev pub IsOrigin : Layout → ℕ → GlobalState → State → Type 0
IsOrigin l limit w s =
    ((w ≡ at_first) × (s ≡ empty_state l.procs l.cap)) ⊎ ((w ≡ crashed_global_state l.procs w.words w.cells) × IsLater l limit w.words w.cells s)

-- Every execution of a lawful image's world is sound, with a judge that begins at the image's start. Its lock words stay
-- lawful, and all its deeds are legal.
abbrev pub EveryLaterExecutionIsSound : Type 0
EveryLaterExecutionIsSound =
    (i : Image) (s : Start) (execution : List WorldEvent) → IsLawfulImage i → IsStartOf i s
    → let l = layout_of i in
    let first = global_state_of (image_world i) in
    Execution l i.limit first execution → Sound l i.limit first (state_of s) execution
    × IsLawful l.procs i.limit (last_global_state l i.limit first execution).words × ((t : State) × Leads (state_of s) (deeds l i.limit first execution) t)

-- The image has the words of this global state, and its sizes.
pub record IsImageOf (l : Layout) (limit : ℕ) (w : GlobalState) (i : Image) : Type 0 where
  pub version : i.version ≡ 2
  pub layout : layout_of i ≡ l
  pub limited : i.limit ≡ limit
  pub filled : length i.cells ≡ size l
  pub words : own_at i.lock ≡ w.words
  pub cells : words_of i.cells ≡ w.cells

-- After every execution, the words of all processes and the data words keep the nine rules of images.
abbrev pub EveryExecutionLeavesAnImage : Type 0
EveryExecutionLeavesAnImage =
    (l : Layout) (limit : ℕ) (w : GlobalState) (s : State) (execution : List WorldEvent) (i : Image) → IsSize l → (1 ≤ limit) × (limit ≤ 2 ^ 62)
    → IsOrigin l limit w s → Execution l limit w execution → IsImageOf l limit (last_global_state l limit w execution) i → IsLawfulImage i

-- The global state is the last of some execution, and the history is the execution's deeds.
pub record IsReached (l : Layout) (limit : ℕ) (w : GlobalState) (history : List Deed) : Type 0 where
  pub first : GlobalState
  pub state : State
  pub origin : IsOrigin l limit first state
  pub execution : List WorldEvent
  pub reports : Execution l limit first execution
  pub last : last_global_state l limit first execution ≡ w
  pub done : deeds l limit first execution ≡ history

-- The invariant of a world.
pub record IsWorld (s : WorldState) : Type 0 where
  pub sized : IsSize s.layout
  pub limited : (1 ≤ s.limit) × (s.limit ≤ 2 ^ 62)
  pub filled : length s.cells ≡ size s.layout
  pub configured : IsConfigured s.layout s.limit s.words s.processes s.tallies
  pub reached : IsReached s.layout s.limit (global_state_of s) s.history
  pub tallied : AllTallied s.layout (global_state_of s) s.tallies

-- The judge table allows the history, from the state of the world's beginning.
pub record IsLegalHistory (s : WorldState) : Type 0 where
  pub first : GlobalState
  pub state : State
  pub origin : IsOrigin s.layout s.limit first state
  pub now : State
  pub leads : Leads state s.history now
