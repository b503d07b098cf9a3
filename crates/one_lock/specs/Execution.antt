-- One world under one mutex: what is known whenever the mutex is free.
use Rattle.std.specs.Prelude.{◌≡◌, ℕ, suc, List, [], ◌∷◌, Option, Some, None}
use Rattle.rmeworld.specs.ProcessState.{WorldEvent, Begins, Falls, Moves, Glances}
use Rattle.rmeworld.specs.World.{at_first, Execution, last_global_state, deeds}
use Rattle.rmeworld.specs.Replayed.{image_of}
use Rattle.rmeworld.specs.WorldState.{WorldState, global_state_of}
use Rattle.rmeworld.specs.declared.image.Image.{Image}
use Rattle.redomail.specs.declared.layout.Layout.{Layout}
use Rattle.table_runs.specs.declared.setup.Setup.{Setup}

-- how many of the events are steps: loads or stores of one word
abbrev pub steps_of : List WorldEvent → ℕ
steps_of [] = 0
steps_of (Begins p call ∷ es) = steps_of es
steps_of (Falls p ∷ es) = steps_of es
steps_of (Moves p kind word v ∷ es) = suc (steps_of es)
steps_of (Glances p word v ∷ es) = suc (steps_of es)

-- The specification's "History clause": some run from all words 0 has this many steps, has the history as its deeds, and
-- ends in the world under the mutex.
pub record HasExecution (s : WorldState) (steps : ℕ) : Type 0 where
  pub execution : List WorldEvent
  pub fact : Execution s.layout s.limit at_first execution
  pub last : last_global_state s.layout s.limit at_first execution ≡ global_state_of s
  pub done : deeds s.layout s.limit at_first execution ≡ s.history
  pub counted : steps_of execution ≡ steps

-- what contracts see of the state under the mutex: the world, and the total of the ledger's book
pub record LockedState : Type 0 where
  pub world : WorldState
  pub total : ℕ

-- a world has the sizes that are named; if none are named, any world does
abbrev pub AreSizes : Option Setup → Layout → ℕ → Type 0
AreSizes None layout limit = Unit {0}
AreSizes (Some named) layout limit = (layout ≡ named.layout) × (limit ≡ named.limit)

-- some run of this many steps, from all words 0, ends in a world with these sizes and words
abbrev pub IsLeftBy : ℕ → Image → Type 0
IsLeftBy steps image = (s : WorldState) × HasExecution s steps × (image ≡ image_of s)
