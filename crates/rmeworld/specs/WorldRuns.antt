-- Runs of a world: starts, steps and crashes one after another, from a world's beginning. Memory never fails here.
use Rattle.std.specs.Prelude.{◌≡◌, ℕ, ◌⊎◌, List, [], ◌∷◌, None}
use Rattle.redomail.specs.declared.layout.Layout.{Layout}
use Rattle.rmeworld.specs.Acts.{Act, Starts, Steps, Crashes, unless}
use Rattle.rmeworld.specs.ImageRules.{IsLawfulImage}
use Rattle.rmeworld.specs.Replayed.{start_refusal, world_after_start, advance_refusal, world_after_step, crash_refusal, world_after_crash}
use Rattle.rmeworld.specs.WorldState.{WorldState, new_world, new_refusal, image_world}
use Rattle.rmeworld.specs.declared.image.Image.{Image}

-- the world after an act
abbrev pub world_after_act : WorldState → Act → WorldState
world_after_act s (Starts p call) = unless (start_refusal s p call) s (world_after_start s p call)
world_after_act s (Steps p) = unless (advance_refusal s p) s (world_after_step s p)
world_after_act s (Crashes p) = unless (crash_refusal s p) s (world_after_crash s p)

-- the world after a list of acts
abbrev pub run_of : WorldState → List Act → WorldState
run_of s [] = s
run_of s (act ∷ acts) = run_of (world_after_act s act) acts

-- a world's beginning: new, with sizes that are not refused, or from a lawful image
abbrev pub IsFirstState : WorldState → Type 0
IsFirstState s = ((l : Layout) × (limit : ℕ) × (new_refusal l limit ≡ None) × (s ≡ new_world l limit)) ⊎ ((i : Image) × IsLawfulImage i × (s ≡ image_world i))

-- a world at the end of some run
pub record IsEndOfRun (s : WorldState) : Type 0 where
  pub first : WorldState
  pub begins : IsFirstState first
  pub acts : List Act
  pub is : run_of first acts ≡ s
