-- The observer of a hunt, as a summary of what is seen of the processes.
use Rattle.std.specs.Prelude.{◌≡◌, ◌<◌, ℕ, List, ◌∷◌, if◌then◌else◌, Some, slice_get}
use Rattle.crashlab.specs.declared.hunts.observer.ObservedStage.{ObservedStage}
use Rattle.crashlab.specs.declared.hunts.observer.ObservedStage.TheVariants.{Outside, Calling, Inside}
use Rattle.crashlab.specs.declared.hunts.observer.Observation.{Observation}
use Rattle.crashlab.specs.hunts.Draws.{Sight, Begins, is_inside, is_mended, is_appended, next_number}

-- what the process is doing
abbrev pub stage_of : List Sight → ObservedStage
stage_of (Begins next_call ∷ seen) = Calling next_call
stage_of seen = if is_inside seen then Inside else Outside

-- what is known of the process
abbrev pub observation_of : List Sight → Observation
observation_of seen = record { stage = stage_of seen; mended = is_mended seen; appended = is_appended seen; next = next_number seen }

-- the same of each of the three processes
abbrev pub Observes : (ℕ → List Sight) → List Observation → Type 0
Observes seen observations = (p : ℕ) → p < 3 → slice_get observations p ≡ Some (observation_of (seen p))
