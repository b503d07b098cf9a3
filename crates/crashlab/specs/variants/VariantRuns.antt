-- Runs of a world of a variant: starts, steps and crashes, one after the other, from a new world (Run of docs/theory/model.md).
use Rattle.std.specs.Prelude.{◌≡◌, ℕ, List, [], ◌∷◌}
use Rattle.rmecore.specs.Machine.{kind_of, word_of, carried_value}
use Rattle.rmecore.specs.declared.access.Access.{Access}
use Rattle.rmeworld.specs.Acts.{Act, Starts, Steps, Crashes, unless}
use Rattle.rmeworld.specs.ProcessState.{WorldEvent, Moves}
use Rattle.rmeworld.specs.MachineState.{IsSize}
use Rattle.crashlab.specs.variants.VariantProcessStates.{VariantProcessState}
use Rattle.crashlab.specs.variants.VariantStands.{variant_process_state_of}
use Rattle.crashlab.specs.variants.VariantWorlds.{VariantState, machine_state_at, new_world, start_refusal, variant_after_start, found_by, advance_refusal, variant_after_step, crash_refusal, variant_after_crash}

-- the world after a start, step or crash; one that is refused changes nothing
abbrev pub variant_after_act : VariantState → Act → VariantState
variant_after_act s (Starts p call) = unless (start_refusal s p call) s (variant_after_start s p call)
variant_after_act s (Steps p) = unless (advance_refusal s p) s (variant_after_step s p)
variant_after_act s (Crashes p) = unless (crash_refusal s p) s (variant_after_crash s p)

-- the world after a list of these
abbrev pub run_of : VariantState → List Act → VariantState
run_of s [] = s
run_of s (act ∷ acts) = run_of (variant_after_act s act) acts

-- a world after some run from a new one
pub record IsVariantRun (s : VariantState) : Type 0 where
  pub sized : IsSize s.layout
  pub acts : List Act
  pub is : run_of (new_world s.variant s.layout s.limit) acts ≡ s

-- the process state of p
abbrev pub process_state_at : VariantState → ℕ → VariantProcessState
process_state_at s p = variant_process_state_of (machine_state_at s.processes p)

-- the event of process p that this access is, with the word that it finds
abbrev pub move : VariantState → ℕ → Access → WorldEvent
move s p a = Moves p (kind_of a) (word_of a) (carried_value a (found_by s a))
