-- Worlds of Right: they are those that executions of the lock lead to.
use Rattle.std.specs.Prelude.{◌≡◌, List, map}
use Rattle.redomail.specs.declared.deed.Deed.{Deed}
use Rattle.rmeworld.specs.ProcessState.{WorldEvent}
use Rattle.rmeworld.specs.MachineState.{MachineState}
use Rattle.rmeworld.specs.World.{at_first, Execution, last_global_state, deeds}
use Rattle.rmeworld.specs.WorldState.{WorldState, global_state_of}
use Rattle.crashlab.specs.declared.variants.change.Change.TheVariants.{Nothing}
use Rattle.crashlab.specs.declared.variants.deviation.Deviation.TheVariants.{Straight}
use Rattle.crashlab.specs.declared.variants.variant.Variant.TheVariants.{Right}
use Rattle.crashlab.specs.variants.VariantStands.{VariantMachineState}
use Rattle.crashlab.specs.variants.VariantWorlds.{VariantState}

-- a process of the lock as one of Right
abbrev pub right_process : MachineState → VariantMachineState
right_process s = record { variant = Right; machine_state = s; deviation = Straight; change = Nothing }

-- a world of the lock as one of Right
abbrev pub as_variant : WorldState → VariantState
as_variant w =
    record { variant = Right; layout = w.layout; limit = w.limit; words = w.words; cells = w.cells; processes = map right_process w.processes }

-- some execution from a new world leads to this world, and these are its deeds
pub record IsLockWorld (s : VariantState) (history : List Deed) : Type 0 where
  pub world : WorldState
  pub same : as_variant world ≡ s
  pub execution : List WorldEvent
  pub reports : Execution world.layout world.limit at_first execution
  pub last : last_global_state world.layout world.limit at_first execution ≡ global_state_of world
  pub done : deeds world.layout world.limit at_first execution ≡ history
