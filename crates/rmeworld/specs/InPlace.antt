-- A process with a job.
use Rattle.std.specs.Prelude.{◌≡◌, Some}
use Rattle.rmecore.specs.Machine.{word_of}
use Rattle.rmecore.specs.declared.access.Access.{Access}
use Rattle.rmeworld.specs.declared.script_state.ScriptState.{ScriptState}
use Rattle.rmeworld.specs.declared.script_state.ScriptState.TheVariants.{Free, Doing}
use Rattle.rmeworld.specs.MachineState.{MachineState, next_access, IsAllowed, InWords, StoresOwn}

-- the process has a job
abbrev pub IsWorking : ScriptState → Type 0
IsWorking Free = ⊥
IsWorking (Doing purpose job) = Unit {0}

-- This access is the next step of the job.
pub record Works (st : MachineState) (a : Access) : Type 0 where
  pub working : IsWorking st.script_state
  pub next : next_access st ≡ Some a
  pub allowed : IsAllowed st a
  pub within : InWords st.layout.procs (word_of a)
  pub own : StoresOwn st.index a
