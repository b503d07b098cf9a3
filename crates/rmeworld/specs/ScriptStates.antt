-- The script state of the code's process, as the definition's script state.
use Rattle.std.specs.Prelude.{◌≡◌}
use Rattle.rmecore.specs.Place.{Place, Inside}
use Rattle.redomail.specs.declared.reply.Reply.{Reply}
use Rattle.redomail.specs.Script.{Script, Get as Asks, Put as Writes, Done}
use Rattle.redomail.specs.Left.{script_left}
use Rattle.rmeworld.specs.declared.script_state.ScriptState.{ScriptState as Task}
use Rattle.rmeworld.specs.declared.script_state.ScriptState.TheVariants.{Free as IsFree, Doing as Does}
use Rattle.rmeworld.specs.ProcessState.{ScriptState, Free, Doing}

abbrev pub script_state_of : Task → ScriptState
script_state_of IsFree = Free
script_state_of (Does purpose job) = Doing purpose (script_left job)

-- a script with a step left
abbrev pub HasStep : Script Reply → Type 0
HasStep (Asks i rest) = Unit {0}
HasStep (Writes i v rest) = Unit {0}
HasStep (Done reply) = ⊥

-- a process with a job is inside, and the job has a step left
abbrev pub HoldsJob : Task → Place → Type 0
HoldsJob IsFree s = Unit {0}
HoldsJob (Does purpose job) s = (s ≡ Inside) × HasStep (script_left job)
