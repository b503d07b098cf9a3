-- The script state of a process in C, as the one of the world's machine, with the words of the message beside it.
use Rattle.std.specs.Prelude.{ℕ, ◌+◌, ◌-◌, ◌*◌, ◌<◌, List, ◌++◌, take, replicate, true}
use Rattle.redomail.specs.declared.layout.Layout.{Layout}
use Rattle.redomail.specs.declared.reply.Reply.TheVariants.{Stored, Mended}
use Rattle.redomail.specs.declared.stage.JobStage.{JobStage}
use Rattle.redomail.specs.declared.stage.JobStage.TheVariants as stage
use Rattle.redomail.specs.declared.task.Task.TheVariants as task
use Rattle.redomail.specs.Layout.{IsLayout}
use Rattle.redomail.specs.Left.{Pending}
use Rattle.redomail.specs.Tasks.{record_of}
use Rattle.rmeworld.specs.declared.script_state.ScriptState.{ScriptState}
use Rattle.rmeworld.specs.declared.script_state.ScriptState.TheVariants as script_state
use Rattle.rmeworld.specs.declared.purpose.Purpose.{Purpose}
use Rattle.rmeworld.specs.declared.purpose.Purpose.TheVariants as purpose
use Rattle.rme_c.specs.declared.script_position.ScriptPosition.{ScriptPosition}
use Rattle.rme_c.specs.declared.script_position.ScriptPosition.TheVariants as script_position

-- the words of a record's value that were read, with zeros after them
abbrev pub padded_value : ℕ → List ℕ → List ℕ
padded_value read words = take read words ++ replicate (8 - read) 0

-- the stage of the script's job
abbrev pub job_stage : Layout → List ℕ → ScriptPosition → JobStage
job_stage l words script_position.Asking = stage.AskUsable
job_stage l words script_position.Checking = stage.AskRuined
job_stage l words script_position.Ruining = stage.PutRuined
job_stage l words script_position.Armed = stage.AskArmed
job_stage l words script_position.At = stage.AskAt
job_stage l words (script_position.Seq at) = stage.AskSeq at
job_stage l words (script_position.Value at seq read) = stage.AskValue at seq (padded_value read words) read
job_stage l words (script_position.Redo at seq step) = stage.Write (record_of at seq (take l.width words)) step (Mended true)
job_stage l words (script_position.Closed seq) = stage.AskClosed seq (take l.width words)
job_stage l words (script_position.Count seq closed) = stage.AskCount seq (take l.width words) closed
job_stage l words (script_position.Last seq closed count) = stage.AskLast seq (take l.width words) closed count
job_stage l words (script_position.Store at seq step) = stage.Write (record_of at seq (take l.width words)) step Stored
job_stage l words script_position.Closing = stage.AskOpen
job_stage l words script_position.Close = stage.PutClosed
job_stage l words (script_position.Getting i) = stage.GetBoard i
job_stage l words (script_position.Putting i v) = stage.PutBoard i v

-- the purpose of the script
abbrev pub purpose_of : Layout → List ℕ → ScriptPosition → Purpose
purpose_of l words script_position.Asking = purpose.Mending
purpose_of l words script_position.Checking = purpose.Checking
purpose_of l words script_position.Ruining = purpose.Ruining
purpose_of l words script_position.Armed = purpose.Mending
purpose_of l words script_position.At = purpose.Mending
purpose_of l words (script_position.Seq at) = purpose.Mending
purpose_of l words (script_position.Value at seq read) = purpose.Mending
purpose_of l words (script_position.Redo at seq step) = purpose.Mending
purpose_of l words (script_position.Closed seq) = purpose.Working (task.Append seq (take l.width words))
purpose_of l words (script_position.Count seq closed) = purpose.Working (task.Append seq (take l.width words))
purpose_of l words (script_position.Last seq closed count) = purpose.Working (task.Append seq (take l.width words))
purpose_of l words (script_position.Store at seq step) = purpose.Working (task.Append seq (take l.width words))
purpose_of l words script_position.Closing = purpose.Working task.Close
purpose_of l words script_position.Close = purpose.Working task.Close
purpose_of l words (script_position.Getting i) = purpose.Working (task.BoardGet i)
purpose_of l words (script_position.Putting i v) = purpose.Working (task.BoardPut i v)

-- the job of a script state
abbrev pub job_of : Layout → ℕ → List ℕ → ScriptPosition → Pending
job_of l p words c = record { layout = l; sender = p; stage = job_stage l words c }

-- the script state of the world's machine
abbrev pub script_state_of : Layout → ℕ → List ℕ → ScriptPosition → ScriptState
script_state_of l p words c = script_state.Doing (purpose_of l words c) (job_of l p words c)

-- what a script state needs of the sizes and of its own numbers
abbrev pub FitsScriptPosition : Layout → ScriptPosition → Type 0
FitsScriptPosition l script_position.Checking = Unit {0}
FitsScriptPosition l script_position.Ruining = Unit {0}
FitsScriptPosition l script_position.Closing = Unit {0}
FitsScriptPosition l script_position.Close = Unit {0}
FitsScriptPosition l (script_position.Value at seq read) = IsLayout l × (read < l.width)
FitsScriptPosition l (script_position.Redo at seq step) = IsLayout l × (step < 8 + 2 * l.width)
FitsScriptPosition l (script_position.Store at seq step) = IsLayout l × (step < 8 + 2 * l.width)
FitsScriptPosition l (script_position.Getting i) = IsLayout l × (i < 4)
FitsScriptPosition l (script_position.Putting i v) = IsLayout l × (i < 4)
FitsScriptPosition l c = IsLayout l
