-- The stage after a step with one more word. `Jobs` says what script a stage leaves.
use Rattle.std.specs.Prelude.{ℕ, ◌+◌, ◌*◌, ◌==◌, true, false, nat_lt, if◌then◌else◌, List, Option, Some, None, take, replicate, slice_set}
use Rattle.redomail.specs.declared.layout.Layout.{Layout}
use Rattle.redomail.specs.declared.reply.Reply.{Reply}
use Rattle.redomail.specs.declared.reply.Reply.TheVariants as reply
use Rattle.redomail.specs.declared.stage.JobStage.{JobStage}
use Rattle.redomail.specs.declared.stage.JobStage.TheVariants as stage
use Rattle.redomail.specs.declared.task.Task.{Task}
use Rattle.redomail.specs.declared.task.Task.TheVariants as task
use Rattle.redomail.specs.Tasks.{record_of, early_reply}

-- the first stage of a task
abbrev pub first_stage : Task → JobStage
first_stage (task.Append seq value) = stage.AskClosed seq value
first_stage task.Close = stage.AskOpen
first_stage task.Repair = stage.AskArmed
first_stage (task.BoardGet i) = stage.GetBoard i
first_stage (task.BoardPut i v) = stage.PutBoard i v
first_stage task.Ruin = stage.PutRuined
first_stage task.Check = stage.AskRuined

-- the end, if there is a reply, or else the stage
abbrev pub unless_ended : Option Reply → JobStage → JobStage
unless_ended None to = to
unless_ended (Some answer) to = stage.Ended answer

-- an append that has read its three words
abbrev pub decided_stage : Layout → ℕ → List ℕ → ℕ → ℕ → ℕ → JobStage
decided_stage l seq value closed count last =
    unless_ended (early_reply l.cap seq closed count last) (stage.Write (record_of count seq value) 0 reply.Stored)

-- a repair that has read these words of the record's value
abbrev pub read_stage : Layout → ℕ → ℕ → List ℕ → ℕ → JobStage
read_stage l at seq words read =
    if nat_lt read l.width then stage.AskValue at seq words read
    else stage.Write (record_of at seq (take read words)) (3 + read) (reply.Mended true)

-- the stage after a step with this word
abbrev pub stage_after : Layout → JobStage → ℕ → JobStage
stage_after l (stage.AskClosed seq value) word = stage.AskCount seq value word
stage_after l (stage.AskCount seq value closed) word = stage.AskLast seq value closed word
stage_after l (stage.AskLast seq value closed count) word = decided_stage l seq value closed count word
stage_after l stage.AskUsable word = if word == 1 then stage.Ended (reply.Ruined true) else stage.AskArmed
stage_after l stage.AskArmed word = if word == 0 then stage.Ended (reply.Mended false) else stage.AskAt
stage_after l stage.AskAt word = stage.AskSeq word
stage_after l (stage.AskSeq at) word = stage.AskValue at word (replicate 8 0) 0
stage_after l (stage.AskValue at seq words read) word = read_stage l at seq (slice_set words read word) (read + 1)
stage_after l (stage.Write entry step answer) word =
    if nat_lt (step + 1) (8 + 2 * l.width) then stage.Write entry (step + 1) answer else stage.Ended answer
stage_after l stage.AskOpen word = if word == 1 then stage.Ended reply.AlreadyClosed else stage.PutClosed
stage_after l stage.PutClosed word = stage.Ended reply.ClosedNow
stage_after l (stage.GetBoard i) word = stage.Ended (reply.Word word)
stage_after l (stage.PutBoard i v) word = stage.Ended reply.Done
stage_after l stage.PutRuined word = stage.Ended reply.Done
stage_after l stage.AskRuined word = stage.Ended (reply.Ruined (word == 1))
stage_after l (stage.Ended answer) word = stage.Ended answer

-- a stage that stores no record
abbrev pub StoresNothing : JobStage → Type 0
StoresNothing (stage.Write entry step answer) = ⊥
StoresNothing _ = Unit {0}
