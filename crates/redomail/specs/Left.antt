-- A job as contracts see it, and the rest of its script.
use Rattle.std.specs.Prelude.{ℕ}
use Rattle.redomail.specs.declared.layout.Layout.{Layout}
use Rattle.redomail.specs.declared.reply.Reply.{Reply}
use Rattle.redomail.specs.declared.stage.JobStage.{JobStage}
use Rattle.redomail.specs.declared.stage.JobStage.TheVariants.{AskUsable}
use Rattle.redomail.specs.declared.task.Task.{Task}
use Rattle.redomail.specs.Script.{Script}
use Rattle.redomail.specs.Jobs.{left_at}
use Rattle.redomail.specs.Stages.{first_stage, stage_after}

-- a job: its sizes, its process and its stage
pub record Pending : Type 0 where
  pub layout : Layout
  pub sender : ℕ
  pub stage : JobStage

-- the rest of its script
abbrev pub script_left : Pending → Script Reply
script_left job = left_at job.layout job.sender job.stage

-- a task at its first step
abbrev pub pending_task : Layout → ℕ → Task → Pending
pending_task l p t = record { layout = l; sender = p; stage = first_stage t }

-- the call consistent at its first step
abbrev pub mending : Layout → ℕ → Pending
mending l p = record { layout = l; sender = p; stage = AskUsable }

-- the job after a step with this word
abbrev pub job_after_word : Pending → ℕ → Pending
job_after_word job word = record job { stage = stage_after job.layout job.stage word }
