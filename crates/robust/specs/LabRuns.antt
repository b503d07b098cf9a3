-- The runs of a lab.
use Rattle.std.specs.Prelude.{◌≡◌, ℕ, ◌<◌, List}
use Rattle.redomail.specs.declared.message.Message.{Message}
use Rattle.table_runs.specs.declared.entry.TakenStep.{TakenStep}
use Rattle.table_runs.specs.Headline.{shown_by}
use Rattle.table_runs.specs.Runs.{entries_of, IsRun}
use Rattle.table_runs.specs.declared.lab.spec.Spec.{Spec}
use Rattle.table_runs.specs.Lab.{setup_of}
use Rattle.robust.specs.WorkerSends.{AreSending}

-- a run in which each worker starts no other calls than a worker of this lab does
pub record IsLabRun (s : Spec) (run : List TakenStep) : Type 0 where
  pub legal : IsRun (setup_of s) run
  pub sending : (p : ℕ) → p < s.procs → AreSending s.width s.messages p (entries_of p run)

-- some such run shows these messages
pub record AreShownByRun (s : Spec) (messages : List Message) : Type 0 where
  pub run : List TakenStep
  pub works : IsLabRun s run
  pub shown : messages ≡ shown_by (setup_of s) run
