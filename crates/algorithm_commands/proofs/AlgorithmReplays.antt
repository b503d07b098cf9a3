-- The report of a run of an algorithm as one JSON object.
use Rattle.std.proofs.Common.{◌≡◌, ℕ, List, Option, Result, Ok, Err, sym, ap, ◌∙◌}
use Rattle.schedule.specs.declared.replays.verdict.Verdict.{Verdict}
use Rattle.algorithm_lab.specs.Replays.{HasEnd, IsReplayText, text_of}
use Rattle.algorithm_lab.specs.Runs.{AlgorithmRun}
use Rattle.algorithm_lab.specs.declared.run_refusal.RunRefusal.{RunRefusal}
use Rattle.algorithm_commands.specs.AlgorithmReplays.{object_at_end, object_unless}
use Rattle.command_parts.specs.ReportObjects.{report_object}

pub object_made : (run : AlgorithmRun (ℕ × RunRefusal)) (text object : List ℕ) (ended : Result Verdict (ℕ × RunRefusal)) → IsReplayText run text ended → object ≡ object_at_end ended text
    → (object ≡ object_unless run.refused (text_of run)) × HasEnd run ended
object_made run text object (Ok verdict) is made =
    (made ∙ ap report_object is.0 ∙ ap (λ (refused : Option (ℕ × RunRefusal)). object_unless refused (text_of run)) (sym is.1.0), is.1)
object_made run text object (Err refusal) is made = (made ∙ ap (λ (refused : Option (ℕ × RunRefusal)). object_unless refused (text_of run)) (sym is.1), is.1)
