-- How drawing a schedule's run on an algorithm's text ends.
use Rattle.std.specs.Prelude.{◌≡◌, ℕ, Bool, true, false, List, Option, Result}
use Rattle.algorithms.specs.declared.first_values.InitializedAlgorithm.{InitializedAlgorithm}
use Rattle.algorithm_hunts.specs.Shrunk.{schedule_run}
use Rattle.algorithm_lab.specs.Replays.{WritesRunText}
use Rattle.algorithm_lab.specs.declared.replay_fault.AlgorithmReplayFault.{AlgorithmReplayFault}
use Rattle.cli.specs.declared.arguments.args.AlgorithmDrawArgs.{AlgorithmDrawArgs}
use Rattle.diagram.specs.AlgorithmDrawings.{DrawsRun, drawn_text}
use Rattle.diagram.specs.AlgorithmPages.{algorithm_page}
use Rattle.diagram.specs.AlgorithmSteps.{text_on_new}
use Rattle.schedule.specs.Schedules.{Scheduled, head_of}
use Rattle.schedule.specs.Tapes.{Tape, Reading}
use Rattle.schedule.specs.declared.replays.verdict.Verdict.{Verdict}
use Rattle.algorithm_commands.specs.AlgorithmReplays.{outcome_of_run}
use Rattle.algorithm_commands.specs.AlgorithmTexts.{EndsOnBoth}
use Rattle.command_parts.specs.Options.{style_of}
use Rattle.command_parts.specs.Statuses.{outcome}
use Rattle.command_parts.specs.declared.ending.Ending.{Ending}
use Rattle.command_parts.specs.declared.fault.CommandFault.{CommandFault}

-- the drawing of the schedule's run on this algorithm, or its page, was written, and the verdict answered; or the reason why not
abbrev pub WritesDrawing : Bool → Bool → InitializedAlgorithm → Scheduled → Tape → Tape → Result Verdict AlgorithmReplayFault → Type 0
WritesDrawing true svg algorithm schedule before now answer =
    WritesRunText before now (text_on_new (algorithm_page (head_of schedule)) algorithm schedule) (schedule_run algorithm schedule) answer
WritesDrawing false svg algorithm schedule before now answer =
    DrawsRun before now (drawn_text (style_of svg) (head_of schedule) algorithm schedule.lines) (schedule_run algorithm schedule) answer

-- the same as a command answers it
abbrev pub DrawsAlgorithm : AlgorithmDrawArgs → InitializedAlgorithm → Scheduled → Tape → Tape → Result Ending CommandFault → Type 0
DrawsAlgorithm args algorithm schedule before now end =
    (answer : Result Verdict AlgorithmReplayFault) × WritesDrawing args.html args.svg algorithm schedule before now answer × (outcome end ≡ outcome_of_run algorithm.algorithm answer)

-- how `draw --algorithm` ends
abbrev pub AlgorithmDrawEnds : AlgorithmDrawArgs → Option (List ℕ) → Reading → Reading → Tape → Tape → Result Ending CommandFault → Type 0
AlgorithmDrawEnds args file old new before now end =
    EndsOnBoth file (λ algorithm schedule. DrawsAlgorithm args algorithm schedule before now end) old new before now end
