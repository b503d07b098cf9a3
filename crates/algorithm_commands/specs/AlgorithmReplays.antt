-- How a replay on an algorithm's text ends.
use Rattle.std.specs.Prelude.{◌≡◌, ℕ, Bool, true, false, List, [], map, Option, Some, None, Result, Ok, Err}
use Rattle.algorithms.specs.declared.algorithm.Algorithm.{Algorithm}
use Rattle.algorithms.specs.declared.line.AlgorithmLine.{AlgorithmLine}
use Rattle.algorithms.specs.declared.first_values.InitializedAlgorithm.{InitializedAlgorithm}
use Rattle.algorithm_lab.specs.Refusals.{number_of}
use Rattle.algorithm_lab.specs.Monitors.{MonitorState}
use Rattle.algorithm_lab.specs.Replays.{WritesRunText, run_of, text_of}
use Rattle.algorithm_lab.specs.Runs.{run_on}
use Rattle.algorithm_lab.specs.declared.run_refusal.RunRefusal.{RunRefusal}
use Rattle.algorithm_states.specs.RangeSpaces.{line_of}
use Rattle.cli.specs.declared.arguments.args.AlgorithmReplayArgs.{AlgorithmReplayArgs}
use Rattle.diagram.specs.AlgorithmSteps.{objects_by_steps, report_by_steps, text_on_new}
use Rattle.schedule.specs.declared.lines.line.Line.{Line}
use Rattle.algorithm_lab.specs.declared.replay_fault.AlgorithmReplayFault.{AlgorithmReplayFault}
use Rattle.algorithm_lab.specs.declared.replay_fault.AlgorithmReplayFault.TheVariants as of_run
use Rattle.schedule.specs.Schedules.{Scheduled}
use Rattle.schedule.specs.Tapes.{Tape, Reading}
use Rattle.schedule.specs.declared.replays.verdict.Verdict.{Verdict}
use Rattle.command_parts.specs.declared.fault.CommandFault.TheVariants as faults
use Rattle.algorithm_commands.specs.AlgorithmTexts.{EndsOnBoth}
use Rattle.command_parts.specs.ReportObjects.{report_object}
use Rattle.command_parts.specs.Statuses.{outcome, status_after}
use Rattle.command_parts.specs.declared.ending.Ending.{Ending}
use Rattle.command_parts.specs.declared.fault.CommandFault.{CommandFault}

-- the fault for a line that is refused: by the line of the text at which a value would leave its range, else by the refusal's number
abbrev pub refused_by : ℕ → Option ℕ → Option ℕ → CommandFault
refused_by line (Some algorithm_line) number = faults.OutOfRange line algorithm_line
refused_by line None (Some number) = faults.Refused line number
refused_by line None None = faults.OutOfMemory

-- the same of an algorithm
abbrev pub refused_at : Algorithm → ℕ → RunRefusal → CommandFault
refused_at a line refusal = refused_by line (line_of a refusal) (number_of refusal)

-- the program's fault for a fault of a replay on an algorithm
abbrev pub fault_of_run : Algorithm → AlgorithmReplayFault → CommandFault
fault_of_run a (of_run.Refused line refusal) = refused_at a line refusal
fault_of_run a of_run.Write = faults.Write
fault_of_run a of_run.OutOfMemory = faults.OutOfMemory

-- the exit status, or the fault, of a replay on an algorithm
abbrev pub outcome_of_run : Algorithm → Result Verdict AlgorithmReplayFault → Result ℕ CommandFault
outcome_of_run a (Ok verdict) = Ok (status_after verdict)
outcome_of_run a (Err fault) = Err (fault_of_run a fault)

-- the number of each line of the algorithm in its text
abbrev pub line_numbers : Algorithm → List ℕ
line_numbers a = map (λ (line : AlgorithmLine). line.number) a.lines.items

-- the report of a run as one JSON object. Where a line is refused there is none
abbrev pub object_unless : Option (ℕ × RunRefusal) → List ℕ → List ℕ
object_unless None text = report_object text
object_unless (Some refusal) text = []

-- the same by how the run ends
abbrev pub object_at_end : Result Verdict (ℕ × RunRefusal) → List ℕ → List ℕ
object_at_end (Ok verdict) text = report_object text
object_at_end (Err refusal) text = []

abbrev pub object_of_run : MonitorState → List Line → List ℕ
object_of_run m lines =
    let run = run_on 2 m lines in
    object_unless run.refused (text_of run)

-- what is written of the schedule's run on this algorithm: each step, as JSON or in words, or the report alone
abbrev pub text_of_replay : Bool → Bool → InitializedAlgorithm → Scheduled → List ℕ
text_of_replay true true algorithm schedule = text_on_new objects_by_steps algorithm schedule
text_of_replay true false algorithm schedule = text_on_new report_by_steps algorithm schedule
text_of_replay false true algorithm schedule = text_on_new object_of_run algorithm schedule
text_of_replay false false algorithm schedule = text_of (run_of algorithm schedule.procs schedule.limit schedule.lines)

-- that was written, or the command answers why not
abbrev pub TellsAlgorithm : AlgorithmReplayArgs → InitializedAlgorithm → Scheduled → Tape → Tape → Result Ending CommandFault → Type 0
TellsAlgorithm args algorithm schedule before now end =
    (answer : Result Verdict AlgorithmReplayFault)
    × WritesRunText before now (text_of_replay args.each args.json algorithm schedule) (run_of algorithm schedule.procs schedule.limit schedule.lines) answer
    × (outcome end ≡ outcome_of_run algorithm.algorithm answer)

-- the run is written, or the fault of what was to be read is answered
abbrev pub AlgorithmReplayEnds : AlgorithmReplayArgs → Option (List ℕ) → Reading → Reading → Tape → Tape → Result Ending CommandFault → Type 0
AlgorithmReplayEnds args file old new before now end =
    EndsOnBoth file (λ algorithm schedule. TellsAlgorithm args algorithm schedule before now end) old new before now end
