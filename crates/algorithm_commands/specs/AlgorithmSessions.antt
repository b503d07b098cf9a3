-- How a session on an algorithm ends.
use Rattle.std.specs.Prelude.{◌≡◌, ◌⊎◌, ℕ, List, Option, Some, None, Result}
use Rattle.algorithms.specs.declared.algorithm.Algorithm.{Algorithm}
use Rattle.algorithms.specs.declared.first_values.InitializedAlgorithm.{InitializedAlgorithm}
use Rattle.algorithm_lab.specs.Monitors.{MonitorState}
use Rattle.algorithm_lab.specs.Replays.{run_of}
use Rattle.algorithm_lab.specs.Runs.{AlgorithmRun}
use Rattle.algorithm_lab.specs.declared.run_refusal.RunRefusal.{RunRefusal}
use Rattle.diagram.specs.AlgorithmSimulations.{algorithm_semantics, algorithm_session}
use Rattle.command_parts.specs.declared.fault.CommandFault.TheVariants as faults
use Rattle.algorithm_commands.specs.AlgorithmReplays.{refused_at}
use Rattle.algorithm_commands.specs.AlgorithmTexts.{IsAlgorithmFault}
use Rattle.command_parts.specs.Conversations.{SessionEnds, SessionMachine}
use Rattle.command_parts.specs.Devices.{Devices}
use Rattle.command_parts.specs.declared.ending.Ending.{Ending}
use Rattle.command_parts.specs.declared.fault.CommandFault.{CommandFault}
use Rattle.command_parts.specs.Endings.{RefusesCommand}

-- a line of a run is refused
abbrev pub IsRefusedRun : Algorithm → AlgorithmRun (ℕ × RunRefusal) → CommandFault → Type 0
IsRefusedRun a run fault = (line : ℕ) × (refusal : RunRefusal) × (run.refused ≡ Some (line, refusal)) × (fault ≡ refused_at a line refusal)

-- or there is no memory
abbrev pub IsFaultOfRun : Algorithm → AlgorithmRun (ℕ × RunRefusal) → CommandFault → Type 0
IsFaultOfRun a run fault = (fault ≡ faults.OutOfMemory) ⊎ IsRefusedRun a run fault

-- a session plays the schedule that it begins with
abbrev pub algorithm_machine : InitializedAlgorithm → SessionMachine MonitorState
algorithm_machine a =
    record {
      semantics = algorithm_semantics;
      session = algorithm_session a;
      accepts = λ schedule. (run_of a schedule.procs schedule.limit schedule.lines).refused ≡ None;
      refuses = λ schedule fault. IsRefusedRun a.algorithm (run_of a schedule.procs schedule.limit schedule.lines) fault;
    }

-- how a session on this algorithm ends, which begins with the schedule of a text, or with a header
abbrev pub AlgorithmSessionEnds : InitializedAlgorithm → Option (List ℕ) → Devices → Devices → Result Ending CommandFault → Type 0
AlgorithmSessionEnds a start before now end = SessionEnds (algorithm_machine a) start before now end

-- the algorithm's text is at fault: nothing was read, kept or written
abbrev pub RefusesText : Option (List ℕ) → Devices → Devices → Result Ending CommandFault → Type 0
RefusesText file before now end =
    RefusesCommand before.output now.output (IsAlgorithmFault file) end × (now.input ≡ before.input) × (now.files ≡ before.files)
