-- A session on an algorithm whose text is at fault, or was read.
use Rattle.std.proofs.Common.{◌≡◌, ◌⊎◌, ◌∙◌, List, [], ℕ, Option, Some, None, Result, Ok, Err, IfOk, ap, refl, inl, inr}
use Rattle.algorithms.specs.Ranked.{LocalLinesEnd, AccessesLeadOn}
use Rattle.algorithms.specs.declared.algorithm.Algorithm.{Algorithm}
use Rattle.algorithms.specs.declared.first_values.InitializedAlgorithm.{InitializedAlgorithm}
use Rattle.algorithms.specs.declared.refusal.AlgorithmRefusal.{AlgorithmRefusal}
use Rattle.algorithm_lab.specs.Monitors.{MonitorState, first_monitor}
use Rattle.algorithm_lab.specs.Replays.{run_unless, world_fault}
use Rattle.algorithm_lab.specs.Runs.{run_on}
use Rattle.algorithm_lab.specs.declared.run_refusal.RunRefusal.TheVariants.{Refused}
use Rattle.algorithm_texts.specs.Programs.{SpellsAlgorithm}
use Rattle.diagram.proofs.AlgorithmSessions.{begins_played}
use Rattle.diagram.specs.AlgorithmSimulations.{algorithm_semantics, algorithm_session}
use Rattle.diagram.specs.Sessions.{at_schedule}
use Rattle.schedule.specs.Schedules.{Scheduled}
use Rattle.schedule.specs.declared.lines.line.Line.{Line}
use Rattle.schedule.specs.Tapes.{Reading, Tape}
use Rattle.algorithm_commands.specs.AlgorithmReplays.{fault_of_run}
use Rattle.algorithm_commands.specs.AlgorithmSessions.{AlgorithmSessionEnds, IsFaultOfRun, RefusesText}
use Rattle.algorithm_commands.specs.AlgorithmTexts.{HoldsOfAlgorithm, IsAlgorithmFault, text_of}
use Rattle.command_parts.specs.Devices.{Devices, devices}
use Rattle.command_parts.specs.Folders.{Used}
use Rattle.command_parts.specs.declared.ending.Ending.{Ending}
use Rattle.command_parts.specs.declared.fault.CommandFault.{CommandFault}

-- the algorithm's text is at fault
pub no_session : {B : Type 0} (file : Option (List ℕ)) (old : Reading) (used : Used) (tape : Tape) (fault : CommandFault) → IsAlgorithmFault file fault
    → RefusesText file (devices old used tape) (devices old used tape) (Err fault) ⊎ B
no_session file old used tape fault is = inl ((record { taken = refl; fine = refl }, (fault, refl, is)), refl, refl)

-- it was read
pub session_held : (file start : Option (List ℕ)) (before now : Devices) (end : Result Ending CommandFault) (a : InitializedAlgorithm)
    → SpellsAlgorithm (text_of file) a → LocalLinesEnd a.algorithm → AccessesLeadOn a.algorithm → AlgorithmSessionEnds a start before now end
    → RefusesText file before now end ⊎ HoldsOfAlgorithm file (λ (algorithm : InitializedAlgorithm). AlgorithmSessionEnds algorithm start before now end)
session_held file start before now end a spells ends leads holds = inr (record { algorithm = a; spells = spells; ends = ends; leads = leads; holds = holds })

-- there is no world of the schedule's sizes
pub no_world : (a : Algorithm) (r : Option AlgorithmRefusal) (m : MonitorState) (lines : List Line) (fault : CommandFault) → fault ≡ fault_of_run a (world_fault r)
    → IsFaultOfRun a (run_unless r m lines) fault
no_world a None m lines fault is = inl is
no_world a (Some e) m lines fault is = inr (1, Refused e, refl, is)

-- a session over a monitor that has played the schedule begins as over a new one
pub session_begins : (a : InitializedAlgorithm) (schedule : Scheduled) (m : MonitorState) (r : Result MonitorState CommandFault) → m ≡ first_monitor a schedule.procs schedule.limit
    → IfOk r (λ left. left ≡ (run_on 2 m schedule.lines).left) → IfOk r (λ left. at_schedule algorithm_semantics left schedule [] ≡ algorithm_session a schedule)
session_begins a schedule m (Err fault) made is = tt
session_begins a schedule m (Ok left) made is =
    ap (λ (s : MonitorState). at_schedule algorithm_semantics s schedule []) (is ∙ ap (λ (s : MonitorState). (run_on 2 s schedule.lines).left) made)
    ∙ begins_played a schedule.procs schedule.limit 2 schedule.lines schedule
