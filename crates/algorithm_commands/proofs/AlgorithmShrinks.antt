-- How shrinking on an algorithm ends, from what it has answered.
use Rattle.std.proofs.Common.{Option, Result, Err, inl, inr, refl}
use Rattle.algorithms.specs.declared.first_values.InitializedAlgorithm.{InitializedAlgorithm}
use Rattle.algorithm_hunts.specs.Shrunk.{IsAlgorithmReason, MinimizesAlgorithm}
use Rattle.algorithm_lab.specs.declared.replay_fault.AlgorithmReplayFault.{AlgorithmReplayFault}
use Rattle.algorithm_lab.specs.declared.replay_fault.AlgorithmReplayFault.TheVariants.{Refused, Write, OutOfMemory}
use Rattle.schedule.specs.Schedules.{Scheduled}
use Rattle.schedule.specs.Tapes.{Tape}
use Rattle.algorithm_commands.specs.AlgorithmReplays.{fault_of_run}
use Rattle.algorithm_commands.specs.AlgorithmShrinks.{ShrinksAlgorithm}
use Rattle.command_parts.specs.declared.ending.Ending.{Ending}
use Rattle.command_parts.specs.declared.fault.CommandFault.{CommandFault}
use Rattle.command_parts.specs.Endings.{Prints}
use Rattle.command_parts.specs.Findings.{shrunk_text, shrunk_status}

-- what shrinking answers was written
pub shrunk_reported : (a : InitializedAlgorithm) (schedule : Scheduled) (answer : Option Scheduled) (before now : Tape) (end : Result Ending CommandFault) → MinimizesAlgorithm a schedule answer
    → Prints (shrunk_status answer) (shrunk_text answer) before now end → ShrinksAlgorithm a schedule before now end
shrunk_reported a schedule answer before now end shrinks prints = inl (record { answer = answer; shrinks = shrinks; prints = prints })

-- why it answers nothing
pub not_shrunk : (a : InitializedAlgorithm) (schedule : Scheduled) (now : Tape) (fault : AlgorithmReplayFault) → IsAlgorithmReason a schedule fault
    → ShrinksAlgorithm a schedule now now (Err (fault_of_run a.algorithm fault))
not_shrunk a schedule now (Refused line refusal) reason =
    inr (inl (record { line = line; refusal = refusal; refused = reason; fault = refl; silent = record { taken = refl; fine = refl } }))
not_shrunk a schedule now Write reason = absurd reason
not_shrunk a schedule now OutOfMemory reason = inr (inr (refl, record { taken = refl; fine = refl }))
