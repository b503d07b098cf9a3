-- How a command ends: what its exit status, or its fault, says of what was read, written and is to be saved.
use Rattle.std.specs.Prelude.{◌≡◌, ◌⊎◌, ℕ, ◌-◌, List, Option, Some, None, Result, IfErr}
use Rattle.lock_commands.specs.VariantCosts.{VariantCostEnds}
use Rattle.lock_commands.specs.Ends.{JudgeEnds, HuntEnds, RunEnds}
use Rattle.cli.specs.declared.explain.dictionary_entry.DictionaryEntry.{DictionaryEntry}
use Rattle.cli.specs.declared.explain.dictionary_entry.TheConstants.{ENTRIES}
use Rattle.cli.specs.declared.explain.meaning.Meaning.{Meaning}
use Rattle.cli.specs.Names.{name_of}
use Rattle.cli.specs.Report.{list_of, meaning_text}
use Rattle.schedule.specs.Tapes.{Tape, Reading}
use Rattle.cli.specs.declared.arguments.args.Command.{Command}
use Rattle.cli.specs.declared.arguments.args.Command.TheVariants.{Replay, ReplayAlgorithm, Run, Hunt, HuntAlgorithm, Explore, ExploreAlgorithm, Cost, CostVariant, MeanCost, Export, States, StatesAlgorithm, Judge, Draw, DrawAlgorithm, Shrink, ShrinkAlgorithm, Step, StepAlgorithm, Explain}
use Rattle.command_parts.specs.declared.fault.CommandFault.TheVariants.{Write}
use Rattle.command_parts.specs.Conversations.{SessionEnds}
use Rattle.lock_commands.specs.Settings.{lock_machine}
use Rattle.command_parts.specs.Devices.{Devices, devices}
use Rattle.algorithm_commands.specs.AlgorithmCosts.{AlgorithmCostEnds}
use Rattle.algorithm_commands.specs.AlgorithmExports.{AlgorithmExportEnds}
use Rattle.algorithm_commands.specs.AlgorithmMeanCosts.{AlgorithmMeanEnds}
use Rattle.algorithm_commands.specs.AlgorithmDraws.{AlgorithmDrawEnds}
use Rattle.algorithm_commands.specs.AlgorithmExplores.{AlgorithmExploreEnds}
use Rattle.algorithm_commands.specs.AlgorithmHunts.{AlgorithmHuntEnds}
use Rattle.algorithm_commands.specs.AlgorithmReplays.{AlgorithmReplayEnds}
use Rattle.algorithm_commands.specs.AlgorithmSessions.{AlgorithmSessionEnds, RefusesText}
use Rattle.algorithm_commands.specs.AlgorithmShrinks.{AlgorithmShrinkEnds}
use Rattle.algorithm_commands.specs.AlgorithmTexts.{HoldsOfAlgorithm}
use Rattle.lock_commands.specs.Draws.{DrawEnds}
use Rattle.command_parts.specs.declared.ending.Ending.{Ending}
use Rattle.command_parts.specs.declared.fault.CommandFault.{CommandFault}
use Rattle.command_parts.specs.Endings.{Prints, TellsReads}
use Rattle.command_parts.specs.Folders.{Used}
use Rattle.lock_commands.specs.Replays.{ReplayEnds}
use Rattle.lock_commands.specs.Shrinks.{ShrinkEnds}
use Rattle.algorithm_commands.specs.AlgorithmStates.{AlgorithmStatesEnd}
use Rattle.lock_commands.specs.States.{StatesEnds}
use Rattle.lock_commands.specs.Explores.{ExploreEnds}

-- the fault of a write
abbrev pub IsWriteFault : CommandFault → Type 0
IsWriteFault fault = fault ≡ Write

-- how `explain` ends: the meaning of an entry is written under its name, or the names of all entries; only a failed write keeps it
-- from that
abbrev pub ExplainEnds : Option DictionaryEntry → Tape → Tape → Result Ending CommandFault → Type 0
ExplainEnds (Some dictionary_entry) before now end =
    (meaning : Meaning) × (meaning.name.now ≡ name_of dictionary_entry) × Prints 0 (meaning_text meaning) before now end × IfErr end IsWriteFault
ExplainEnds None before now end = Prints 0 (list_of ENTRIES) before now end × IfErr end IsWriteFault

-- how the session of a command ends, by the text that the command starts from, and by the text of the schedule that a session on an
-- algorithm begins with
abbrev pub SessionEndsOf : Command → Option (List ℕ) → Option (List ℕ) → Devices → Devices → Result Ending CommandFault → Type 0
SessionEndsOf (Step file) image start before now end = SessionEnds lock_machine image before now end
SessionEndsOf (StepAlgorithm args) image start before now end =
    RefusesText image before now end ⊎ HoldsOfAlgorithm image (λ a. AlgorithmSessionEnds a start before now end)
SessionEndsOf command image start before now end = ⊥

-- the same of the files that it was asked for
abbrev pub SessionEndsWith : Command → Option (List ℕ) → Reading → Reading → Tape → Tape → Result Ending CommandFault → Type 0
SessionEndsWith command image old new before now end =
    (start : Option (List ℕ)) × (first : Used) × (last : Used) × SessionEndsOf command image start (devices old first before) (devices new last now) end

-- by the command and the text of its image; by what was read of the input and written, before and after
abbrev pub CommandEnds : Command → Option (List ℕ) → Reading → Reading → Tape → Tape → Result Ending CommandFault → Type 0
CommandEnds (Replay args) image old new before now end = ReplayEnds args image old new before now end
CommandEnds (ReplayAlgorithm args) image old new before now end = AlgorithmReplayEnds args image old new before now end
CommandEnds (Run args) image old new before now end = RunEnds args before now end
CommandEnds (Hunt args) image old new before now end = HuntEnds args before now end
CommandEnds (HuntAlgorithm args) image old new before now end = (new ≡ old) × AlgorithmHuntEnds args image before now end
CommandEnds (Explore args) image old new before now end = ExploreEnds args before now end
CommandEnds (ExploreAlgorithm args) image old new before now end = (new ≡ old) × AlgorithmExploreEnds args image before now end
CommandEnds (Cost args) image old new before now end = (new ≡ old) × AlgorithmCostEnds args image before now end
CommandEnds (CostVariant args) image old new before now end = (new ≡ old) × VariantCostEnds args before now end
CommandEnds (MeanCost args) image old new before now end = (new ≡ old) × AlgorithmMeanEnds args image before now end
CommandEnds (Export args) image old new before now end = (new ≡ old) × AlgorithmExportEnds args image before now end
CommandEnds (States args) image old new before now end = StatesEnds args old new before now end
CommandEnds (StatesAlgorithm args) image old new before now end = AlgorithmStatesEnd args image old new before now end
CommandEnds (Judge args) image old new before now end = JudgeEnds args.json old new before now end
CommandEnds (Draw args) image old new before now end = DrawEnds args image old new before now end × TellsReads old new end
CommandEnds (DrawAlgorithm args) image old new before now end = AlgorithmDrawEnds args image old new before now end
CommandEnds (Shrink args) image old new before now end = ShrinkEnds args old new before now end × TellsReads old new end
CommandEnds (ShrinkAlgorithm args) image old new before now end = AlgorithmShrinkEnds image old new before now end
CommandEnds (Step file) image old new before now end = SessionEndsWith (Step file) image old new before now end
CommandEnds (StepAlgorithm args) image old new before now end = SessionEndsWith (StepAlgorithm args) image old new before now end
CommandEnds (Explain dictionary_entry) image old new before now end = (new ≡ old) × ExplainEnds dictionary_entry before now end
