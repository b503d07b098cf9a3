-- How a command ends that reads an algorithm from its text, alone or before a schedule.
use Rattle.std.specs.Prelude.{◌≡◌, ◌≤◌, ◌⊎◌, ℕ, List, [], Option, Some, unwrap_or, Result, Ok}
use Rattle.algorithms.specs.Ranked.{LocalLinesEnd, AccessesLeadOn}
use Rattle.algorithms.specs.declared.fault.AlgorithmFault.{AlgorithmFault}
use Rattle.algorithms.specs.declared.fault.AlgorithmFault.TheVariants as of_reading
use Rattle.algorithms.specs.declared.fault.ReadFault.{ReadFault}
use Rattle.algorithms.specs.declared.first_values.InitializedAlgorithm.{InitializedAlgorithm}
use Rattle.algorithm_texts.specs.FaultDetails.{fault_detail}
use Rattle.algorithm_texts.specs.Programs.{SpellsAlgorithm}
use Rattle.algorithm_texts.specs.TextFaults.{IsFaultOfText}
use Rattle.cli.specs.Names.{number_of_algorithm_fault}
use Rattle.schedule.specs.Schedules.{Scheduled, schedule_at}
use Rattle.schedule.specs.Tapes.{Tape, Reading}
use Rattle.schedule.specs.Wholes.{WasRead}
use Rattle.command_parts.specs.declared.fault.CommandFault.TheVariants as faults
use Rattle.command_parts.specs.declared.ending.Ending.{Ending}
use Rattle.command_parts.specs.declared.fault.CommandFault.{CommandFault}
use Rattle.command_parts.specs.Endings.{FailsToRead, RefusesCommand, TellsReads}
use Rattle.command_parts.specs.ScheduleTexts.{IsWrongText}

-- the text of the algorithm's file; without a file it is empty
abbrev pub text_of : Option (List ℕ) → List ℕ
text_of file = unwrap_or file []

-- the text spells no algorithm
abbrev pub SpellsNoAlgorithm : List ℕ → Type 0
SpellsNoAlgorithm text = (a : InitializedAlgorithm) → SpellsAlgorithm text a → ⊥

-- the command's fault names the line of a text and its fault, with what more is said of it; or there is no memory
abbrev pub TellsLineFault : List ℕ → ℕ → ReadFault → CommandFault → Type 0
TellsLineFault text line of_text reports = (reports ≡ faults.OutOfMemory) ⊎ (reports ≡ faults.Algorithm line of_text (fault_detail text line of_text))

-- it is the fault with this number, if one has it
abbrev pub HasFaultNumber : ReadFault → ℕ → Type 0
HasFaultNumber of_text number = (1 ≤ number) × (number ≤ 18) → number_of_algorithm_fault of_text ≡ Some number

-- a text that spells no algorithm has the fault of this number in this line
pub record IsFaultyText (text : List ℕ) (line number : ℕ) (of_text : ReadFault) : Type 0 where
  pub numbered : HasFaultNumber of_text number
  pub first : IsFaultOfText text (of_reading.At line number)
  pub none : SpellsNoAlgorithm text

-- the text of the algorithm's file is at fault, and its fault is named with its line; or there is no memory
abbrev pub IsAlgorithmFault : Option (List ℕ) → CommandFault → Type 0
IsAlgorithmFault file fault =
    (fault ≡ faults.OutOfMemory)
    ⊎ ((line number : ℕ) × (of_text : ReadFault) × (fault ≡ faults.Algorithm line of_text (fault_detail (text_of file) line of_text))
    × IsFaultyText (text_of file) line number of_text)

-- the command's fault names the line of this fault of a text, and the fault with its number
abbrev pub TellsFault : List ℕ → AlgorithmFault → CommandFault → Type 0
TellsFault text (of_reading.At line number) reports =
    (of_text : ReadFault) × TellsLineFault text line of_text reports × HasFaultNumber of_text number
TellsFault text of_reading.OutOfMemory reports = reports ≡ faults.OutOfMemory

-- the text of the file spells an algorithm, whose local lines end; this holds of it
pub record HoldsOfAlgorithm (file : Option (List ℕ)) (Holds : InitializedAlgorithm → Type 0) : Type 0 where
  pub algorithm : InitializedAlgorithm
  pub spells : SpellsAlgorithm (text_of file) algorithm
  pub ends : LocalLinesEnd algorithm.algorithm
  pub leads : AccessesLeadOn algorithm.algorithm
  pub holds : Holds algorithm

-- this holds of the algorithm that the text spells, or the fault of the text is answered and nothing is written
abbrev pub EndsOnAlgorithm : Option (List ℕ) → (InitializedAlgorithm → Type 0) → Tape → Tape → Result Ending CommandFault → Type 0
EndsOnAlgorithm file Holds before now end = RefusesCommand before now (IsAlgorithmFault file) end ⊎ HoldsOfAlgorithm file Holds

-- the text of the file spells an algorithm, whose local lines end, and a schedule was read; this holds of both
pub record HoldsOfBoth (file : Option (List ℕ)) (Holds : InitializedAlgorithm → Scheduled → Type 0) (old new : Reading) : Type 0 where
  pub algorithm : InitializedAlgorithm
  pub spells : SpellsAlgorithm (text_of file) algorithm
  pub ends : LocalLinesEnd algorithm.algorithm
  pub leads : AccessesLeadOn algorithm.algorithm
  pub text : List ℕ
  pub read : WasRead old new text
  pub schedule : Scheduled
  pub spelled_so : schedule_at text ≡ Ok schedule
  pub holds : Holds algorithm schedule

-- what is wrong with what was read: the algorithm's text or the schedule's; or a device or memory has failed
abbrev pub IsUnreadAlgorithm : Option (List ℕ) → Reading → Reading → CommandFault → Type 0
IsUnreadAlgorithm file old new fault = IsAlgorithmFault file fault ⊎ (FailsToRead old new fault ⊎ IsWrongText old new fault)

-- this holds of the algorithm that the text spells and of the schedule that was read, or the fault of what was to be read is answered
-- and nothing is written. A failed read isn't taken for the end of the schedule
abbrev pub EndsOnBoth : Option (List ℕ) → (InitializedAlgorithm → Scheduled → Type 0) → Reading → Reading → Tape → Tape → Result Ending CommandFault → Type 0
EndsOnBoth file Holds old new before now end =
    (RefusesCommand before now (IsUnreadAlgorithm file old new) end ⊎ HoldsOfBoth file Holds old new) × TellsReads old new end
