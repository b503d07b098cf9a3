-- How a command ends that reads an algorithm, from what was read.
use Rattle.std.proofs.Common.{◌≡◌, ◌⊎◌, ℕ, List, Option, Result, Ok, Err, refl, inl, inr}
use Rattle.algorithms.specs.Ranked.{LocalLinesEnd, AccessesLeadOn}
use Rattle.algorithms.specs.declared.fault.AlgorithmFault.{AlgorithmFault}
use Rattle.algorithms.specs.declared.fault.AlgorithmFault.TheVariants as of_reading
use Rattle.algorithms.specs.declared.fault.ReadFault.{ReadFault}
use Rattle.algorithms.specs.declared.first_values.InitializedAlgorithm.{InitializedAlgorithm}
use Rattle.algorithm_texts.specs.Programs.{SpellsAlgorithm}
use Rattle.algorithm_texts.specs.TextFaults.{IsFaultOfText, OrMemory}
use Rattle.algorithm_texts.specs.TextLines.{IsRefusalOf}
use Rattle.schedule.specs.Schedules.{Scheduled, schedule_at}
use Rattle.schedule.specs.Tapes.{Tape, Reading}
use Rattle.schedule.specs.Wholes.{WasRead}
use Rattle.command_parts.specs.declared.fault.CommandFault.TheVariants as faults
use Rattle.algorithm_commands.specs.AlgorithmTexts.{EndsOnAlgorithm, EndsOnBoth, HasFaultNumber, IsAlgorithmFault, IsUnreadAlgorithm, TellsFault, TellsLineFault, text_of}
use Rattle.command_parts.specs.declared.ending.Ending.{Ending}
use Rattle.command_parts.specs.declared.fault.CommandFault.{CommandFault}
use Rattle.command_parts.specs.Endings.{FailsToRead, RefusesCommand, TellsReads}
use Rattle.command_parts.specs.ScheduleTexts.{IsWrongText}

-- the command answers the fault of this line that has this number
pub tells_fault : (text : List ℕ) (line number : ℕ) (of_text : ReadFault) (reports : CommandFault)
    → HasFaultNumber of_text number → TellsLineFault text line of_text reports
    → TellsFault text (of_reading.At line number) reports
tells_fault text line number of_text reports numbered tells = (of_text, tells, numbered)

-- what tells a fault of a text names it, or is out of memory
pub is_algorithm_fault : (file : Option (List ℕ)) (fault : AlgorithmFault) (reports : CommandFault) → IsRefusalOf fault ((a : InitializedAlgorithm) × SpellsAlgorithm (text_of file) a)
    → OrMemory fault (IsFaultOfText (text_of file) fault) → TellsFault (text_of file) fault reports → IsAlgorithmFault file reports
is_algorithm_fault file (of_reading.At line number) reports (inl memory) first tells = absurd (cc)
is_algorithm_fault file (of_reading.At line number) reports (inr none) (inl memory) tells = absurd (cc)
is_algorithm_fault file (of_reading.At line number) reports (inr none) (inr first) tells =
    elim tells.1 [
      | inl memory ↦ inl memory
      | inr names ↦ inr (line, number, tells.0, names, record { numbered = tells.2; first = first; none = λ a spells. none (a, spells) })
    ]
is_algorithm_fault file of_reading.OutOfMemory reports refuses first tells = inl tells

-- the algorithm's text is at fault: nothing was written
pub no_algorithm_alone : {B : Type 0} (file : Option (List ℕ)) (now : Tape) (fault : CommandFault) → IsAlgorithmFault file fault
    → RefusesCommand now now (IsAlgorithmFault file) (Err fault) ⊎ B
no_algorithm_alone file now fault is = inl (record { taken = refl; fine = refl }, (fault, refl, is))

-- it was read
pub algorithm_read : (file : Option (List ℕ)) (Holds : InitializedAlgorithm → Type 0) (before now : Tape) (end : Result Ending CommandFault) (a : InitializedAlgorithm)
    → SpellsAlgorithm (text_of file) a → LocalLinesEnd a.algorithm → AccessesLeadOn a.algorithm → Holds a → EndsOnAlgorithm file Holds before now end
algorithm_read file Holds before now end a spells ends leads holds = inr (record { algorithm = a; spells = spells; ends = ends; leads = leads; holds = holds })

-- the algorithm's text is at fault: nothing was read or written
pub no_algorithm : {B : Type 0} (file : Option (List ℕ)) (old : Reading) (now : Tape) (fault : CommandFault) → IsAlgorithmFault file fault
    → (RefusesCommand now now (IsUnreadAlgorithm file old old) (Err fault) ⊎ B) × TellsReads old old (Err fault)
no_algorithm file old now fault is = (inl (record { taken = refl; fine = refl }, (fault, refl, inl is)), inl refl)

-- the schedule's text is at fault: nothing was written
pub no_schedule : {B : Type 0} (file : Option (List ℕ)) (old new : Reading) (now : Tape) (fault : CommandFault) → FailsToRead old new fault ⊎ IsWrongText old new fault
    → TellsReads old new (Err fault) → (RefusesCommand now now (IsUnreadAlgorithm file old new) (Err fault) ⊎ B) × TellsReads old new (Err fault)
no_schedule file old new now fault wrong reads = (inl (record { taken = refl; fine = refl }, (fault, refl, inr wrong)), reads)

fine_reads : (old new : Reading) (end : Result Ending CommandFault) → new.failures ≡ old.failures → TellsReads old new end
fine_reads old new (Ok ending) fine = fine
fine_reads old new (Err fault) fine = inl fine

-- both were read
pub both_read : (file : Option (List ℕ)) (Holds : InitializedAlgorithm → Scheduled → Type 0) (old new : Reading) (before now : Tape) (end : Result Ending CommandFault)
    (a : InitializedAlgorithm) (schedule : Scheduled) (text : List ℕ) → SpellsAlgorithm (text_of file) a → LocalLinesEnd a.algorithm → AccessesLeadOn a.algorithm → WasRead old new text
    → schedule_at text ≡ Ok schedule → Holds a schedule → EndsOnBoth file Holds old new before now end
both_read file Holds old new before now end a schedule text spells ends leads read spelled holds = (
  inr (record {
    algorithm = a;
    spells = spells;
    ends = ends;
    leads = leads;
    text = text;
    read = read;
    schedule = schedule;
    spelled_so = spelled;
    holds = holds;
  }),
  fine_reads old new end read.fine,
)
