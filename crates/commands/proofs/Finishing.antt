-- What is known of a command that ends without a fault, from how it ended before its output was flushed.
use Rattle.std.proofs.Common.{◌≡◌, ◌⊎◌, ◌∙◌, Bool, Result, Ok, Err, IfOk, OnOk, inl, inr, refl, sym, ap, subst}
use Rattle.schedule.specs.Tapes.{Tape}
use Rattle.cli.specs.declared.arguments.args.Command.{Command}
use Rattle.command_parts.specs.declared.fault.CommandFault.TheVariants as faults
use Rattle.command_parts.specs.declared.ending.Ending.{Ending}
use Rattle.command_parts.specs.declared.fault.CommandFault.{CommandFault}
use Rattle.command_parts.specs.Endings.{IsEnded}
use Rattle.command_parts.specs.Folders.{Used}
use Rattle.commands.specs.Programs.{Finishes, IsFullyWritten}

-- an end without a fault has none
no_fault : {P : Type 0} (end : Result Ending CommandFault) (ending : Ending) (fault : CommandFault) → end ≡ Ok ending → end ≡ Err fault → P
no_fault end ending fault fine is = cc

last_end : {P : Type 0} (ended end : Result Ending CommandFault) (ending last : Ending) → ended ≡ Ok last → end ≡ Ok ending
    → (end ≡ Ok last) ⊎ P × ((end ≡ Err faults.Write) ⊎ (end ≡ Err faults.OutOfMemory)) → ended ≡ Ok ending
last_end ended end ending last is fine (inl same) = is ∙ sym same ∙ fine
last_end ended end ending last is fine (inr (named, inl fault)) = no_fault end ending faults.Write fine fault
last_end ended end ending last is fine (inr (named, inr fault)) = no_fault end ending faults.OutOfMemory fine fault

finished : (command : Command) (before now : Used) (output written : Tape) (ended : Result Ending CommandFault) (ending : Ending)
    → Finishes command before now output written ended (Ok ending) → (ended ≡ Ok ending) × (written ≡ output)
finished command before now output written ended ending (inl cant) = no_fault (Ok ending) ending faults.Write refl cant.fault
finished command before now output written ended ending (inr (same, inl keeps)) = no_fault (Ok ending) ending keeps.fault refl keeps.same
finished command before now output written ended ending (inr (same, inr saves)) =
    (last_end ended (Ok ending) ending saves.ending saves.is refl saves.ends, same)

-- no write and no flush has failed
pub whole_end : (command : Command) (before now : Used) (blank output written : Tape) (saves : Bool) (ended end : Result Ending CommandFault)
    → Finishes command before now output written ended end → IfOk ended (IsEnded saves blank.failures output.failures) → IsFullyWritten blank written end
whole_end command before now blank output written saves ended (Ok ending) is ends =
    let fine = finished command before now output written ended ending is in
    let whole : IsEnded saves blank.failures output.failures ending =
    subst (λ (r : Result Ending CommandFault). IfOk r (IsEnded saves blank.failures output.failures)) fine.0 ends in
    (whole.few, ap (λ (t : Tape). t.failures) fine.1 ∙ whole.whole)
whole_end command before now blank output written saves ended (Err fault) is ends = tt

-- what holds where a command has ended without a fault
pub fine_end : (command : Command) (before now : Used) (output written : Tape) (ended end : Result Ending CommandFault) (P : Type 0)
    → Finishes command before now output written ended end → OnOk ended P → OnOk end P
fine_end command before now output written ended (Ok ending) P is holds =
    subst (λ (r : Result Ending CommandFault). OnOk r P) (finished command before now output written ended ending is).0 holds
fine_end command before now output written ended (Err fault) P is holds = tt
