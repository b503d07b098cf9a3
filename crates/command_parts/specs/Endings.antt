-- How any command ends.
use Rattle.std.specs.Prelude.{◌≡◌, ◌⊎◌, ℕ, ◌+◌, ◌-◌, ◌^◌, ◌≤◌, min, Bool, List, is_some, Result, Ok, Err}
use Rattle.schedule.specs.Tapes.{Tape, Reading, Begins, Writes}
use Rattle.schedule.specs.Wholes.{Silent}
pub use Rattle.command_parts.specs.declared.ending.Ending.{Ending}
pub use Rattle.command_parts.specs.declared.fault.CommandFault.{CommandFault}
use Rattle.command_parts.specs.declared.fault.CommandFault.TheVariants.{Read, Write, OutOfMemory}

-- a command has ended without a fault: whether it hands out an image to be saved, and that no write has failed
pub record IsEnded (saves : Bool) (before now : ℕ) (ending : Ending) : Type 0 where
  pub few : ending.status ≤ 1
  pub saved : is_some ending.save ≡ saves
  pub whole : now ≡ before

-- why a text that is due was not written: a write has failed after a beginning of it; or memory has run out, and nothing was written
abbrev pub FailsIn : List ℕ → Tape → Tape → CommandFault → Type 0
FailsIn text before now Write = Begins before.taken now.taken text × (now.failures ≡ min (before.failures + 1) (2 ^ 64 - 1))
FailsIn text before now OutOfMemory = Silent before now
FailsIn text before now fault = ⊥

-- a text that is due was written, and the command has this status; or the text was not written
abbrev pub Prints : ℕ → List ℕ → Tape → Tape → Result Ending CommandFault → Type 0
Prints status text before now (Ok ending) = (ending.status ≡ status) × Writes before now text
Prints status text before now (Err fault) = FailsIn text before now fault

-- memory has run out, and nothing was written
abbrev pub RunsOut : Tape → Tape → Result Ending CommandFault → Type 0
RunsOut before now end = (end ≡ Err OutOfMemory) × Silent before now

-- why no text was read: a read has failed, or memory has run out
abbrev pub FailsToRead : Reading → Reading → CommandFault → Type 0
FailsToRead old new Read = new.failures ≡ min (old.failures + 1) (2 ^ 64 - 1)
FailsToRead old new OutOfMemory = new.failures ≡ old.failures
FailsToRead old new fault = ⊥

-- no text was read, and nothing was written
pub record ReadsNothing (old new : Reading) (before now : Tape) (end : Result Ending CommandFault) : Type 0 where
  pub fault : CommandFault
  pub is : end ≡ Err fault
  pub fails : FailsToRead old new fault
  pub silent : Silent before now

-- if a read has failed, that is the fault
abbrev pub TellsReads : Reading → Reading → Result Ending CommandFault → Type 0
TellsReads old new (Ok ending) = new.failures ≡ old.failures
TellsReads old new (Err fault) = (new.failures ≡ old.failures) ⊎ (fault ≡ Read)

-- nothing is written, and the fault is of this kind
abbrev pub RefusesCommand : Tape → Tape → (CommandFault → Type 0) → Result Ending CommandFault → Type 0
RefusesCommand before now Is end = Silent before now × ((fault : CommandFault) × (end ≡ Err fault) × Is fault)
