-- What was written of a text, where writing it has failed too.
use Rattle.std.proofs.Common.{◌≡◌, ℕ, ◌+◌, ◌-◌, ◌^◌, ◌++◌, min, true, List, Result, Ok, Err, OnErr, IfErr, is_err, append_assoc, sym, ap, ◌∙◌, subst}
use Rattle.schedule.specs.Tapes.{Begins, Tape, Writes}
use Rattle.schedule.specs.declared.texts.device.Failed.{Failed}
use Rattle.schedule.proofs.Playing.{begins_further, begins_wider}
use Rattle.command_parts.specs.declared.fault.CommandFault.TheVariants.{OutOfMemory, Write}
use Rattle.command_parts.specs.Endings.{CommandFault, Ending, FailsIn, Prints}

pub not_written : (r : Result (Unit {0}) Failed) (text whole : List ℕ) (before now : Tape) → is_err r ≡ true → text ≡ whole
    → OnErr r (Begins before.taken now.taken text) → OnErr r (now.failures ≡ min (before.failures + 1) (2 ^ 64 - 1)) → FailsIn whole before now Write
not_written (Ok x) text whole before now fails same front failed = cc
not_written (Err e) text whole before now fails same front failed = (subst (λ (xs : List ℕ). Begins before.taken now.taken xs) same front, failed)

-- what was not written of a text was not written of a longer one
pub fails_wider : (text more : List ℕ) (before now : Tape) (fault : CommandFault) → FailsIn text before now fault → FailsIn (text ++ more) before now fault
fails_wider text more before now Write fails = (begins_wider before.taken now.taken text more fails.0, fails.1)
fails_wider text more before now OutOfMemory fails = fails
fails_wider text more before now fault fails = absurd fails

-- a text was written, and then another
pub prints_further : (status : ℕ) (text more : List ℕ) (before mid now : Tape) (r : Result Ending CommandFault) → Writes before mid text → Prints status more mid now r → IfErr r (λ fault. fault ≡ Write) → Prints status (text ++ more) before now r
prints_further status text more before mid now (Ok ending) first next failed = (
  next.0,
  record {
    taken = next.1.taken ∙ ap (λ (xs : List ℕ). xs ++ more) first.taken ∙ append_assoc before.taken text more;
    fine = next.1.fine ∙ first.fine;
  },
)
prints_further status text more before mid now (Err fault) first next failed =
    let fails = subst (FailsIn more mid now) failed next in
    subst (FailsIn (text ++ more) before now) (sym failed)
    (begins_further before.taken mid.taken now.taken text more first.taken fails.0, fails.1 ∙ ap (λ n. min (n + 1) (2 ^ 64 - 1)) first.fine)
