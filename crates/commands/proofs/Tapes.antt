-- What a sink has taken, by its parts.
use Rattle.std.proofs.Common.{◌≡◌}
use Rattle.schedule.specs.Tapes.{Tape}

pub same_tape : (a b : Tape) → a.taken ≡ b.taken → a.failures ≡ b.failures → a ≡ b
same_tape a b taken failures = λ i. record { taken = taken i; failures = failures i }
