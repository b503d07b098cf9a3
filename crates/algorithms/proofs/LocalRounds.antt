-- The rounds that are left to a process between two accesses.
use Rattle.std.proofs.Common.{◌≡◌, ℕ, zero, suc, ◌-◌, ◌<◌, ◌≤◌, List, Err, refl, ap, arith}
use Rattle.algorithms.specs.Arrivals.{arrives, further_rounds}
use Rattle.algorithms.specs.declared.constants.Constants.{Constants}
use Rattle.algorithms.specs.declared.line.AlgorithmLine.{AlgorithmLine}
use Rattle.algorithms.specs.declared.local.LocalState.{LocalState}
use Rattle.algorithms.specs.declared.refusal.AlgorithmRefusal.TheVariants.{OutOfRange}

-- where rounds are left, one is begun
pub one_further : (lines : List AlgorithmLine) (c : Constants) (rounds at : ℕ) (s : LocalState) → 0 < rounds → further_rounds lines c rounds at s ≡ arrives lines c (rounds - 1) s
unfolding further_rounds
one_further lines c zero at s some = absurd (omega (arith, some))
one_further lines c (suc rounds) at s some = let same : rounds ≡ suc rounds - 1 = omega arith in ap (λ r. arrives lines c r s) same

-- where none is left, it is refused
pub none_further : (lines : List AlgorithmLine) (c : Constants) (rounds at : ℕ) (s : LocalState) → rounds ≤ 0 → further_rounds lines c rounds at s ≡ Err (OutOfRange at)
unfolding further_rounds
none_further lines c zero at s none = refl
none_further lines c (suc rounds) at s none = absurd (omega (arith, none))
