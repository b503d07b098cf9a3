-- The sizes for which there is no world of the Bakery are those for which there is no lock.
use Rattle.std.proofs.Common.{◌≡◌, ℕ, ◌^◌, nat_lt, nat_le, Bool, true, false, ◌&&◌, cond, Option, Some, None, refl, ap, ◌∙◌}
use Rattle.std.specs.Prelude.{option_and_then}
use Rattle.rmecore.specs.Refused.{number_of}
use Rattle.rmecore.specs.Simulated.{new_refusal as lock_refusal}
use Rattle.rmecore.specs.declared.refusal.Refusal.TheVariants as refusals
use Rattle.algorithms.specs.FirstWords.{from_zeros}
use Rattle.algorithms.specs.PromisedSteps.{has_step_bounds}
use Rattle.algorithms.specs.Worlds.{new_refusal}
use Rattle.algorithms.specs.declared.algorithm.Algorithm.{Algorithm}
use Rattle.algorithms.specs.declared.algorithm.StepBounds.{StepBounds}
use Rattle.algorithms.specs.declared.refusal.AlgorithmRefusal.{AlgorithmRefusal}
use Rattle.algorithms.specs.declared.refusal.AlgorithmRefusal.TheVariants.{BadProcs, BadLimit}
use Rattle.algorithm_lab.specs.Refusals.{number_of_world}
use Rattle.algorithm_lab.specs.Bakery.{IsBakery}

abbrev refusal_by : Bool → Bool → Bool → Option AlgorithmRefusal
refusal_by fits low valued = cond fits (cond low (cond valued None (Some BadProcs)) (Some BadLimit)) (Some BadProcs)

-- the processes are tested twice
tested_twice : (x y low : Bool) → option_and_then number_of_world (refusal_by (x && y && x && y) low true) ≡ option_and_then number_of (cond (x && y) (cond low None (Some refusals.BadLimit)) (Some refusals.BadProcs))
tested_twice true true true = refl
tested_twice true true false = refl
tested_twice true false low = refl
tested_twice false y low = refl

pub same_sizes : (a : Algorithm) (n limit : ℕ) → IsBakery a → option_and_then number_of_world (new_refusal (from_zeros a) n limit) ≡ option_and_then number_of (lock_refusal n limit)
same_sizes a n limit b =
    let low = nat_lt 0 limit && nat_le limit (2 ^ 62) in
    ap (λ (s : StepBounds). option_and_then number_of_world (refusal_by (nat_le a.least n && nat_le n a.most && nat_le 1 n && nat_le n 64) low (has_step_bounds n limit s && true))) b.step_bounds
    ∙ ap (λ k. option_and_then number_of_world (refusal_by (nat_le k n && nat_le n a.most && nat_le 1 n && nat_le n 64) low true)) b.least
    ∙ ap (λ k. option_and_then number_of_world (refusal_by (nat_le 1 n && nat_le n k && nat_le 1 n && nat_le n 64) low true)) b.most
    ∙ tested_twice (nat_le 1 n) (nat_le n 64) low
