-- What holds of each element of a list, by recursion.
use Rattle.std.proofs.Common.{ℕ, suc, ◌<◌, List, [], ◌∷◌, length, slice_index, arith}
use Rattle.schedule.proofs.LinesCommon.{AllByRecursion}

pub by_recursion : (P : ℕ → Type 0) (xs : List ℕ) → ((k : ℕ) → k < length xs → P (slice_index xs k)) → AllByRecursion P xs
by_recursion P [] all = tt
by_recursion P (x ∷ xs) all = (all 0 (omega arith), by_recursion P xs (λ k lt. all (suc k) (omega arith)))
