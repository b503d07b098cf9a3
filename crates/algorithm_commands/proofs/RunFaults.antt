-- The line of the text at which a value would leave its range, by the numbers of the algorithm's lines.
use Rattle.std.proofs.Common.{◌≡◌, ◌∙◌, ℕ, List, Option, Some, None, refl, ap, slice_get, unwrap_or, map}
use Rattle.std.proofs.lemmas.Option.{slice_get-map}
use Rattle.std.specs.Option.{option_map}
use Rattle.algorithms.specs.declared.algorithm.Algorithm.{Algorithm}
use Rattle.algorithms.specs.declared.line.AlgorithmLine.{AlgorithmLine}
use Rattle.algorithm_states.specs.RangeSpaces.{number_at, number_of}
use Rattle.algorithm_commands.specs.AlgorithmReplays.{line_numbers}

number_here : (o : Option AlgorithmLine) → unwrap_or (option_map (λ (line : AlgorithmLine). line.number) o) 0 ≡ number_of o
number_here None = refl
number_here (Some line) = refl

pub numbered : (a : Algorithm) (numbers : List ℕ) (place : ℕ) → numbers ≡ line_numbers a → Some (unwrap_or (slice_get numbers place) 0) ≡ Some (number_at a place)
numbered a numbers place is =
    ap (λ (ns : List ℕ). Some (unwrap_or (slice_get ns place) 0)) is
    ∙ ap (λ (o : Option ℕ). Some (unwrap_or o 0)) (slice_get-map (λ (line : AlgorithmLine). line.number) a.lines.items place)
    ∙ ap Some (number_here (slice_get a.lines.items place))
