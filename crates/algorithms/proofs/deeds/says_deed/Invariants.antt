use Rattle.std.proofs.Common.{ℕ, ◌<◌, ◌≡◌, slice_get, Some}
use Rattle.algorithms.specs.Deeds.{IsLineOf}
use Rattle.algorithms.specs.declared.line.LineKind.TheVariants.{Local}
use Rattle.algorithms.specs.declared.line.AlgorithmLine.{AlgorithmLine}
use Rattle.algorithms.specs.declared.line.LocalLine.TheVariants.{Note}
use Rattle.algorithms.proofs.deeds.says_deed.Given as goal

-- no line so far says it
abbrev pub invariant-loop-at : goal.invariant-loop-at
invariant-loop-at l = (place : ℕ) (line : AlgorithmLine) → place < l.at → slice_get l.algorithm.lines.items place ≡ Some line
    → IsLineOf l.algorithm.entries l.entry place → line.form ≡ Local (Note l.deed) → ⊥
