-- The lines of each call, and the deeds that they say.
use Rattle.std.specs.Prelude.{◌≡◌, ℕ, ◌<◌, ◌≤◌, List, [], ◌∷◌, Option, Some, Contains, slice_get}
use Rattle.algorithms.specs.declared.algorithm.Algorithm.{Algorithm}
use Rattle.algorithms.specs.declared.algorithm.Entries.{Entries}
use Rattle.algorithms.specs.declared.line.AlgorithmDeed.{AlgorithmDeed}
use Rattle.algorithms.specs.declared.line.LineKind.TheVariants.{Local}
use Rattle.algorithms.specs.declared.line.AlgorithmLine.{AlgorithmLine}
use Rattle.algorithms.specs.declared.line.LocalLine.TheVariants.{Note}

-- where calls begin
abbrev pub entries_of : Entries → List (Option ℕ)
entries_of entries = Some entries.lock ∷ Some entries.unlock ∷ entries.recover ∷ entries.withdraw ∷ []

-- the line at a place is of the call that begins at `entry`: no other call begins after that, and at this place or before it
pub record IsLineOf (entries : Entries) (entry at : ℕ) : Type 0 where
  pub from : entry ≤ at
  pub alone : (other : ℕ) → Contains (entries_of entries) (Some other) → entry < other → at < other

-- a line of the call that begins at `entry` says this deed
pub record SaysDeed (a : Algorithm) (entry : ℕ) (deed : AlgorithmDeed) : Type 0 where
  pub at : ℕ
  pub line : AlgorithmLine
  pub there : slice_get a.lines.items at ≡ Some line
  pub within : IsLineOf a.entries entry at
  pub says : line.form ≡ Local (Note deed)
