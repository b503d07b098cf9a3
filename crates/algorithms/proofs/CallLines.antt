-- Lines that are of another call.
use Rattle.std.proofs.Common.{◌≡◌, ℕ, ◌<◌, ◌≤◌, Option, Some, slice_index_or, length, ◌∙◌, arith}
use Rattle.algorithms.specs.Deeds.{IsLineOf, entries_of}
use Rattle.algorithms.specs.declared.algorithm.Entries.{Entries}

-- a call begins after the entry, and at the line or before it
pub record BeginsBetween (entry at : ℕ) (other : Option ℕ) : Type 0 where
  pub place : ℕ
  pub is : other ≡ Some place
  pub after : entry < place
  pub before : place ≤ at

-- then the line is of another call
pub is_of_another : (entries : Entries) (entry at k : ℕ) (other : Option ℕ) → k < length (entries_of entries) → ((d : Option ℕ) → slice_index_or (entries_of entries) k d ≡ other)
    → BeginsBetween entry at other → IsLineOf entries entry at → ⊥
is_of_another entries entry at k other within here b line =
    let lt = line.alone b.place (k, within, here (Some b.place) ∙ b.is) b.after in
    omega (arith, lt, b.before)
