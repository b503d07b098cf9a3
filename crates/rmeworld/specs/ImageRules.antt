-- "Lawful image": rules 2 to 9 in order. Each rule is stated for images that keep the rules before it.
use Rattle.std.specs.Prelude.{◌≡◌, ℕ, ◌-◌, ◌<◌, ◌≤◌, ◌⊎◌, length, slice_index}
use Rattle.rmecore.specs.Lawful.{IsRow, IsLawful}
use Rattle.rmecore.specs.Simulated.{own_at}
use Rattle.redomail.specs.declared.layout.Layout.{Layout}
use Rattle.redomail.specs.Layout.{words_of, size}
use Rattle.redomail.specs.Shape.{ListRule, RecordRule}
use Rattle.redomail.specs.Content.{HeadsHold}
use Rattle.rmeworld.specs.declared.image.Image.{Image}

-- the sizes of an image, which decide the indexes of its data words
abbrev pub layout_of : Image → Layout
layout_of i = record { procs = length i.lock; cap = i.cap; width = i.width }

-- rule 2: version 2, or version 1 with width 1
abbrev pub IsVersioned : Image → Type 0
IsVersioned i = (i.version ≡ 2) ⊎ ((i.version ≡ 1) × (i.width ≡ 1))

-- rule 3: the numbers of processes, the limit, the capacity and the width are within "Limits"
pub record IsSized (i : Image) : Type 0 where
  pub someone : 1 ≤ length i.lock
  pub few : length i.lock ≤ 64
  pub limited : 1 ≤ i.limit
  pub low : i.limit ≤ 4611686018427387904
  pub room : 1 ≤ i.cap
  pub small : i.cap ≤ 65536
  pub least : 1 ≤ i.width
  pub most : i.width ≤ 8

-- p is in the section, alive or crashed
abbrev pub IsInsideByImage : Image → ℕ → Type 0
IsInsideByImage i p = (p < length i.lock) × (0 < (own_at i.lock p).number) × (0 < (own_at i.lock p).inside)

-- rule 8: if no record is armed, the list rule holds
abbrev pub IsListed : Image → Type 0
IsListed i = slice_index i.cells 3 ≡ 0 → ListRule (layout_of i) (words_of i.cells) (slice_index i.cells 2)

-- Rule 9: if a record is armed, the record rule holds for the process inside, or in a ruined lock for some process.
pub record IsRecorded (i : Image) : Type 0 where
  pub clean : slice_index i.cells 3 ≡ 1 → slice_index i.cells 0 ≡ 0 → (p : ℕ) × IsInsideByImage i p × RecordRule (layout_of i) p (words_of i.cells)
  pub ruined : slice_index i.cells 3 ≡ 1 → slice_index i.cells 0 ≡ 1 → (p : ℕ) × (p < length i.lock) × RecordRule (layout_of i) p (words_of i.cells)

-- The rules up to this number. Rule 1 is about texts: the text is an image's.
pub record KeepsRules (rule : ℕ) (i : Image) : Type 0 where
  pub versioned : 2 ≤ rule → IsVersioned i
  pub sized : 3 ≤ rule → IsSized i
  pub filled : 4 ≤ rule → length i.cells ≡ size (layout_of i)
  pub rows : 5 ≤ rule → (p : ℕ) → IsRow i.limit (own_at i.lock p)
  pub lawful : 6 ≤ rule → IsLawful (length i.lock) i.limit (own_at i.lock)
  pub heads : 7 ≤ rule → HeadsHold (layout_of i) i.cells
  pub listed : 8 ≤ rule → IsListed i
  pub recorded : 9 ≤ rule → IsRecorded i

-- "Lawful image": words that are possible after a crash of every process
abbrev pub IsLawfulImage : Image → Type 0
IsLawfulImage i = KeepsRules 9 i

-- the first rule that an image breaks
abbrev pub IsFirstBroken : ℕ → Image → Type 0
IsFirstBroken rule i = (2 ≤ rule) × KeepsRules (rule - 1) i × (KeepsRules rule i → ⊥)
