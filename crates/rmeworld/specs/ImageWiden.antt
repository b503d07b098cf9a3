-- "Widen": the value of each place and of the record gets words 0 at its end. Nothing else changes.
use Rattle.std.specs.Prelude.{◌≡◌, ℕ, ◌+◌, ◌-◌, ◌<◌, ◌≤◌, ◌⊎◌, List, ◌++◌, length, map, slice_index}
use Rattle.rmecore.specs.Body.{zeros}
use Rattle.rmecore.specs.declared.refusal.Refusal.{Refusal}
use Rattle.rmecore.specs.declared.refusal.Refusal.TheVariants.{BadImage, BadWidth, OutOfMemory}
use Rattle.redomail.specs.declared.message.Message.{Message}
use Rattle.redomail.specs.Layout.{words_of, row, size}
use Rattle.redomail.specs.Shape.{entry, entries}
use Rattle.rmeworld.specs.declared.image.Image.{Image}
use Rattle.rmeworld.specs.ImageRules.{layout_of, IsLawfulImage, IsFirstBroken}

-- the list with words 0 at its end, n words in all
abbrev pub padded_words : ℕ → List ℕ → List ℕ
padded_words n xs = xs ++ zeros (n - length xs)

-- a message with a wider value
abbrev pub widened_message : ℕ → Message → Message
widened_message n m = record m { value = padded_words n m.value }

-- j is i with values of this many words
pub record IsWider (wide : ℕ) (i j : Image) : Type 0 where
  pub version : j.version ≡ 2
  pub width : j.width ≡ wide
  pub cap : j.cap ≡ i.cap
  pub limit : j.limit ≡ i.limit
  pub lock : j.lock ≡ i.lock
  pub filled : length j.cells ≡ size (layout_of j)
  -- ruined, closed, count, armed, and the record's place and number
  pub heads : row (words_of j.cells) 0 6 ≡ row (words_of i.cells) 0 6
  -- the record's value
  pub recorded : row (words_of j.cells) 6 wide ≡ padded_words wide (row (words_of i.cells) 6 i.width)
  -- the board and the last numbers
  pub others : row (words_of j.cells) (6 + wide) (4 + length i.lock) ≡ row (words_of i.cells) (6 + i.width) (4 + length i.lock)
  pub places : (a : ℕ) → a < i.cap → entry (layout_of j) (words_of j.cells) a ≡ widened_message wide (entry (layout_of i) (words_of i.cells) a)

-- why an image is not widened: its first broken rule, a width below its own or above 8, or out of memory
abbrev pub IsUnwidened : ℕ → Image → Refusal → Type 0
IsUnwidened wide i e =
    ((rule : ℕ) × IsFirstBroken rule i × (e ≡ BadImage rule))
    ⊎ ((IsLawfulImage i × ((wide < i.width) ⊎ (8 < wide)) × (e ≡ BadWidth)) ⊎ (IsLawfulImage i × (i.width ≤ wide) × (wide ≤ 8) × (e ≡ OutOfMemory)))

-- the messages shown in an image
abbrev pub shown_in : Image → List Message
shown_in i = entries (layout_of i) (words_of i.cells) (slice_index i.cells 2)

-- If an image is lawful, the wider image is lawful too. It shows the same messages, each with words 0 at its end.
abbrev pub WideningKeeps : Type 0
WideningKeeps =
    (wide : ℕ) (i j : Image) → IsLawfulImage i → i.width ≤ wide → wide ≤ 8 → IsWider wide i j
    → IsLawfulImage j × (shown_in j ≡ map (widened_message wide) (shown_in i))
