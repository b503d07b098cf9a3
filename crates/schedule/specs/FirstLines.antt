-- The first line of a text, read in place.
use Rattle.std.specs.Prelude.{◌≡◌, ℕ, List, ◌∷◌, ◌++◌, Result, Ok, Err}
use Rattle.schedule.specs.declared.lines.fault.LineFault.{LineFault}
use Rattle.schedule.specs.declared.texts.fault.TextFault.{TextFault}
use Rattle.schedule.specs.Words.{words_of, parts_of}
use Rattle.schedule.specs.Texts.{items_at, Fails}

-- the first line of a text says item x, and `after` is the text after that line
pub record BeginsWithItem {A : Type 0} (item : List (List ℕ) → Result A LineFault) (text : List ℕ) (x : A) (after : List ℕ) : Type 0 where
  pub line : List ℕ
  pub parts : parts_of text ≡ line ∷ parts_of after
  pub whole : text ≡ line ++ 10 ∷ after
  pub says : item (words_of line) ≡ Ok x

-- every line of a text says an item
abbrev pub IsRead : {A : Type 0} → (List (List ℕ) → Result A LineFault) → List ℕ → Type 0
IsRead {A} item text = (k : ℕ) × (all : List A) × (items_at item k (parts_of text) ≡ Ok all)

-- the result of a check: that of reading, without the items
abbrev pub Tries : {A Y : Type 0} → Result A TextFault → Result Y (ℕ × LineFault) → Type 0
Tries {Y = Y} (Ok x) read = (y : Y) × (read ≡ Ok y)
Tries (Err e) read = Fails e read
