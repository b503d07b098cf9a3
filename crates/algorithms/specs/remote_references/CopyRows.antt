-- The copies of all words as rows of bits: a row for each word, bit q of it process q's.
use Rattle.std.specs.Prelude.{◌≡◌, ℕ, ◌+◌, ◌*◌, ◌<◌, Bool, true, false, List, length, slice_index}
use Rattle.std.specs.Int.{bit_at}
use Rattle.algorithms.specs.declared.access.Address.{Address}
use Rattle.algorithms.specs.declared.remote_references.memory_event.MemoryEvent.{MemoryEvent}
use Rattle.algorithms.specs.remote_references.Copies.{has_copy, has_exclusive_copy}

pub record CopyRows : Type 0 where
  pub held : List ℕ
  pub exclusive : List ℕ

abbrev pub bit_of : Bool → ℕ
bit_of true = 1
bit_of false = 0

-- the bits of a row are these processes
abbrev pub AreBitsOf : ℕ → (ℕ → Bool) → Type 0
AreBitsOf row holds = (q : ℕ) → q < 64 → bit_at row q ≡ bit_of (holds q)

-- the place of a word's row: a declaration has 64
abbrev pub row_number : Address → ℕ
row_number word = word.declaration * 64 + word.index

-- the word has one of this many rows
abbrev pub IsRowOf : ℕ → Address → Type 0
IsRowOf rows word = (word.index < 64) × (row_number word < rows)

-- the row of each word has these processes
abbrev pub AreRowsOf : List ℕ → (Address → ℕ → Bool) → Type 0
AreRowsOf rows holds = (word : Address) → IsRowOf (length rows) word → AreBitsOf (slice_index rows (row_number word)) (holds word)

-- the copies of the words of this many declarations after a run
pub record AreCopiesAfter (declarations : ℕ) (run : List MemoryEvent) (copies : CopyRows) : Type 0 where
  pub held_all : length copies.held ≡ declarations * 64
  pub exclusive_all : length copies.exclusive ≡ declarations * 64
  pub held : AreRowsOf copies.held (λ word q. has_copy q word run)
  pub exclusive : AreRowsOf copies.exclusive (λ word q. has_exclusive_copy q word run)
