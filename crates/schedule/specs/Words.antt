-- A line as words, and the numbers that the words say. Faults are found from the left
-- (the specification's Faults of the text).
use Rattle.std.specs.Prelude.{◌≡◌, ℕ, zero, suc, ◌^◌, ◌-◌, ◌==◌, Bool, true, false, not, ◌&&◌, ◌||◌, List, [], ◌∷◌, ◌++◌, length, drop, slice_index, Option, Some, None, Result, Ok, Err, nat_lt, if◌then◌else◌, bytes_eq}
use Rattle.std.specs.List.{slice_split, join_with_byte, flat_map, list_all}
use Rattle.std.specs.Char.{is_ascii_digit}
use Rattle.std.specs.Str.Parse.{digits_value}
use Rattle.std.specs.Fmt.{decimal}
use Rattle.schedule.specs.declared.lines.fault.LineFault.{LineFault}
use Rattle.schedule.specs.declared.lines.fault.LineFault.TheVariants.{BadWord, BadNumber, TooBig, TrailingText}

-- the words of a line, which is cut at every space
abbrev pub words_of : List ℕ → List (List ℕ)
words_of line = slice_split (λ b. b == 32) line

-- a line of these words, with a space between two, and LF
abbrev pub line_of : List (List ℕ) → List ℕ
line_of ws = join_with_byte 32 ws ++ 10 ∷ []

-- the parts of a text, which is cut at every LF: its lines, and the text after the last LF
abbrev pub parts_of : List ℕ → List (List ℕ)
parts_of text = slice_split (λ b. b == 10) text

-- the first word, if there is one
abbrev pub first_of : List (List ℕ) → Option (List ℕ)
first_of [] = None
first_of (w ∷ ws) = Some w

-- a place of a line: a fixed word, or a number from the first to the second
pub data WordShape : Type 0 where
  Fixed : List ℕ → WordShape
  Number : ℕ → ℕ → WordShape

-- a place for any number of 64 bits
abbrev pub any : WordShape
any = Number 0 (2 ^ 64 - 1)

-- this many such places
abbrev pub repeated_shape : ℕ → List WordShape
repeated_shape zero = []
repeated_shape (suc n) = any ∷ repeated_shape n

infixl 10 ◌>>=◌
-- a result, and what follows where it is no fault
abbrev pub ◌>>=◌ : {A B E : Type 0} → Result A E → (A → Result B E) → Result B E
(Ok x) >>= f = f x
(Err e) >>= f = Err e

-- one digit or more, without a leading zero
abbrev pub is_numeral : List ℕ → Bool
is_numeral word = nat_lt 0 (length word) && list_all is_ascii_digit word && (length word == 1 || not (slice_index word 0 == 48))

-- the number that a word says, from least to most
unfoldable pub number_in : ℕ → ℕ → Option (List ℕ) → Result ℕ LineFault
number_in least most None = Err BadNumber
number_in least most (Some word) =
    if not (is_numeral word) then Err BadNumber
    else if nat_lt (digits_value 10 word) least then Err BadNumber
    else if nat_lt most (digits_value 10 word) then Err TooBig
    else Ok (digits_value 10 word)

-- the numbers at their places, and no word after them
abbrev pub numbers_at : List WordShape → List (List ℕ) → Result (List ℕ) LineFault
numbers_at [] [] = Ok []
numbers_at [] (w ∷ ws) = Err TrailingText
numbers_at (Fixed word ∷ shapes) ws = numbers_at shapes (drop 1 ws)
numbers_at (Number least most ∷ shapes) ws = do
  n ← number_in least most (first_of ws)
  ns ← numbers_at shapes (drop 1 ws)
  Ok (n ∷ ns)

-- the first of the words is this one
abbrev pub begins_with : List ℕ → List (List ℕ) → Bool
begins_with word [] = false
begins_with word (w ∷ ws) = bytes_eq w word

-- the fixed words are at their places
abbrev pub has_fixed : List WordShape → List (List ℕ) → Bool
has_fixed [] ws = true
has_fixed (Fixed word ∷ shapes) ws = begins_with word ws && has_fixed shapes (drop 1 ws)
has_fixed (Number least most ∷ shapes) ws = has_fixed shapes (drop 1 ws)

-- what a word names in this list
abbrev pub value_of_name : {A : Type 0} → List (List ℕ × A) → List ℕ → Option A
value_of_name [] word = None
value_of_name (entry ∷ entries) word = if bytes_eq word entry.0 then Some entry.1 else value_of_name entries word

-- the item that a first word makes of the numbers after it
unfoldable pub item_after : {C A : Type 0} → (C → List (List ℕ) → List WordShape) → (C → List ℕ → A) → C → List (List ℕ) → Result A LineFault
item_after places make command ws = do
  ns ← numbers_at (places command ws) ws
  Ok (make command ns)

-- the item after a first word, which has to name something
abbrev pub item_named : {C A : Type 0} → (C → List (List ℕ) → List WordShape) → (C → List ℕ → A) → Option C → List (List ℕ) → Result A LineFault
item_named places make None ws = Err BadWord
item_named places make (Some command) ws = item_after places make command ws

-- a line after the header: its first word decides the places, and what is made of their numbers
abbrev pub item_at : {C A : Type 0} → List (List ℕ × C) → (C → List (List ℕ) → List WordShape) → (C → List ℕ → A) → List (List ℕ) → Result A LineFault
item_at entries places make [] = Err BadWord
item_at entries places make (word ∷ ws) = item_named places make (value_of_name entries word) ws

-- no word is left
abbrev pub is_nil : List (List ℕ) → Bool
is_nil [] = true
is_nil (w ∷ ws) = false

-- each number as a word with a space before it
abbrev pub spaced_numbers : List ℕ → List ℕ
spaced_numbers ns = flat_map (λ n. 32 ∷ decimal n) ns

-- the words that are left of a line
abbrev pub words_left : Option (List ℕ) → List (List ℕ)
words_left None = []
words_left (Some line) = words_of line

-- what a function returns, seen by view, is what the definition gives
abbrev pub ReadsItem : {X Y : Type 0} → (X → Y) → Result X LineFault → Result Y LineFault → Type 0
ReadsItem view (Ok x) read = read ≡ Ok (view x)
ReadsItem view (Err e) read = read ≡ Err e
