-- The tokens of a line: numbers, words and signs, parted by spaces, up to a comment.
use Rattle.std.specs.Prelude.{◌≡◌, ℕ, ◌^◌, ◌==◌, nat_lt, nat_le, Bool, true, false, not, ◌≢◌, ◌&&◌, ◌||◌, ◌⊎◌, List, [], ◌∷◌, length, take, drop, slice_index, Option, Some, None, Result, Ok, Err, if◌then◌else◌, codes, bytes_eq, filter, take_while}
use Rattle.std.specs.List.{before_first, slice_split, join_with_byte, list_all}
use Rattle.std.specs.Char.{is_ascii_digit, is_ascii_alphanumeric, is_ascii_lowercase}
use Rattle.std.specs.Str.Parse.{digits_value}
use Rattle.algorithms.specs.declared.condition.Comparison.TheVariants.{Equal, NotEqual, Less, AtMost, Greater, AtLeast}
use Rattle.algorithms.specs.declared.expression.Operator.TheVariants.{Sum, Difference, Product, Quotient, Remainder}
use Rattle.algorithms.specs.declared.fault.ReadFault.{ReadFault}
use Rattle.algorithms.specs.declared.fault.ReadFault.TheVariants.{BadCharacter, BadForm, TooBig}
use Rattle.algorithm_texts.specs.declared.tokens.Sign.{Sign}
use Rattle.algorithm_texts.specs.declared.tokens.Sign.TheVariants.{Assign, Colon, Comma, Open, Close, OpenIndex, CloseIndex, Operator, Comparison}
use Rattle.algorithm_texts.specs.declared.tokens.Token.{Token}
use Rattle.algorithm_texts.specs.declared.tokens.Token.TheVariants.{Number, Word, Sign as Mark}

-- ---- one token

-- a letter, a digit or `_`
abbrev pub is_name_byte : ℕ → Bool
is_name_byte b = is_ascii_alphanumeric b || b == 95

-- what a word names in this list
abbrev pub value_of_name : {A : Type 0} → List (List ℕ × A) → List ℕ → Option A
value_of_name [] word = None
value_of_name (entry ∷ entries) word = if bytes_eq word entry.0 then Some entry.1 else value_of_name entries word

-- the signs of two characters
abbrev pub long_signs : List (List ℕ × Sign)
long_signs =
    (codes ":=", Assign)
    ∷ (codes "<=", Comparison AtMost)
    ∷ (codes ">=", Comparison AtLeast)
    ∷ (codes "!=", Comparison NotEqual)
    ∷ []

-- the signs of one character
abbrev pub short_signs : List (List ℕ × Sign)
short_signs =
    (codes ":", Colon)
    ∷ (codes ",", Comma)
    ∷ (codes "(", Open)
    ∷ (codes ")", Close)
    ∷ (codes "[", OpenIndex)
    ∷ (codes "]", CloseIndex)
    ∷ (codes "+", Operator Sum)
    ∷ (codes "-", Operator Difference)
    ∷ (codes "*", Operator Product)
    ∷ (codes "/", Operator Quotient)
    ∷ (codes "=", Comparison Equal)
    ∷ (codes "<", Comparison Less)
    ∷ (codes ">", Comparison Greater)
    ∷ []

-- the token of these digits: no leading zero, and at most 64 bits
unfoldable pub number_token : List ℕ → Result Token ReadFault
number_token digits =
    if nat_lt 1 (length digits) && slice_index digits 0 == 48 then Err BadForm
    else if nat_lt (digits_value 10 digits) (2 ^ 64) then Ok (Number (digits_value 10 digits))
    else Err TooBig

-- the token of these letters, digits and `_`: a name of at most 32, but `mod` is a sign
unfoldable pub word_token : List ℕ → Result Token ReadFault
word_token letters =
    if nat_lt 32 (length letters) then Err TooBig
    else if bytes_eq letters (codes "mod") then Ok (Mark (Operator Remainder))
    else Ok (Word letters)

-- a sign that is found, of this size
abbrev pub as_token : Option Sign → Result (Token × ℕ) ReadFault → ℕ → Result (Token × ℕ) ReadFault
as_token (Some sign) other size = Ok (Mark sign, size)
as_token None other size = other

-- the longer sign of two characters, else that of one
abbrev pub sign_token : List ℕ → Result (Token × ℕ) ReadFault
sign_token bytes = as_token (value_of_name long_signs (take 2 bytes)) (as_token (value_of_name short_signs (take 1 bytes)) (Err BadCharacter) 1) 2

-- a token of all of these bytes, and how many there are
abbrev pub token_of_all_bytes : List ℕ → Result Token ReadFault → Result (Token × ℕ) ReadFault
token_of_all_bytes bytes (Ok token) = Ok (token, length bytes)
token_of_all_bytes bytes (Err fault) = Err fault

-- the first token, and how many bytes it takes: all digits that come first, else all letters, digits and `_`, else a sign
unfoldable pub first_token : List ℕ → Result (Token × ℕ) ReadFault
first_token bytes =
    if is_ascii_digit (slice_index bytes 0) then token_of_all_bytes (take_while is_ascii_digit bytes) (number_token (take_while is_ascii_digit bytes))
    else if is_name_byte (slice_index bytes 0) then token_of_all_bytes (take_while is_name_byte bytes) (word_token (take_while is_name_byte bytes))
    else sign_token bytes

-- ---- the tokens of a line

-- the bytes without the spaces at their front
abbrev pub without_front_spaces : List ℕ → List ℕ
without_front_spaces [] = []
without_front_spaces (b ∷ bs) = if b == 32 then without_front_spaces bs else b ∷ bs

-- the word that an answer follows
abbrev pub done_word : Token
done_word = Word (codes "done")

-- no token comes: the bytes end, or at this fault
abbrev pub EndsTokens : List ℕ → Result (List ℕ) ReadFault → Type 0
EndsTokens [] end = end ≡ Ok []
EndsTokens (b ∷ bs) end = (fault : ReadFault) × (first_token (b ∷ bs) ≡ Err fault) × (end ≡ Err fault)

-- these tokens come one after the other, and then the end: what follows the word `done_word`, nothing, or a fault
abbrev pub Scans : List ℕ → List Token → Result (List ℕ) ReadFault → Type 0
Scans bytes [] end = EndsTokens (without_front_spaces bytes) end
Scans bytes (t ∷ ts) end =
    (size : ℕ)
    × (first_token (without_front_spaces bytes) ≡ Ok (t, size))
    × (((t ≢ done_word) × Scans (drop size (without_front_spaces bytes)) ts end) ⊎ ((t ≡ done_word) × (ts ≡ []) × (end ≡ Ok (drop size (without_front_spaces bytes)))))

-- printable ASCII
abbrev pub is_printable : ℕ → Bool
is_printable b = nat_le 32 b && nat_le b 126

-- a comment begins with `#`
abbrev pub before_comment : List ℕ → List ℕ
before_comment line = before_first (λ b. b == 35) line

abbrev pub is_filled : List ℕ → Bool
is_filled bytes = not (length bytes == 0)

-- small letters
abbrev pub is_answer_part : List ℕ → Bool
is_answer_part part = is_filled part && list_all is_ascii_lowercase part

-- small letters, or such joined by single dashes
abbrev pub is_answer_word : List ℕ → Bool
is_answer_word word = list_all is_answer_part (slice_split (λ b. b == 45) word)

-- an answer of these words, with one space between two. Where spaces stand together, the part between them is no word
unfoldable pub answer_from : List (List ℕ) → Result (List ℕ) ReadFault
answer_from parts = if list_all is_answer_word (filter is_filled parts) then Ok (join_with_byte 32 (filter is_filled parts)) else Err BadForm

-- the answer that bytes say
abbrev pub answer_of : List ℕ → Result (List ℕ) ReadFault
answer_of bytes = answer_from (slice_split (λ b. b == 32) bytes)

-- the tokens of a line, with the answer at its end, where it has one
abbrev pub tokens_with_answer : List Token → Result (List ℕ) ReadFault → Result (List Token × List ℕ) ReadFault
tokens_with_answer tokens (Ok answer) = Ok (tokens, answer)
tokens_with_answer tokens (Err fault) = Err fault

abbrev pub answer_at_end : Result (List ℕ) ReadFault → Result (List ℕ) ReadFault
answer_at_end (Ok rest) = answer_of rest
answer_at_end (Err fault) = Err fault

-- what a line says: its tokens and the answer after `done_word`, or its first fault. A byte that is not printable is the first
abbrev pub LineSays : List ℕ → Result (List Token × List ℕ) ReadFault → Type 0
LineSays line read =
    ((list_all is_printable line ≡ false) × (read ≡ Err BadCharacter))
    ⊎ ((list_all is_printable line ≡ true)
    × (tokens : List Token) × (end : Result (List ℕ) ReadFault) × Scans (before_comment line) tokens end × (read ≡ tokens_with_answer tokens (answer_at_end end)))

-- a line says one thing
abbrev pub SaysOnce : Type 0
SaysOnce = (line : List ℕ) (a b : Result (List Token × List ℕ) ReadFault) → LineSays line a → LineSays line b → a ≡ b
