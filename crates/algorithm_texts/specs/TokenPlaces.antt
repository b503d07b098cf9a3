-- The places of a line's tokens.
use Rattle.std.specs.Prelude.{◌≡◌, ℕ, zero, suc, ◌+◌, ◌-◌, ◌==◌, min, Bool, false, List, [], ◌∷◌, ◌++◌, length, map, drop, position, Option, Some, None, Result, Ok, Err, if◌then◌else◌, codes}
use Rattle.algorithms.specs.declared.fault.ReadFault.{ReadFault}
use Rattle.algorithm_texts.specs.declared.tokens.Sign.{Sign}
use Rattle.algorithm_texts.specs.declared.tokens.Token.{Token}
use Rattle.algorithm_texts.specs.Fronts.{is_the_sign, is_the_word, letters_of}
use Rattle.algorithm_texts.specs.Tokens.{first_token, Scans}

-- how many bytes belong to the first token: to the word `done` and to a fault all that are left
abbrev pub size_read : ℕ → Result (Token × ℕ) ReadFault → ℕ
size_read all (Ok read) = if is_the_word (Some read.0) (codes "done") then all else read.1
size_read all (Err fault) = all

abbrev pub token_size : List ℕ → ℕ
token_size bytes = size_read (length bytes) (first_token bytes)

-- where tokens begin: the first of these bytes is at this place, and that many of them belong to the token before
abbrev pub places_from : ℕ → ℕ → List ℕ → List ℕ
places_from at inside [] = []
places_from at zero (b ∷ bs) =
    if b == 32 then places_from (at + 1) zero bs else at ∷ places_from (at + 1) (token_size (b ∷ bs) - 1) bs
places_from at (suc inside) (b ∷ bs) = places_from (at + 1) inside bs

abbrev pub token_places : List ℕ → List ℕ
token_places code = places_from 0 zero code

-- the token at a place, or its fault
abbrev pub token_read : Result (Token × ℕ) ReadFault → Result Token ReadFault
token_read (Ok read) = Ok read.0
token_read (Err fault) = Err fault

abbrev pub read_at : List ℕ → ℕ → Result Token ReadFault
read_at code place = token_read (first_token (drop place code))

abbrev pub letters_read : Result Token ReadFault → Option (List ℕ)
letters_read (Ok token) = letters_of (Some token)
letters_read (Err fault) = None

-- the word at a place
abbrev pub word_at : List ℕ → ℕ → Option (List ℕ)
word_at code place = letters_read (read_at code place)

abbrev pub is_this_word : List ℕ → Result Token ReadFault → Bool
is_this_word word (Ok token) = is_the_word (Some token) word
is_this_word word (Err fault) = false

-- the token at this place is this word
abbrev pub is_word_at : List ℕ → List ℕ → ℕ → Bool
is_word_at word code place = is_this_word word (read_at code place)

-- there is a token of this number, and it is this word
abbrev pub is_word_of : List ℕ → List ℕ → Option ℕ → Bool
is_word_of word code None = false
is_word_of word code (Some place) = is_word_at word code place

abbrev pub is_this_sign : Sign → Result Token ReadFault → Bool
is_this_sign sign (Ok token) = is_the_sign (Some token) sign
is_this_sign sign (Err fault) = false

-- the token at this place is this sign
abbrev pub is_sign_at : Sign → List ℕ → ℕ → Bool
is_sign_at sign code place = is_this_sign sign (read_at code place)

-- there is a token of this number, and it is this sign
abbrev pub is_sign_of : Sign → List ℕ → Option ℕ → Bool
is_sign_of sign code None = false
is_sign_of sign code (Some place) = is_sign_at sign code place

-- the tokens after the one of this number
abbrev pub after_one : List ℕ → Option ℕ → List ℕ
after_one places None = []
after_one places (Some at) = drop (at + 1) places

-- the tokens after the first one that is this word
abbrev pub places_after : List ℕ → List ℕ → List ℕ → List ℕ
places_after word code places = after_one places (position (is_word_at word code) places)

-- a place in a line as a column, which counts from 1
abbrev pub column_of : List ℕ → ℕ → ℕ
column_of line place = min (place + 1) (length line)

-- the fault at which tokens end
abbrev pub fault_at_end : Result (List ℕ) ReadFault → List (Result Token ReadFault)
fault_at_end (Ok rest) = []
fault_at_end (Err fault) = Err fault ∷ []

-- the tokens at the places are those that come one after the other, with the fault at which they end
abbrev pub AreAtTheirPlaces : Type 0
AreAtTheirPlaces =
    (code : List ℕ) (tokens : List Token) (end : Result (List ℕ) ReadFault) → Scans code tokens end
    → map (read_at code) (token_places code) ≡ map (λ token. Ok token) tokens ++ fault_at_end end
