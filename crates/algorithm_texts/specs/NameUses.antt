-- The names that a line uses and should not: a second shared word, and a name that is not known.
use Rattle.std.specs.Prelude.{ℕ, ◌+◌, ◌==◌, Bool, false, not, ◌&&◌, ◌||◌, List, [], ◌∷◌, slice_get, count_by, position, Option, Some, None, is_some, if◌then◌else◌, codes}
use Rattle.algorithm_texts.specs.declared.tokens.Sign.TheVariants.{Colon, OpenIndex}
use Rattle.algorithm_texts.specs.IndexCounts.{declared_in, is_access_after}
use Rattle.algorithm_texts.specs.NamePlaces.{is_reserved_at, name_place}
use Rattle.algorithm_texts.specs.TokenPlaces.{token_places, word_at, is_word_at, is_word_of, is_sign_of}
use Rattle.algorithm_texts.specs.Tokens.{before_comment}

-- between these two tokens is no label, and not the name that is declared
abbrev pub is_used : List ℕ → Option ℕ → Option ℕ → Bool
is_used code before after =
    not (is_sign_of Colon code after) && not (is_word_of (codes "goto") code before || is_word_of (codes "shared") code before)

-- ---- shared words

abbrev pub is_shared : List (List ℕ) → Option (List ℕ) → Bool
is_shared lines None = false
is_shared lines (Some word) = is_some (declared_in word lines)

-- these lines declare the token at this place as a shared word
abbrev pub is_shared_at : List (List ℕ) → List ℕ → ℕ → Bool
is_shared_at lines code place = is_shared lines (word_at code place)

abbrev pub uses_shared : List (List ℕ) → List ℕ → Option ℕ → ℕ → Option ℕ → Bool
uses_shared lines code before place after = is_used code before after && is_shared_at lines code place

-- the first shared word but the one that is accessed, or else this one
abbrev pub second_access : List (List ℕ) → List ℕ → Option ℕ → Option ℕ → List ℕ → Option ℕ
second_access lines code access before [] = access
second_access lines code access before (place ∷ places) =
    if uses_shared lines code before place (slice_get places 0) then
    (if is_some access || not (is_access_after code before) then Some place else second_access lines code (Some place) (Some place) places)
    else second_access lines code access (Some place) places

-- ---- names that are not known

-- the first byte that is no space
abbrev pub first_place : List ℕ → Option ℕ
first_place code = position (λ b. not (b == 32)) code

abbrev pub begins_call : List ℕ → Bool
begins_call line = is_word_of (codes "call") (before_comment line) (first_place (before_comment line))

-- a line declares or sets this name
abbrev pub names_word : List ℕ → List ℕ → Bool
names_word word line = is_word_of word (before_comment line) (name_place (before_comment line) (token_places (before_comment line)))

-- so does a line before all calls, or one of the call of this number. That many calls begin before these lines
abbrev pub named_in : List ℕ → ℕ → ℕ → List (List ℕ) → Bool
named_in word call begun [] = false
named_in word call begun (line ∷ lines) =
    ((begun == 0 || begun == call) && names_word word line) || named_in word call (if begins_call line then begun + 1 else begun) lines

-- the token at this place is a word, and none of the format
abbrev pub is_name_at : List ℕ → ℕ → Bool
is_name_at code place = is_some (word_at code place) && not (is_reserved_at code place)

-- it is `swap`, and a name comes after it
abbrev pub begins_swap : List ℕ → ℕ → Option ℕ → Bool
begins_swap code place None = false
begins_swap code place (Some after) = is_word_at (codes "swap") code place && is_name_at code after

abbrev pub reads_name : List ℕ → Option ℕ → ℕ → Option ℕ → Bool
reads_name code before place after = is_name_at code place && (is_used code before after && not (begins_swap code place after))

-- the call in which a name has to be set. Before an index it has to be declared
abbrev pub call_asked : List ℕ → ℕ → Option ℕ → ℕ
call_asked code call after = if is_sign_of OpenIndex code after then 0 else call

abbrev pub is_unknown_word : List (List ℕ) → ℕ → Option (List ℕ) → Bool
is_unknown_word lines call None = false
is_unknown_word lines call (Some word) = not (named_in word call 0 lines)

abbrev pub is_unknown : List (List ℕ) → ℕ → List ℕ → ℕ → Bool
is_unknown lines call code place = is_unknown_word lines call (word_at code place)

abbrev pub reads_unknown : List (List ℕ) → ℕ → List ℕ → Option ℕ → ℕ → Option ℕ → Bool
reads_unknown lines call code before place after =
    reads_name code before place after && is_unknown lines (call_asked code call after) code place

abbrev pub first_unknown : List (List ℕ) → ℕ → List ℕ → Option ℕ → List ℕ → Option ℕ
first_unknown lines call code before [] = None
first_unknown lines call code before (place ∷ places) =
    if reads_unknown lines call code before place (slice_get places 0) then Some place else first_unknown lines call code (Some place) places

-- of a line of the call of this number
abbrev pub unknown_in : List (List ℕ) → ℕ → List ℕ → List ℕ → Option ℕ
unknown_in lines call code places =
    if call == 0 || is_word_of (codes "for") code (slice_get places 0) then None else first_unknown lines call code None places

-- of a line of these lines that is the last of the first ones
abbrev pub unknown_place : List (List ℕ) → List (List ℕ) → List ℕ → List ℕ → Option ℕ
unknown_place first lines code places = unknown_in lines (count_by begins_call first) code places
