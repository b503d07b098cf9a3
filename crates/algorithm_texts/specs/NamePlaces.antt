-- The places of the names that lines declare, set or go to.
use Rattle.std.specs.Prelude.{ℕ, Bool, false, not, ◌&&◌, ◌||◌, List, [], ◌∷◌, drop, slice_get, position, Option, Some, None, is_some, option_and_then, if◌then◌else◌, codes}
use Rattle.std.specs.List.{list_any}
use Rattle.std.specs.Option.{option_or}
use Rattle.algorithms.specs.declared.condition.Comparison.TheVariants.{Equal}
use Rattle.algorithm_texts.specs.declared.tokens.Sign.TheVariants.{Assign, Colon, Comma, OpenIndex, Comparison}
use Rattle.algorithm_texts.specs.Grammar.{is_among}
use Rattle.algorithm_texts.specs.Operands.{reserved}
use Rattle.algorithm_texts.specs.TokenPlaces.{word_at, is_word_at, is_word_of, is_sign_at, is_sign_of, places_after}

-- the tokens of the statement of a line: of an `if` those after `then`
abbrev pub statement_places : List ℕ → List ℕ → List ℕ
statement_places code places = if is_word_of (codes "if") code (slice_get places 0) then places_after (codes "then") code places else places

-- a name before this token is set, or is a label
abbrev pub named_before : List ℕ → Option ℕ → Bool
named_before code second = is_sign_of Assign code second || is_sign_of Colon code second

-- the words that a name comes after
abbrev pub words_before_names : List (List ℕ)
words_before_names = codes "shared" ∷ codes "private" ∷ codes "constant" ∷ codes "for" ∷ codes "goto" ∷ codes "await" ∷ []

abbrev pub named_second : List ℕ → Option ℕ → Bool
named_second code first = list_any (λ word. is_word_of word code first) words_before_names

-- the name that a declaration or a statement declares, sets or goes to, or its label
abbrev pub own_place : List ℕ → List ℕ → Option ℕ
own_place code places =
    if not (named_before code (slice_get places 1)) && named_second code (slice_get places 0) then slice_get places 1 else slice_get places 0

abbrev pub is_reserved_word : Option (List ℕ) → Bool
is_reserved_word None = false
is_reserved_word (Some word) = is_among reserved word

-- the token at this place is a word of the format
abbrev pub is_reserved_at : List ℕ → ℕ → Bool
is_reserved_at code place = is_reserved_word (word_at code place)

abbrev pub reserved_place : List ℕ → Option ℕ → Option ℕ
reserved_place code None = None
reserved_place code (Some place) = if is_reserved_at code place then Some place else None

abbrev pub second_process : List ℕ → List ℕ → Option ℕ
second_process code places = if is_sign_of Comma code (slice_get places 3) then slice_get places 4 else None

-- the first process, the second one or the first label of a claim, where it is a word of the format
abbrev pub claim_place : List ℕ → List ℕ → Option ℕ
claim_place code places =
    option_or (reserved_place code (slice_get places 2))
    (option_or (reserved_place code (second_process code places)) (reserved_place code (slice_get (places_after (codes "at") code places) 0)))

abbrev pub is_claim : List ℕ → List ℕ → Bool
is_claim code places = is_word_of (codes "never") code (slice_get places 0) && not (named_before code (slice_get places 1))

-- the name that a line declares, sets or goes to, or its label; of a claim, a word of the format
abbrev pub name_place : List ℕ → List ℕ → Option ℕ
name_place code places = if is_claim code places then claim_place code places else own_place code (statement_places code places)

-- the label of a claim that names just one
abbrev pub claimed_label_place : List ℕ → List ℕ → Option ℕ
claimed_label_place code places =
    if list_any (is_word_at (codes "at") code) (places_after (codes "at") code places) then None
    else slice_get (places_after (codes "at") code places) 0

-- the label that a line goes to, or the one that a claim names
abbrev pub label_place : List ℕ → List ℕ → Option ℕ
label_place code places =
    if list_any (is_word_at (codes "goto") code) places then slice_get (places_after (codes "goto") code places) 0
    else claimed_label_place code places

-- the deed that a line says
abbrev pub deed_place : List ℕ → List ℕ → Option ℕ
deed_place code places = slice_get (places_after (codes "is") code places) 0

-- the tokens of a statement from the name on that it sets
abbrev pub set_places : List ℕ → List ℕ → List ℕ
set_places code places = if is_word_of (codes "await") code (slice_get places 0) then drop 1 places else places

-- a name, with an index or without, comes before a `=`, and there is no `:=`
abbrev pub is_set_by_equal : List ℕ → List ℕ → Bool
is_set_by_equal code places =
    (is_sign_of (Comparison Equal) code (slice_get places 1) || is_sign_of OpenIndex code (slice_get places 1))
    && (not (is_some (position (is_sign_at Assign code) places)) && not (named_second code (slice_get places 0)))

abbrev pub equal_among : List ℕ → List ℕ → Option ℕ
equal_among code places = option_and_then (slice_get places) (position (is_sign_at (Comparison Equal) code) places)

abbrev pub equal_in : List ℕ → List ℕ → Option ℕ
equal_in code places = if is_set_by_equal code places then equal_among code places else None

-- the `=` by which a statement sets a name
abbrev pub equal_place : List ℕ → List ℕ → Option ℕ
equal_place code places = equal_in code (set_places code (statement_places code places))
