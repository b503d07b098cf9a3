-- The indexes of shared words: how many a line gives a word, and how many the word is declared with.
use Rattle.std.specs.Prelude.{ℕ, ◌+◌, ◌-◌, ◌==◌, Bool, true, not, ◌&&◌, ◌||◌, List, [], ◌∷◌, slice_get, count_by, Option, Some, None, if◌then◌else◌, codes}
use Rattle.std.specs.Option.{option_or}
use Rattle.algorithm_texts.specs.declared.index_counts.IndexCount.{IndexCount}
use Rattle.algorithm_texts.specs.declared.tokens.Sign.TheVariants.{Assign, Colon, OpenIndex, CloseIndex}
use Rattle.algorithm_texts.specs.TokenPlaces.{token_places, word_at, is_word_of, is_sign_at, is_sign_of}
use Rattle.algorithm_texts.specs.Tokens.{before_comment}

-- how many brackets open after `shared` and this word
abbrev pub declared_at : List ℕ → List ℕ → List ℕ → Option ℕ
declared_at word code places =
    if is_word_of (codes "shared") code (slice_get places 0) && is_word_of word code (slice_get places 1) then Some (count_by (is_sign_at OpenIndex code) places)
    else None

abbrev pub declared_by : List ℕ → List ℕ → Option ℕ
declared_by word line = declared_at word (before_comment line) (token_places (before_comment line))

-- how many indexes the first of these lines that declares the word gives it
abbrev pub declared_in : List ℕ → List (List ℕ) → Option ℕ
declared_in word [] = None
declared_in word (line ∷ lines) = option_or (declared_by word line) (declared_in word lines)

-- how many indexes come first, where that many brackets are open
abbrev pub given_from : ℕ → List ℕ → List ℕ → ℕ
given_from depth code [] = 0
given_from depth code (place ∷ places) =
    if is_sign_at OpenIndex code place then (if depth == 0 then 1 else 0) + given_from (depth + 1) code places
    else if depth == 0 then 0
    else if is_sign_at CloseIndex code place then given_from (depth - 1) code places
    else given_from depth code places

-- a word is accessed that begins the line, or comes after one of these
abbrev pub is_access_after : List ℕ → Option ℕ → Bool
is_access_after code None = true
is_access_after code (Some place) =
    is_sign_of Assign code (Some place) || (is_word_of (codes "swap") code (Some place) || is_word_of (codes "then") code (Some place))

-- a word has other indexes than it is declared with
abbrev pub miscount_by : ℕ → Option ℕ → ℕ → Option IndexCount
miscount_by place None given = None
miscount_by place (Some declared) given = if declared == given then None else Some (record { place = place; declared = declared; given = given })

abbrev pub count_of : List (List ℕ) → ℕ → ℕ → Option (List ℕ) → Option IndexCount
count_of lines place given None = None
count_of lines place given (Some word) = miscount_by place (declared_in word lines) given

-- of the token at this place, which comes after one and before these: a label has a colon
abbrev pub miscount : List (List ℕ) → List ℕ → Option ℕ → ℕ → List ℕ → Option IndexCount
miscount lines code before place after =
    if is_access_after code before && not (is_sign_of Colon code (slice_get after 0)) then count_of lines place (given_from 0 code after) (word_at code place)
    else None

-- the first access with other indexes than one of these lines declares
abbrev pub first_miscount : List (List ℕ) → List ℕ → Option ℕ → List ℕ → Option IndexCount
first_miscount lines code before [] = None
first_miscount lines code before (place ∷ places) = option_or (miscount lines code before place places) (first_miscount lines code (Some place) places)
