-- The lines of a text: each is ended by a line feed, and says its tokens.
use Rattle.std.specs.Prelude.{◌≡◌, ◌⊎◌, ℕ, ◌+◌, ◌≤◌, List, [], ◌∷◌, ◌++◌, length, Option, Some, None, Ok, if◌then◌else◌, ◌==◌, Bool, not}
use Rattle.std.specs.List.{All}
use Rattle.algorithms.specs.declared.fault.AlgorithmFault.{AlgorithmFault}
use Rattle.algorithms.specs.declared.fault.AlgorithmFault.TheVariants.{OutOfMemory, At}
use Rattle.algorithm_texts.specs.declared.tokens.Token.{Token}
use Rattle.algorithm_texts.specs.declared.filled.Filled.{Filled}
use Rattle.algorithm_texts.specs.Parts.{◌>>=◌}
use Rattle.algorithm_texts.specs.Fronts.{is_over}
use Rattle.algorithm_texts.specs.TextDrafts.{PromisesSaid, Spoken, read_promises}
use Rattle.algorithm_texts.specs.Tokens.{LineSays}

-- the bytes of lines, each ended by a line feed
abbrev pub ended_lines : List (List ℕ) → List ℕ
ended_lines [] = []
ended_lines (line ∷ lines) = line ++ (10 ∷ ended_lines lines)

-- a line and those after it, unless it has no token
abbrev pub and_line : ℕ → List Token → List ℕ → List Spoken → List Spoken
and_line number tokens answer rest = if is_over tokens then rest else record { number = number; tokens = tokens; answer = answer } ∷ rest

-- what lines say, the first of this number: the tokens of those that are not empty
abbrev pub SayLines : ℕ → List (List ℕ) → List Spoken → Type 0
SayLines number [] spoken = spoken ≡ []
SayLines number (line ∷ lines) spoken =
    (tokens : List Token)
    × (answer : List ℕ)
    × LineSays line (Ok (tokens, answer))
    × (rest : List Spoken)
    × SayLines (number + 1) lines rest
    × (spoken ≡ and_line number tokens answer rest)

-- a line of this number says tokens, within its limits
abbrev pub SaysTokens : ℕ → List ℕ → Type 0
SaysTokens number line = (number ≤ 4096) × (length line ≤ 1000) × (tokens : List Token) × (answer : List ℕ) × LineSays line (Ok (tokens, answer))

-- the lines of a text before the one of this number say tokens, within their limits, and these bytes come after them
pub record SaysBefore (text rest : List ℕ) (number : ℕ) (spoken : List Spoken) : Type 0 where
  pub lines : List (List ℕ)
  pub bytes : text ≡ ended_lines lines ++ rest
  pub count : number ≡ length lines + 1
  pub few : length lines ≤ 4096
  pub short : All (λ line. length line ≤ 1000) lines
  pub say : SayLines 1 lines spoken
  pub few_filled : length spoken ≤ 1024

abbrev pub SaysUpTo : List ℕ → ℕ → Type 0
SaysUpTo text number = (rest : List ℕ) × (spoken : List Spoken) × SaysBefore text rest number spoken

-- no line feed
abbrev pub is_no_feed : ℕ → Bool
is_no_feed byte = not (byte == 10)

-- the lines of a text that are not empty, within their limits
pub record TextSays (text : List ℕ) (spoken : List Spoken) : Type 0 where
  pub lines : List (List ℕ)
  pub bytes : text ≡ ended_lines lines
  pub few : length lines ≤ 4096
  pub short : All (λ line. length line ≤ 1000) lines
  pub say : SayLines 1 lines spoken
  pub few_filled : length spoken ≤ 1024

abbrev pub spoken_of : Filled → Spoken
spoken_of line = record { number = line.number; tokens = line.tokens.all.items; answer = line.tokens.answer.items }

-- the promises of a second line, and its number
abbrev pub second_said : Option Filled → Option (PromisesSaid × ℕ)
second_said None = None
second_said (Some line) = do
  promises ← read_promises line.tokens.all.items
  Some (promises, line.number)

-- ---- refusals

-- a fault comes where this is not so, or memory runs out
abbrev pub IsRefusalOf : AlgorithmFault → Type 0 → Type 0
IsRefusalOf fault P = (fault ≡ OutOfMemory) ⊎ (P → ⊥)

-- a fault comes where there is nothing, or memory runs out
abbrev pub RefusesLines : {A : Type 0} → AlgorithmFault → Option A → Type 0
RefusesLines fault o = (fault ≡ OutOfMemory) ⊎ (o ≡ None)

-- a fault is at this line, or memory runs out
abbrev pub IsAt : AlgorithmFault → ℕ → Type 0
IsAt fault line = (fault ≡ OutOfMemory) ⊎ ((number : ℕ) × (fault ≡ At line number))

-- a fault is at the first line with which this is no longer so, or memory runs out
abbrev pub IsFirstFaultyLine : AlgorithmFault → (ℕ → Type 0) → Type 0
IsFirstFaultyLine fault Upto = (fault ≡ OutOfMemory) ⊎ ((line number : ℕ) × (fault ≡ At line number) × Upto line × (Upto (line + 1) → ⊥))
