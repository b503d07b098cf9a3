-- Reading the lines of a text from the left: what each of them makes of a draft, or None where it is refused.
use Rattle.std.specs.Prelude.{◌≡◌, string_bytes, ℕ, ◌+◌, ◌==◌, nat_eq, nat_lt, nat_le, Bool, true, false, not, ◌&&◌, ◌||◌, List, [], ◌∷◌, ◌++◌, length, map, take, drop, slice_get, Option, Some, None, is_some, if◌then◌else◌, codes}
use Rattle.std.specs.List.{prefix_len, list_any}
use Rattle.algorithms.specs.declared.algorithm.Algorithm.{Algorithm}
use Rattle.algorithms.specs.declared.algorithm.AlgorithmCall.{AlgorithmCall}
use Rattle.algorithms.specs.declared.algorithm.AlgorithmCall.TheVariants.{Lock, Unlock, Recover, Withdraw}
use Rattle.algorithms.specs.declared.condition.Comparison.TheVariants.{Equal}
use Rattle.algorithms.specs.declared.expression.Operator.TheVariants.{Product}
use Rattle.algorithm_texts.specs.declared.lines.CallRead.{CallRead}
use Rattle.algorithm_texts.specs.declared.lines.Opened.{Opened}
use Rattle.algorithm_texts.specs.declared.tokens.Sign.TheVariants.{OpenIndex, Comparison}
use Rattle.algorithm_texts.specs.declared.tokens.Token.{Token}
use Rattle.algorithm_texts.specs.declared.tokens.Token.TheVariants.{Word}
use Rattle.algorithm_texts.specs.Parts.{Term, Number, Private, Element, Me, Procs, Limit, Joined, ◌>>=◌}
use Rattle.algorithm_texts.specs.Grammar.{Scope}
use Rattle.algorithm_texts.specs.Fronts.{is_me, is_the_word, is_the_sign, number_in, value_if, past_word, past_sign, is_over, named_by, value_tokens, value_rest}
use Rattle.algorithm_texts.specs.Drafts.{Drafted, DraftExtent, OneWord, OfProcesses, OfSize, OfRows, with_row}
use Rattle.algorithm_texts.specs.LineDrafts.{read_value, read_brackets, scope_in, new_name, with_names, read_statement}
use Rattle.algorithm_texts.specs.NeverClaims.{read_never}
pub use Rattle.algorithm_texts.specs.NewNames.{undeclared_name}
pub use Rattle.algorithm_texts.specs.Parts.{is_bound}
pub use Rattle.algorithm_texts.specs.PromiseLines.{PromisesSaid, read_promises}

-- ---- calls

abbrev pub call_words : List (List ℕ × AlgorithmCall)
call_words =
    (codes "lock", Lock)
    ∷ (codes "unlock", Unlock)
    ∷ (codes "recover", Recover)
    ∷ (codes "withdraw", Withdraw)
    ∷ []

abbrev pub call_number : AlgorithmCall → ℕ
call_number Lock = 0
call_number Unlock = 1
call_number Recover = 2
call_number Withdraw = 3

abbrev pub is_call : AlgorithmCall → CallRead → Bool
is_call call read = nat_eq (call_number read.call) (call_number call)

abbrev pub has_call : AlgorithmCall → List CallRead → Bool
has_call call [] = false
has_call call (c ∷ cs) = is_call call c || has_call call cs

-- the call that was read last ends at this place
abbrev pub ended_calls : ℕ → ℕ → List CallRead → List CallRead
ended_calls to last [] = []
ended_calls to last (c ∷ cs) = record { call = c.call; «from» = c.«from»; to = to; number = c.number; last = last } ∷ cs

abbrev pub end_call_in : List Opened → ℕ → Drafted → Option Drafted
end_call_in [] last d = Some (record d { calls = ended_calls (length d.lines) last d.calls })
end_call_in (o ∷ os) last d = None

abbrev pub end_call : ℕ → Drafted → Option Drafted
end_call last d = end_call_in d.opened last d

abbrev pub with_call : AlgorithmCall → Drafted → Drafted
with_call call d = record d { calls = record { call = call; «from» = length d.lines; to = length d.lines; number = d.number; last = d.number } ∷ d.calls }

abbrev pub read_call : Drafted → List Token → ℕ → Option Drafted
read_call d tokens last = do
  now ← end_call last d
  call ← named_by call_words (slice_get tokens 0)
  if is_over (drop 1 tokens) then (if has_call call now.calls then None else Some (with_call call now)) else None

-- ---- declarations

-- how many numbers and names a value is made of
abbrev pub atoms : Term → ℕ
atoms (Number n) = 1
atoms (Private k) = 1
atoms (Element row i) = atoms i
atoms Me = 1
atoms Procs = 1
atoms Limit = 1
atoms (Joined o a b) = atoms a + atoms b

-- a value of numbers, `procs` and `limit` alone, of at most sixteen of them
abbrev pub is_constant_value : Term → Bool
is_constant_value v = is_bound v && nat_le (atoms v) 16

-- `= VALUE`, and the private names after it
abbrev pub read_constant_value : Scope → List (List ℕ) → List Token → Option (Term × List (List ℕ))
read_constant_value scope names tokens = do
  rest ← past_sign tokens (Comparison Equal)
  v ← read_value scope names (value_tokens rest)
  value_if (is_over (value_rest rest) && (is_constant_value v.0 && (length v.1 == length names))) (Some (v.0, v.1))

abbrev pub with_constant : List ℕ → Term → Drafted → Drafted
with_constant name value d = record d { says_values = true; head = record d.head { constants = d.head.constants ++ (name, value) ∷ [] } }

-- `NAME = VALUE` after `constant`. The constants before it may be in the value
abbrev pub read_constant : Drafted → List Token → Option Drafted
read_constant d tokens = do
  name ← undeclared_name (scope_in d) d.names (slice_get tokens 0)
  v ← read_constant_value (scope_in d) d.names (drop 1 tokens)
  Some (with_constant name v.0 (with_names v.1 d))

-- `[VALUE]`: a size, the tokens after it, and the private names after it
abbrev pub read_size : Scope → List (List ℕ) → List Token → Option (Term × List Token × List (List ℕ))
read_size scope names tokens = do
  size ← read_brackets scope names tokens
  value_if (is_bound size.0 && (length size.2 == length names)) (Some size)

abbrev pub is_procs : Term → Bool
is_procs (Number n) = false
is_procs (Private k) = false
is_procs (Element row i) = false
is_procs Me = false
is_procs Procs = true
is_procs Limit = false
is_procs (Joined o a b) = false

-- an array of this size. That of `procs` has a word for each process
abbrev pub extent_by : Term → DraftExtent
extent_by size = if is_procs size then OfProcesses else OfSize size

-- a second size, where it comes next, after the first one
abbrev pub read_columns : Scope → Term → List (List ℕ) → List Token → Option (DraftExtent × List Token × List (List ℕ))
read_columns scope rows names tokens = do
  columns ← read_size scope names tokens
  Some (OfRows (Joined Product rows columns.0) columns.0, columns.1, columns.2)

abbrev pub read_array : Scope → Term → List (List ℕ) → List Token → Option (DraftExtent × List Token × List (List ℕ))
read_array scope size names tokens =
    if is_the_sign (slice_get tokens 0) OpenIndex then read_columns scope size names tokens else Some (extent_by size, tokens, names)

abbrev pub read_sizes : Scope → List (List ℕ) → List Token → Option (DraftExtent × List Token × List (List ℕ))
read_sizes scope names tokens = do
  size ← read_size scope names tokens
  read_array scope size.0 size.2 size.1

-- `[A]` or `[A][B]`, where it comes next, the tokens after it, and the private names after it
abbrev pub read_extent : Scope → List (List ℕ) → List Token → Option (DraftExtent × List Token × List (List ℕ))
read_extent scope names tokens =
    if is_the_sign (slice_get tokens 0) OpenIndex then read_sizes scope names tokens else Some (OneWord, tokens, names)

abbrev pub is_array : DraftExtent → Bool
is_array OneWord = false
is_array OfProcesses = true
is_array (OfSize size) = true
is_array (OfRows size columns) = true

-- an array of another size than `procs`
abbrev pub has_own_size : DraftExtent → Bool
has_own_size OneWord = false
has_own_size OfProcesses = false
has_own_size (OfSize size) = true
has_own_size (OfRows size columns) = true

-- `up to VALUE`, where it comes next, and the private names after it
abbrev pub read_limit : Scope → List (List ℕ) → List Token → Option (Option Term × List (List ℕ))
read_limit scope names tokens = do
  up ← past_word tokens (codes "up")
  rest ← past_word up (codes "to")
  v ← read_value scope names (value_tokens rest)
  value_if (is_over (value_rest rest) && (is_bound v.0 && (length v.1 == length names))) (Some (Some v.0, v.1))

abbrev pub read_bound : Scope → List (List ℕ) → List Token → Option (Option Term × List (List ℕ))
read_bound scope names tokens = if is_over tokens then Some (None, names) else read_limit scope names tokens

-- the first value of a word begins with this token, and its bound ends before it
abbrev pub is_starts : Token → Bool
is_starts token = is_the_word (Some token) (codes "starts")

abbrev pub bound_size : List Token → ℕ
bound_size tokens = prefix_len (λ token. not (is_starts token)) tokens

-- in the first values and the homes of an array `owner` is the index of the word. It is read as `me`, which is refused there
abbrev pub owner_token : Token → Token
owner_token token = if is_the_word (Some token) (codes "owner") then Word (codes "me") else token

abbrev pub owner_tokens : Bool → List Token → List Token
owner_tokens each tokens = if each then map owner_token tokens else tokens

-- a value of numbers, `procs`, `limit` and, of an array, the index of the word
abbrev pub is_owner_value : Bool → Term → Bool
is_owner_value each (Number n) = true
is_owner_value each (Private k) = false
is_owner_value each Me = each
is_owner_value each Procs = true
is_owner_value each Limit = true
is_owner_value each (Element row i) = false
is_owner_value each (Joined o a b) = is_owner_value each a && is_owner_value each b

-- such a value after this word, and the private names after it
abbrev pub read_owner_value : Scope → Bool → List ℕ → List (List ℕ) → List Token → Option (Option Term × List (List ℕ))
read_owner_value scope each word names tokens = do
  rest ← past_word tokens word
  v ← if list_any is_me rest then None else read_value scope names (owner_tokens each (value_tokens rest))
  value_if (is_over (value_rest rest) && (is_owner_value each v.0 && (length v.1 == length names))) (Some (Some v.0, v.1))

-- `starts VALUE`, where it comes next, and the private names after it
abbrev pub read_start : Scope → Bool → List (List ℕ) → List Token → Option (Option Term × List (List ℕ))
read_start scope each names tokens = if is_over tokens then Some (None, names) else read_owner_value scope each (codes "starts") names tokens

-- the bound and the first value of a word, where they are said, and the private names after them
abbrev pub read_bound_and_start : Scope → Bool → List (List ℕ) → List Token → Option (Option Term × Option Term × List (List ℕ))
read_bound_and_start scope each names tokens = do
  bound ← read_bound scope names (take (bound_size tokens) tokens)
  start ← read_start scope each bound.1 (drop (bound_size tokens) tokens)
  Some (bound.0, start.0, start.1)

-- the home of a word begins with this token, and its bound and its first value end before it
abbrev pub begins_home : Token → Bool
begins_home token = is_the_word (Some token) (codes "at")

abbrev pub size_before_home : List Token → ℕ
size_before_home tokens = prefix_len (λ token. not (begins_home token)) tokens

-- `at VALUE`, where it comes next, and the private names after it
abbrev pub read_home : Scope → Bool → List (List ℕ) → List Token → Option (Option Term × List (List ℕ))
read_home scope each names tokens = if is_over tokens then Some (None, names) else read_owner_value scope each (codes "at") names tokens

-- the bound, the first value and the home of a word, where they are said, and the private names after them
abbrev pub read_word_values : Scope → Bool → List (List ℕ) → List Token → Option (Option Term × Option Term × Option Term × List (List ℕ))
read_word_values scope each names tokens = do
  v ← read_bound_and_start scope each names (take (size_before_home tokens) tokens)
  home ← read_home scope each v.2 (drop (size_before_home tokens) tokens)
  Some (v.0, v.1, home.0, home.1)

abbrev pub with_declaration : List ℕ → DraftExtent → Option Term → Option Term → Drafted → Drafted
with_declaration name extent bound home d = record d {
  declared = d.declared ++ name ∷ [];
  extents = d.extents ++ extent ∷ [];
  head = record d.head { bounds = d.head.bounds ++ bound ∷ []; homes = d.head.homes ++ home ∷ [] };
}

-- the words of one more declaration have this first value, or none is said
abbrev pub with_start : Option Term → Drafted → Drafted
with_start start d = record d { starts = d.starts ++ start ∷ []; says_values = is_some start || d.says_values }

-- an array of a size is declared, so that worlds have it at their sizes alone
abbrev pub with_size : DraftExtent → Drafted → Drafted
with_size extent d = record d { says_values = has_own_size extent || d.says_values }

-- the values that are said of the words of a name, up to the end of the line
abbrev pub read_declared_words : Drafted → List ℕ → DraftExtent → List Token → Option Drafted
read_declared_words d name extent tokens = do
  v ← read_word_values (scope_in d) (is_array extent) d.names tokens
  Some (with_start v.1 (with_declaration name extent v.0 v.2 (with_size extent (with_names v.3 d))))

abbrev pub read_shared : Drafted → List Token → Option Drafted
read_shared d tokens = do
  name ← undeclared_name (scope_in d) d.names (slice_get tokens 0)
  extent ← if nat_lt (length d.declared) 64 then read_extent (scope_in d) d.names (drop 1 tokens) else None
  read_declared_words (with_names extent.2 d) name extent.0 extent.1

abbrev pub with_lasting : List ℕ → Drafted → Drafted
with_lasting name d = record d { names = d.names ++ name ∷ []; lasting = length d.names + 1 }

abbrev pub read_single : Drafted → List ℕ → List Token → Option Drafted
read_single d name tokens = value_if (nat_lt (length d.names) 64) (value_if (is_over tokens) (Some (with_lasting name d)))

-- `[SIZE]` after the name of a row
abbrev pub read_row : Drafted → List ℕ → List Token → Option Drafted
read_row d name tokens = do
  size ← read_size (scope_in d) d.names tokens
  value_if (nat_le (length d.names + 16) 64) (value_if (is_over size.1) (Some (with_row name size.0 (with_names size.2 d))))

abbrev pub read_private : Drafted → List Token → Option Drafted
read_private d tokens = do
  name ← undeclared_name (scope_in d) d.names (slice_get tokens 0)
  if is_the_sign (slice_get tokens 1) OpenIndex then read_row d name (drop 1 tokens) else read_single d name (drop 1 tokens)

abbrev pub read_declaration : Drafted → List Token → Option Drafted
read_declaration d tokens =
    if is_the_word (slice_get tokens 0) (codes "shared") then read_shared d (drop 1 tokens)
    else if is_the_word (slice_get tokens 0) (codes "private") then read_private d (drop 1 tokens)
    else if is_the_word (slice_get tokens 0) (codes "constant") then read_constant d (drop 1 tokens)
    else if is_the_word (slice_get tokens 0) (codes "never") then read_never d (drop 1 tokens)
    else None

-- a line after the first two, where the line before it has this number
abbrev pub read_line : Drafted → List Token → List ℕ → ℕ → Option Drafted
read_line d tokens answer last =
    if is_the_word (slice_get tokens 0) (codes "call") then read_call d (drop 1 tokens) last
    else if length d.calls == 0 then read_declaration d tokens
    else read_statement d tokens answer

-- ---- the first two lines

-- the least and the greatest number of processes, and the tokens after them
abbrev pub numbers_from : ℕ → List Token → Option (ℕ × ℕ × List Token)
numbers_from least tokens = do
  most ← number_in (slice_get tokens 2)
  Some (least, most, drop 3 tokens)

abbrev pub read_numbers : List Token → Option (ℕ × ℕ × List Token)
read_numbers tokens = do
  least ← number_in (slice_get tokens 0)
  if is_the_word (slice_get tokens 1) (codes "to") then numbers_from least tokens else Some (least, least, drop 1 tokens)

-- `for LEAST to MOST processes`
abbrev pub read_head_numbers : List Token → Option (ℕ × ℕ)
read_head_numbers tokens = do
  following ← past_word tokens (codes "for")
  n ← read_numbers following
  end ← past_word n.2 (codes "processes")
  value_if (is_over end) (Some (n.0, n.1))

-- `algorithm NAME for LEAST to MOST processes`
abbrev pub read_head_words : List Token → Option (List ℕ × ℕ × ℕ)
read_head_words tokens = do
  rest ← past_word tokens (codes "algorithm")
  name ← new_name (slice_get rest 0)
  n ← read_head_numbers (drop 1 rest)
  Some (name, n.0, n.1)

abbrev pub read_head : List Token → Option (List ℕ × ℕ × ℕ)
read_head tokens = do
  h ← read_head_words tokens
  if (h.1 == 0) || (nat_lt h.2 h.1 || nat_lt 64 h.2) then None else Some h

-- an algorithm of this name with nothing in it
pub record IsEmpty (a : Algorithm) (name : List ℕ) (least most : ℕ) : Type 0 where
  pub named : string_bytes a.name ≡ name
  pub least_is : a.least ≡ least
  pub most_is : a.most ≡ most
  pub no_constants : a.constants.items ≡ []
  pub no_rows : a.rows.items ≡ []
  pub no_declarations : a.declarations.items ≡ []
  pub no_names : a.names.items ≡ []
  pub none_last : a.lasting ≡ 0
  pub no_answers : a.answers.items ≡ []
  pub no_lines : a.lines.items ≡ []
  pub no_claims : a.claims.items ≡ []
  pub no_entries : a.entries ≡ record { lock = 0; unlock = 0; recover = None; withdraw = None }

-- ---- whole texts

-- a line that is not empty, with its number
pub record Spoken : Type 0 where
  pub number : ℕ
  pub tokens : List Token
  pub answer : List ℕ

-- a draft with nothing in it, after a line of this number
abbrev pub empty_draft : List ℕ × ℕ × ℕ → PromisesSaid → ℕ → Drafted
empty_draft head said number = record {
  head = record {
    name = head.0;
    least = head.1;
    most = head.2;
    promises = said.promises;
    step_bounds = said.step_bounds;
    constants = [];
    rows = [];
    bounds = [];
    homes = [];
    entries = record { lock = 0; unlock = 0; recover = None; withdraw = None };
  };
  declared = [];
  extents = [];
  starts = [];
  says_values = false;
  lasting = 0;
  number = number;
  names = [];
  answers = [];
  lines = [];
  opened = [];
  blocks = [];
  labels = [];
  jumps = [];
  calls = [];
  claims = [];
  claim_labels = [];
}

abbrev pub with_number : ℕ → Drafted → Drafted
with_number number d = record d { number = number }

-- the lines after the first two
abbrev pub read_lines : Drafted → List Spoken → Option Drafted
read_lines d [] = end_call d.number d
read_lines d (s ∷ ss) = do
  now ← read_line (with_number s.number d) s.tokens s.answer d.number
  read_lines now ss

-- what all lines make
abbrev pub read_text : List Spoken → Option Drafted
read_text spoken = do
  first ← slice_get spoken 0
  second ← slice_get spoken 1
  head ← read_head first.tokens
  promises ← read_promises second.tokens
  read_lines (empty_draft head promises second.number) (drop 2 spoken)
