-- Reading the parts of a line from the left: values, names, and shared words with their indexes.
use Rattle.std.specs.Prelude.{◌≡◌, ℕ, Bool, false, not, ◌&&◌, ◌||◌, List, [], ◌∷◌, ◌++◌, drop, slice_get, Option, Some, None, Result, Ok, Err, if◌then◌else◌, codes, bytes_eq, position}
use Rattle.algorithms.specs.declared.expression.Operator.TheVariants.{Sum, Product, Within}
use Rattle.algorithms.specs.declared.fault.ReadFault.{ReadFault}
use Rattle.algorithm_texts.specs.declared.tokens.Sign.TheVariants.{OpenIndex, CloseIndex}
use Rattle.algorithm_texts.specs.declared.tokens.Token.{Token}
use Rattle.algorithm_texts.specs.declared.tokens.Token.TheVariants.{Number, Word, Sign}
use Rattle.algorithm_texts.specs.Parts.{Term, Formula, OperandPart, Value, Pair, Condition, Private, Number as NumberTerm, Me, Procs, Limit, Joined, Element, value_in, condition_in, ◌>>=◌}
use Rattle.algorithm_texts.specs.Grammar.{Scope, is_among, is_constant_name, is_row_name, private_name_part}
use Rattle.algorithm_texts.specs.Operands.{reserved, RefusesAs}
use Rattle.algorithm_texts.specs.Stacks.{read_part}
use Rattle.algorithm_texts.specs.Fronts.{is_the_word, is_the_sign, letters_of, past_word, past_sign, is_over, deed_said, past_withdraw, value_tokens, value_rest}
use Rattle.algorithm_texts.specs.Drafts.{SharedWord, DraftExtent, OneWord, OfProcesses, OfSize, OfRows, DraftAction, Swapping, LineForm, Accessing, Noting, Drafted}

-- what a function makes of a draft is what the definition gives, where that is something. Else its fault is of this kind
abbrev pub Drafts : {A : Type 0} → Drafted → Result A ReadFault → Option Drafted → ReadFault → Type 0
Drafts now (Ok x) o kind = o ≡ Some now
Drafts now (Err fault) o kind = RefusesAs fault o kind

-- ---- values

abbrev pub read_value : Scope → List (List ℕ) → List Token → Option (Term × List (List ℕ))
read_value scope names tokens = do
  x ← read_part scope names tokens
  v ← value_in x.0
  Some (v, x.1)

abbrev pub read_condition : Scope → List (List ℕ) → List Token → Option (Formula × List (List ℕ))
read_condition scope names tokens = do
  x ← read_part scope names tokens
  c ← condition_in x.0
  Some (c, x.1)

-- ---- names

abbrev pub scope_in : Drafted → Scope
scope_in d = record { reserved = reserved; constants = d.head.constants; rows = d.head.rows; declared = d.declared; most = 64 }

-- the words that are numbers
abbrev pub is_constant : List ℕ → Bool
is_constant word = bytes_eq word (codes "me") || bytes_eq word (codes "procs") || bytes_eq word (codes "limit")

-- a word as a new name
abbrev pub new_name_in : List ℕ → Option (List ℕ)
new_name_in word = if is_constant word then None else if is_among reserved word then None else Some word

abbrev pub new_name : Option Token → Option (List ℕ)
new_name token = letters_of token >>= new_name_in

-- a word that may be a name: no word of the format
abbrev pub is_name : Option Token → Bool
is_name None = false
is_name (Some (Number n)) = false
is_name (Some (Word letters)) = not (is_among reserved letters)
is_name (Some (Sign sign)) = false

-- a constant, a row of private names or a shared word has this name
abbrev pub has_declaration : Scope → List ℕ → Bool
has_declaration scope word = is_among scope.declared word || is_constant_name scope.constants word || is_row_name scope.rows word

-- a private name that a line sets, as a part, and the names after it
abbrev pub name_set : Scope → List (List ℕ) → Option Token → Option (OperandPart × List (List ℕ))
name_set scope names token = do
  word ← new_name token
  if has_declaration scope word then None else private_name_part scope.most names word (position (λ name. bytes_eq name word) names)

abbrev pub index_in : OperandPart → ℕ
index_in (Value (Private k)) = k
index_in (Value (NumberTerm n)) = 0
index_in (Value (Element row i)) = 0
index_in (Value Me) = 0
index_in (Value Procs) = 0
index_in (Value Limit) = 0
index_in (Value (Joined o a b)) = 0
index_in (Pair a b) = 0
index_in (Condition c) = 0

-- ---- parts of a line

abbrev pub with_names : List (List ℕ) → Drafted → Drafted
with_names names d = record d { names = names }

-- a line at the end
abbrev pub with_form : LineForm → Drafted → Drafted
with_form form d = record d { lines = d.lines ++ record { number = d.number; form = form } ∷ [] }

abbrev pub extent_or_one : Option DraftExtent → DraftExtent
extent_or_one None = OneWord
extent_or_one (Some extent) = extent

-- an index in brackets, the tokens after it, and the names
abbrev pub read_brackets : Scope → List (List ℕ) → List Token → Option (Term × List Token × List (List ℕ))
read_brackets scope names tokens = do
  inner ← past_sign tokens OpenIndex
  v ← read_value scope names (value_tokens inner)
  rest ← past_sign (value_rest inner) CloseIndex
  Some (v.0, rest, v.1)

abbrev pub read_one_index : Scope → List (List ℕ) → List Token → Option (Option Term × List Token × List (List ℕ))
read_one_index scope names tokens = do
  i ← read_brackets scope names tokens
  Some (Some i.0, i.1, i.2)

-- the place of a word in a table with this number of words in a row, of which the second index is one
abbrev pub table_place : Term → Term → Term → Term
table_place columns i j = Joined Sum (Joined Product i columns) (Joined Within j columns)

abbrev pub read_two_indexes : Scope → Term → List (List ℕ) → List Token → Option (Option Term × List Token × List (List ℕ))
read_two_indexes scope columns names tokens = do
  i ← read_brackets scope names tokens
  j ← read_brackets scope i.2 i.1
  Some (Some (table_place columns i.0 j.0), j.1, j.2)

-- the place of a word in an array, the tokens after its indexes, and the names
abbrev pub read_index : Scope → DraftExtent → List (List ℕ) → List Token → Option (Option Term × List Token × List (List ℕ))
read_index scope OneWord names tokens = if is_the_sign (slice_get tokens 0) OpenIndex then None else Some (None, tokens, names)
read_index scope OfProcesses names tokens = read_one_index scope names tokens
read_index scope (OfSize size) names tokens = read_one_index scope names tokens
read_index scope (OfRows size columns) names tokens = read_two_indexes scope columns names tokens

-- a word of the k-th declaration
abbrev pub read_word_of : Scope → List DraftExtent → List (List ℕ) → ℕ → List Token → Option (SharedWord × List Token × List (List ℕ))
read_word_of scope extents names k tokens = do
  i ← read_index scope (extent_or_one (slice_get extents k)) names (drop 1 tokens)
  Some (record { declaration = k; index = i.0 }, i.1, i.2)

abbrev pub read_word : Scope → List DraftExtent → List (List ℕ) → List Token → Option (SharedWord × List Token × List (List ℕ))
read_word scope extents names tokens = do
  name ← letters_of (slice_get tokens 0)
  k ← position (λ other. bytes_eq other name) scope.declared
  read_word_of scope extents names k tokens

abbrev pub read_deed : Drafted → List Token → Option Drafted
read_deed d tokens = do
  deed ← deed_said tokens
  Some (with_form (Noting deed) d)

abbrev pub read_access : Drafted → SharedWord → DraftAction → List Token → Option Drafted
read_access d word act tokens = do
  rest ← past_withdraw tokens
  if is_over rest then Some (with_form (Accessing (record { word = word; act = act; may_withdraw = is_the_word (slice_get tokens 0) (codes "may") })) d)
      else read_deed (with_form (Accessing (record { word = word; act = act; may_withdraw = is_the_word (slice_get tokens 0) (codes "may") })) d) rest

abbrev pub read_until : Scope → List (List ℕ) → List Token → Option (Formula × List Token × List (List ℕ))
read_until scope names tokens = do
  inner ← past_word tokens (codes "until")
  c ← read_condition scope names (value_tokens inner)
  Some (c.0, value_rest inner, c.1)

-- ---- swaps: `swap WORD to VALUE if CONDITION`, the condition where there is one

-- a swap comes next: the word `swap`, which is a name elsewhere, with a name after it
abbrev pub begins_swap : List Token → Bool
begins_swap tokens = is_the_word (slice_get tokens 0) (codes "swap") && is_name (slice_get tokens 1)

abbrev pub read_guard_condition : Scope → List (List ℕ) → List Token → Option (Option Formula × List Token × List (List ℕ))
read_guard_condition scope names tokens = do
  c ← read_condition scope names (value_tokens tokens)
  Some (Some c.0, value_rest tokens, c.1)

-- `if CONDITION`, where it comes next, the tokens after it, and the names
abbrev pub read_guard : Scope → List (List ℕ) → List Token → Option (Option Formula × List Token × List (List ℕ))
read_guard scope names tokens =
    if is_the_word (slice_get tokens 0) (codes "if") then read_guard_condition scope names (drop 1 tokens) else Some (None, tokens, names)

-- `to VALUE if CONDITION`: what a swap stores, and where; the tokens after it, and the names
abbrev pub read_swap_value : Scope → List (List ℕ) → List Token → Option (Term × Option Formula × List Token × List (List ℕ))
read_swap_value scope names tokens = do
  inner ← past_word tokens (codes "to")
  v ← read_value scope names (value_tokens inner)
  guard ← read_guard scope v.1 (value_rest inner)
  Some (v.0, guard.0, guard.1, guard.2)

-- `to VALUE if CONDITION` after `NAME := swap WORD`
abbrev pub read_swap_word : Drafted → ℕ → SharedWord → List Token → Option Drafted
read_swap_word d name word tokens = do
  r ← read_swap_value (scope_in d) d.names tokens
  read_access (with_names r.3 d) word (Swapping name r.0 r.1 None) r.2

-- `WORD to VALUE if CONDITION` after `NAME := swap`
abbrev pub read_swap : Drafted → ℕ → List Token → Option Drafted
read_swap d name tokens = do
  word ← read_word (scope_in d) d.extents d.names tokens
  read_swap_word (with_names word.2 d) name word.0 word.1

-- `until CONDITION` after `await NAME := swap WORD to VALUE if CONDITION`
abbrev pub read_await_swap : Drafted → SharedWord → ℕ → Term → Option Formula → List Token → Option Drafted
read_await_swap d word name value guard tokens = do
  until ← read_until (scope_in d) d.names tokens
  read_access (with_names until.2 d) word (Swapping name value guard (Some until.0)) until.1

-- `to VALUE if CONDITION until CONDITION` after `await NAME := swap WORD`
abbrev pub read_await_swap_word : Drafted → ℕ → SharedWord → List Token → Option Drafted
read_await_swap_word d name word tokens = do
  r ← read_swap_value (scope_in d) d.names tokens
  read_await_swap (with_names r.3 d) word name r.0 r.1 r.2

-- `WORD to VALUE if CONDITION until CONDITION` after `await NAME := swap`
abbrev pub read_awaited_swap : Drafted → ℕ → List Token → Option Drafted
read_awaited_swap d name tokens = do
  word ← read_word (scope_in d) d.extents d.names tokens
  read_await_swap_word (with_names word.2 d) name word.0 word.1
