-- Reading the lines of a call from the left: what each of them makes of a draft, or None where it is refused.
use Rattle.std.specs.Prelude.{ℕ, ◌+◌, nat_lt, nat_eq, Bool, true, false, not, ◌&&◌, ◌||◌, List, [], ◌∷◌, ◌++◌, length, take, drop, slice_get, slice_set, Option, Some, None, if◌then◌else◌, codes, bytes_eq, position}
use Rattle.std.specs.List.{prefix_len}
use Rattle.algorithms.specs.declared.expression.Operator.TheVariants.{Within}
use Rattle.algorithm_texts.specs.declared.lines.Block.{Block}
use Rattle.algorithm_texts.specs.declared.lines.Block.TheVariants.{If, Else, For}
use Rattle.algorithm_texts.specs.declared.lines.Opened.{Opened}
use Rattle.algorithm_texts.specs.declared.tokens.Sign.TheVariants.{Assign, OpenIndex, Colon}
use Rattle.algorithm_texts.specs.declared.tokens.Token.{Token}
use Rattle.algorithm_texts.specs.declared.tokens.Token.TheVariants.{Number, Word, Sign}
use Rattle.algorithm_texts.specs.Parts.{Term, Private, Number as NumberTerm, Me, Procs, Limit, Joined, Element, ◌>>=◌}
use Rattle.algorithm_texts.specs.Grammar.{Scope, is_among, is_row_name, row_read}
use Rattle.algorithm_texts.specs.Fronts.{is_the_word, is_the_sign, letters_of, value_if, past_word, past_sign, is_over, members_said, value_tokens, value_rest, begins_no_simple}
use Rattle.algorithm_texts.specs.Drafts.{SharedWord, DraftMembers, AllProcesses, Rising, Falling, members_form, PlacedLine, Loading, Storing, Awaiting, LineForm, Assigning, DraftElements, AllElements, ElementAt, SettingRow, Going, Branching, Beginning, Repeating, Ending, leading, Drafted}
pub use Rattle.algorithm_texts.specs.LineParts.{Drafts, read_value, read_condition, scope_in, is_constant, new_name_in, new_name, is_name, has_declaration, name_set, index_in, with_names, with_form, extent_or_one, read_brackets, read_one_index, table_place, read_two_indexes, read_index, read_word_of, read_word, read_deed, read_access, read_until, begins_swap, read_guard_condition, read_guard, read_swap_value, read_swap_word, read_swap, read_await_swap, read_await_swap_word, read_awaited_swap}

-- ---- statements that are no blocks

abbrev pub read_awaited_word : Drafted → ℕ → SharedWord → List Token → Option Drafted
read_awaited_word d name word tokens = do
  until ← read_until (scope_in d) d.names tokens
  read_access (with_names until.2 d) word (Awaiting name until.0) until.1

abbrev pub read_awaited_load : Drafted → ℕ → List Token → Option Drafted
read_awaited_load d name tokens = do
  word ← read_word (scope_in d) d.extents d.names tokens
  read_awaited_word (with_names word.2 d) name word.0 word.1

abbrev pub read_awaited : Drafted → ℕ → List Token → Option Drafted
read_awaited d name tokens = if begins_swap tokens then read_awaited_swap d name (drop 1 tokens) else read_awaited_load d name tokens

abbrev pub read_await_of : Drafted → ℕ → List Token → Option Drafted
read_await_of d name tokens = do
  rest ← past_sign tokens Assign
  read_awaited d name rest

abbrev pub read_await : Drafted → List Token → Option Drafted
read_await d tokens = do
  name ← name_set (scope_in d) d.names (slice_get tokens 0)
  read_await_of (with_names name.1 d) (index_in name.0) (drop 1 tokens)

abbrev pub read_store : Drafted → List Token → Option Drafted
read_store d tokens = do
  word ← read_word (scope_in d) d.extents d.names tokens
  inner ← past_sign word.1 Assign
  v ← read_value (scope_in d) word.2 (value_tokens inner)
  read_access (with_names v.1 d) word.0 (Storing v.0) (value_rest inner)

-- a number or a sign
abbrev pub is_no_word : Option Token → Bool
is_no_word None = false
is_no_word (Some (Number n)) = true
is_no_word (Some (Word letters)) = false
is_no_word (Some (Sign sign)) = true

abbrev pub read_load : Drafted → ℕ → List Token → Option Drafted
read_load d name tokens = do
  word ← read_word (scope_in d) d.extents d.names tokens
  if is_no_word (slice_get word.1 0) then None else read_access (with_names word.2 d) word.0 (Loading name) word.1

-- a shared word comes next
abbrev pub begins_word : Scope → Option Token → Option Token → Bool
begins_word scope None second = false
begins_word scope (Some (Number n)) second = false
begins_word scope (Some (Word word)) second = is_among scope.declared word || (is_the_sign second OpenIndex && not (is_row_name scope.rows word))
begins_word scope (Some (Sign sign)) second = false

abbrev pub read_assigned_value : Drafted → ℕ → List Token → Option Drafted
read_assigned_value d name tokens = do
  v ← read_value (scope_in d) d.names (value_tokens tokens)
  value_if (is_over (value_rest tokens)) (Some (with_form (Assigning name v.0) (with_names v.1 d)))

abbrev pub read_assigned : Drafted → ℕ → List Token → Option Drafted
read_assigned d name tokens =
    if begins_swap tokens then read_swap d name (drop 1 tokens)
    else if begins_word (scope_in d) (slice_get tokens 0) (slice_get tokens 1) then read_load d name tokens
    else read_assigned_value d name tokens

abbrev pub read_set_to : Drafted → ℕ → List Token → Option Drafted
read_set_to d name tokens = do
  rest ← past_sign tokens Assign
  read_assigned d name rest

abbrev pub read_private_assignment : Drafted → List Token → Option Drafted
read_private_assignment d tokens = do
  name ← name_set (scope_in d) d.names (slice_get tokens 0)
  read_set_to (with_names name.1 d) (index_in name.0) (drop 1 tokens)

-- ---- rows of private names

-- the value of values of a row
abbrev pub read_row_value : Drafted → ℕ → DraftElements → List Token → Option Drafted
read_row_value d first elements tokens = do
  v ← read_value (scope_in d) d.names (value_tokens tokens)
  value_if (is_over (value_rest tokens)) (Some (with_form (SettingRow first elements v.0) (with_names v.1 d)))

-- `[INDEX] := VALUE` after the name of a row
abbrev pub read_element_set : Drafted → ℕ → Term → List Token → Option Drafted
read_element_set d first size tokens = do
  i ← read_brackets (scope_in d) d.names tokens
  rest ← past_sign i.1 Assign
  read_row_value (with_names i.2 d) first (ElementAt (Joined Within i.0 size)) rest

-- a row is not set to a shared word
abbrev pub begins_access : Scope → List Token → Bool
begins_access scope tokens = begins_swap tokens || begins_word scope (slice_get tokens 0) (slice_get tokens 1)

-- `:= VALUE` after the name of a row
abbrev pub read_all_set : Drafted → ℕ → Term → List Token → Option Drafted
read_all_set d first size tokens = do
  rest ← past_sign tokens Assign
  if begins_access (scope_in d) rest then None else read_row_value d first (AllElements size) rest

abbrev pub read_row_set : Drafted → ℕ → Term → List Token → Option Drafted
read_row_set d first size tokens =
    if is_the_sign (slice_get tokens 0) OpenIndex then read_element_set d first size tokens else read_all_set d first size tokens

-- what is set whose name is no shared word: a row, where it is one, else a private name
abbrev pub read_private_set : Drafted → List Token → Option (ℕ × Term) → Option Drafted
read_private_set d tokens (Some row) = read_row_set d row.0 row.1 (drop 1 tokens)
read_private_set d tokens None =
    if is_the_sign (slice_get tokens 1) OpenIndex then None
    else if is_the_sign (slice_get tokens 1) Assign then read_private_assignment d tokens
    else None

abbrev pub read_assignment : Drafted → List Token → Option Drafted
read_assignment d tokens = do
  first ← letters_of (slice_get tokens 0)
  if is_among d.declared first then read_store d tokens else read_private_set d tokens (row_read (scope_in d) first)

-- the index of an answer
abbrev pub answer_place : List (List ℕ) → List ℕ → Option ℕ → ℕ × List (List ℕ)
answer_place answers answer (Some k) = (k, answers)
answer_place answers answer None = (length answers, answers ++ answer ∷ [])

abbrev pub placed_answer : List (List ℕ) → List ℕ → ℕ × List (List ℕ)
placed_answer answers answer = answer_place answers answer (position (λ other. bytes_eq other answer) answers)

abbrev pub with_answers : List (List ℕ) → Drafted → Drafted
with_answers answers d = record d { answers = answers }

abbrev pub read_done : Drafted → List Token → List ℕ → Option Drafted
read_done d rest answer =
    value_if (is_over rest) (Some (with_form (Ending (placed_answer d.answers answer).0) (with_answers (placed_answer d.answers answer).1 d)))

abbrev pub with_jump : List ℕ → Drafted → Drafted
with_jump name d = record d { jumps = d.jumps ++ record { place = length d.lines; name = name } ∷ [] }

abbrev pub read_goto : Drafted → List Token → Option Drafted
read_goto d rest = do
  name ← new_name (slice_get rest 0)
  value_if (is_over (drop 1 rest)) (Some (with_form (Going 0) (with_jump name d)))

abbrev pub read_simple : Drafted → List Token → List ℕ → Option Drafted
read_simple d tokens answer =
    if is_the_word (slice_get tokens 0) (codes "goto") then read_goto d (drop 1 tokens)
    else if is_the_word (slice_get tokens 0) (codes "done") then read_done d (drop 1 tokens) answer
    else if is_the_word (slice_get tokens 0) (codes "this") then read_deed d tokens
    else if is_the_word (slice_get tokens 0) (codes "await") then read_await d (drop 1 tokens)
    else read_assignment d tokens

-- ---- blocks

abbrev pub opening : ℕ → Block → Drafted → Option Drafted
opening place kind d =
    if nat_lt (length d.opened) 16 then
    Some (record d {
      opened = record { place = place; first = length d.lines; kind = kind; block = length d.blocks } ∷ d.opened;
      blocks = d.blocks ++ (length d.lines, length d.lines) ∷ [];
    })
    else None

abbrev pub ended_at : List (ℕ × ℕ) → ℕ → ℕ → Option (ℕ × ℕ) → List (ℕ × ℕ)
ended_at blocks at place None = blocks
ended_at blocks at place (Some block) = slice_set blocks at (block.0, place)

-- the innermost block ends here
abbrev pub closing : Opened → List Opened → Drafted → Drafted
closing o os d = record d { opened = os; blocks = ended_at d.blocks o.block (length d.lines) (slice_get d.blocks o.block) }

-- the line at this place leads to the next line
abbrev pub landing : ℕ → Drafted → Drafted
landing at d = record d { lines = leading d.lines at (length d.lines) (slice_get d.lines at) }

-- `if CONDITION then`, and the tokens after it
abbrev pub read_test : Drafted → List Token → Option (Drafted × List Token)
read_test d tokens = do
  c ← read_condition (scope_in d) d.names (value_tokens tokens)
  rest ← past_word (value_rest tokens) (codes "then")
  Some (with_form (Branching c.0 0) (with_names c.1 d), rest)

abbrev pub read_then : ℕ → Drafted → List Token → List ℕ → Option Drafted
read_then place d tokens answer = do
  now ← read_simple d tokens answer
  Some (landing place now)

abbrev pub read_if : Drafted → List Token → List ℕ → Option Drafted
read_if d tokens answer = do
  test ← read_test d tokens
  if is_over test.1 then opening (length d.lines) If test.0
      else if begins_no_simple test.1 then None
      else read_then (length d.lines) test.0 test.1 answer

abbrev pub is_loop_of : ℕ → Block → Bool
is_loop_of name If = false
is_loop_of name Else = false
is_loop_of name (For other) = nat_eq other name

abbrev pub is_loop : Block → Bool
is_loop If = false
is_loop Else = false
is_loop (For other) = true

-- a loop of this name is open
abbrev pub is_looping : ℕ → List Opened → Bool
is_looping name [] = false
is_looping name (o ∷ os) = is_loop_of name o.kind || is_looping name os

-- how many loops are open
abbrev pub loops : List Opened → ℕ
loops [] = 0
loops (o ∷ os) = if is_loop o.kind then loops os + 1 else loops os

-- ---- loops over numbers: `from VALUE to VALUE`, and `from VALUE down to VALUE`

-- a value of numbers, `me`, `procs` and `limit` alone
abbrev pub is_fixed : Term → Bool
is_fixed (NumberTerm n) = true
is_fixed (Private k) = false
is_fixed Me = true
is_fixed Procs = true
is_fixed Limit = true
is_fixed (Element row i) = false
is_fixed (Joined o a b) = is_fixed a && is_fixed b

-- the first end of such a loop ends before this token
abbrev pub ends_first : Token → Bool
ends_first token = is_the_word (Some token) (codes "to") || is_the_word (Some token) (codes "down")

abbrev pub first_size : List Token → ℕ
first_size tokens = prefix_len (λ token. not (ends_first token)) tokens

-- whether the numbers go down, and the tokens after that
abbrev pub down_at_front : List Token → Bool × List Token
down_at_front tokens = if is_the_word (slice_get tokens 0) (codes "down") then (true, drop 1 tokens) else (false, tokens)

abbrev pub range_of : Bool → Term → Term → DraftMembers
range_of true a b = Falling a b
range_of false a b = Rising a b

-- the second end after the first one, and the names
abbrev pub read_second_end : Scope → Term → List (List ℕ) → List Token → Option (DraftMembers × List (List ℕ))
read_second_end scope first names tokens = do
  rest ← past_word (down_at_front tokens).1 (codes "to")
  last ← read_value scope names (value_tokens rest)
  value_if (is_over (value_rest rest) && (is_fixed first && is_fixed last.0)) (Some (range_of (down_at_front tokens).0 first last.0, last.1))

abbrev pub read_range : Scope → List (List ℕ) → List Token → Option (DraftMembers × List (List ℕ))
read_range scope names tokens = do
  first ← read_value scope names (take (first_size tokens) tokens)
  read_second_end scope first.0 first.1 (drop (first_size tokens) tokens)

abbrev pub read_set : List (List ℕ) → List Token → Option (DraftMembers × List (List ℕ))
read_set names tokens = do
  members ← members_said tokens
  Some (members_form members, names)

-- what a loop goes over, and the names
abbrev pub read_members : Scope → List (List ℕ) → List Token → Option (DraftMembers × List (List ℕ))
read_members scope names tokens =
    if is_the_word (slice_get tokens 0) (codes "from") then read_range scope names (drop 1 tokens) else read_set names tokens

-- ---- loops

abbrev pub loop_opened : ℕ → DraftMembers → Drafted → Option Drafted
loop_opened name members d =
    if is_looping name d.opened then None
    else if nat_lt (loops d.opened) 2 then opening (length d.lines) (For name) (with_form (Beginning name members 0) d)
    else None

abbrev pub read_for : Drafted → List Token → Option Drafted
read_for d tokens = do
  name ← name_set (scope_in d) d.names (slice_get tokens 0)
  members ← read_members (scope_in d) name.1 (drop 1 tokens)
  if nat_lt (index_in name.0) d.lasting then None else loop_opened (index_in name.0) members.0 (with_names members.1 d)

abbrev pub else_after : Opened → Block → List Opened → Drafted → Option Drafted
else_after o If os d = opening (length d.lines) Else (landing o.place (closing o os (with_form (Going 0) d)))
else_after o Else os d = None
else_after o (For name) os d = None

abbrev pub else_in : List Opened → Drafted → Option Drafted
else_in [] d = None
else_in (o ∷ os) d = else_after o o.kind os d

abbrev pub read_else : Drafted → List Token → Option Drafted
read_else d tokens = value_if (is_over tokens) (else_in d.opened d)

-- what a loop goes over, by its head
abbrev pub members_in : LineForm → DraftMembers
members_in (Beginning name members after) = members
members_in other = AllProcesses

abbrev pub members_at : Option PlacedLine → DraftMembers
members_at None = AllProcesses
members_at (Some line) = members_in line.form

-- the line that begins the next round of a loop, whose head is at this place
abbrev pub going_round : ℕ → ℕ → Block → Drafted → Drafted
going_round at first If d = d
going_round at first Else d = d
going_round at first (For name) d = with_form (Repeating name (members_at (slice_get d.lines at)) first) d

abbrev pub end_in : List Opened → Drafted → Option Drafted
end_in [] d = None
end_in (o ∷ os) d = Some (landing o.place (closing o os (going_round o.place o.first o.kind d)))

abbrev pub read_end : Drafted → List Token → Option Drafted
read_end d tokens = value_if (is_over tokens) (end_in d.opened d)

-- the innermost block
abbrev pub block_in : List Opened → Option ℕ
block_in [] = None
block_in (o ∷ os) = Some o.block

abbrev pub with_label : List ℕ → Drafted → Drafted
with_label name d = record d { labels = d.labels ++ record { name = name; place = length d.lines; block = block_in d.opened; number = d.number } ∷ [] }

abbrev pub read_label : Drafted → List Token → Option Drafted
read_label d tokens = do
  name ← new_name (slice_get tokens 0)
  value_if (is_over (drop 2 tokens)) (Some (with_label name d))

-- a line of a call
abbrev pub read_statement : Drafted → List Token → List ℕ → Option Drafted
read_statement d tokens answer =
    if is_the_word (slice_get tokens 0) (codes "if") then read_if d (drop 1 tokens) answer
    else if is_the_word (slice_get tokens 0) (codes "for") then read_for d (drop 1 tokens)
    else if is_the_word (slice_get tokens 0) (codes "else") then read_else d (drop 1 tokens)
    else if is_the_word (slice_get tokens 0) (codes "end") then read_end d (drop 1 tokens)
    else if is_the_sign (slice_get tokens 1) Colon then read_label d tokens
    else read_simple d tokens answer
