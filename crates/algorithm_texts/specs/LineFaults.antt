-- The fault of a line that has no form. A line is read from the left: the first part that is not what is expected there decides.
use Rattle.std.specs.Prelude.{ℕ, ◌+◌, ◌==◌, nat_lt, nat_le, Bool, false, ◌&&◌, ◌||◌, List, [], ◌∷◌, length, take, drop, slice_get, Option, Some, None, is_some, if◌then◌else◌, codes}
use Rattle.std.specs.List.{list_any}
use Rattle.algorithms.specs.declared.condition.Comparison.TheVariants.{Equal}
use Rattle.algorithms.specs.declared.fault.ReadFault.{ReadFault}
use Rattle.algorithms.specs.declared.fault.ReadFault.TheVariants.{NoHeader, BadForm, NameTaken, UnknownName, TwoAccesses, NotAssignable, BadBlock, BadDeed, TooBig, BadCall}
use Rattle.algorithm_texts.specs.declared.lines.Block.{Block}
use Rattle.algorithm_texts.specs.declared.lines.Block.TheVariants.{If, Else, For}
use Rattle.algorithm_texts.specs.declared.lines.Opened.{Opened}
use Rattle.algorithm_texts.specs.declared.tokens.Sign.TheVariants.{Assign, OpenIndex, Colon, Comma, Comparison}
use Rattle.algorithm_texts.specs.declared.tokens.Token.{Token}
use Rattle.algorithm_texts.specs.Parts.{Term}
use Rattle.algorithm_texts.specs.Grammar.{Scope, is_among, row_read}
use Rattle.algorithm_texts.specs.Fronts.{is_me, is_the_word, is_the_sign, letters_of, past_word, past_sign, is_over, named_by, value_tokens, value_rest, begins_no_simple}
use Rattle.algorithm_texts.specs.Drafts.{Drafted}
use Rattle.algorithm_texts.specs.LineDrafts.{scope_in, new_name, name_set, index_in, with_names, read_value, read_condition, read_word, read_until, read_swap_value, begins_swap, begins_word, begins_access, read_brackets, is_no_word, read_test, is_looping, first_size, down_at_front, read_members}
use Rattle.algorithm_texts.specs.NeverClaims.{FactsRead, begins_test, first_name, no_facts, phase_words, read_facts, read_processes, read_value_fact, with_token, without_rows}
use Rattle.algorithm_texts.specs.PromiseLines.{PromisesSaid, empty_scope, first_promises, promise_at_front, promise_parts, read_most_inside, with_promise}
use Rattle.algorithm_texts.specs.TextDrafts.{call_words, undeclared_name, is_bound, atoms, owner_tokens, bound_size, read_bound, read_bound_and_start, size_before_home, read_size, read_extent, is_array, end_call, read_head_words}
pub use Rattle.algorithm_texts.specs.PartFaults.{fault_from, new_word_fault, new_name_fault, set_word_fault, name_set_fault, name_read_fault, undeclared_name_fault, begun_fault, headed_fault, rowed_fault, index_fault, followed_fault, token_fault, run_fault, value_fault, brackets_fault, two_indexes_fault, read_index_fault, word_of_fault, named_word_fault, shared_word_fault, value_after_fault, until_fault}

-- ---- swaps

abbrev pub guard_condition_fault : Scope → List (List ℕ) → List Token → ReadFault
guard_condition_fault scope names tokens = value_fault scope names (value_tokens tokens)

abbrev pub guard_fault : Scope → List (List ℕ) → List Token → ReadFault
guard_fault scope names tokens = guard_condition_fault scope names (drop 1 tokens)

abbrev pub swapped_fault : Scope → List (List ℕ) → List Token → ReadFault
swapped_fault scope names inner =
    fault_from (read_value scope names (value_tokens inner)) (value_fault scope names (value_tokens inner))
    (λ v. guard_fault scope v.1 (value_rest inner))

abbrev pub swap_value_fault : Scope → List (List ℕ) → List Token → ReadFault
swap_value_fault scope names tokens = fault_from (past_word tokens (codes "to")) BadForm (swapped_fault scope names)

-- what follows the value and the condition of a swap has no form but that of a deed
abbrev pub swap_word_fault : Drafted → List Token → ReadFault
swap_word_fault d tokens =
    fault_from (read_swap_value (scope_in d) d.names tokens) (swap_value_fault (scope_in d) d.names tokens) (λ r. BadForm)

abbrev pub swap_fault : Drafted → List Token → ReadFault
swap_fault d tokens =
    fault_from (read_word (scope_in d) d.extents d.names tokens) (shared_word_fault (scope_in d) d.extents d.names tokens)
    (λ word. swap_word_fault (with_names word.2 d) word.1)

-- of `until CONDITION`, with what follows it
abbrev pub awaited_fault : Drafted → List Token → ReadFault
awaited_fault d tokens = fault_from (read_until (scope_in d) d.names tokens) (until_fault (scope_in d) d.names tokens) (λ until. BadForm)

abbrev pub await_swap_word_fault : Drafted → List Token → ReadFault
await_swap_word_fault d tokens =
    fault_from (read_swap_value (scope_in d) d.names tokens) (swap_value_fault (scope_in d) d.names tokens)
    (λ r. awaited_fault (with_names r.3 d) r.2)

abbrev pub awaited_swap_fault : Drafted → List Token → ReadFault
awaited_swap_fault d tokens =
    fault_from (read_word (scope_in d) d.extents d.names tokens) (shared_word_fault (scope_in d) d.extents d.names tokens)
    (λ word. await_swap_word_fault (with_names word.2 d) word.1)

-- ---- statements that are no blocks

abbrev pub awaited_load_fault : Drafted → List Token → ReadFault
awaited_load_fault d tokens =
    fault_from (read_word (scope_in d) d.extents d.names tokens) (shared_word_fault (scope_in d) d.extents d.names tokens)
    (λ word. awaited_fault (with_names word.2 d) word.1)

abbrev pub take_await_fault : Drafted → List Token → ReadFault
take_await_fault d tokens = if begins_swap tokens then awaited_swap_fault d (drop 1 tokens) else awaited_load_fault d tokens

abbrev pub await_of_fault : Drafted → List Token → ReadFault
await_of_fault d tokens = fault_from (past_sign tokens Assign) BadForm (take_await_fault d)

abbrev pub await_fault : Drafted → List Token → ReadFault
await_fault d tokens =
    fault_from (name_set (scope_in d) d.names (slice_get tokens 0)) (name_set_fault (scope_in d) (slice_get tokens 0))
    (λ name. await_of_fault (with_names name.1 d) (drop 1 tokens))

-- of `:= VALUE`, with what follows it
abbrev pub stored_fault : Scope → List (List ℕ) → List Token → ReadFault
stored_fault scope names tokens =
    fault_from (past_sign tokens Assign) BadForm
    (λ inner. fault_from (read_value scope names (value_tokens inner)) (value_fault scope names (value_tokens inner)) (λ v. BadForm))

abbrev pub store_fault : Drafted → List Token → ReadFault
store_fault d tokens =
    fault_from (read_word (scope_in d) d.extents d.names tokens) (shared_word_fault (scope_in d) d.extents d.names tokens)
    (λ word. stored_fault (scope_in d) word.2 word.1)

-- of a number or a sign after a word that is loaded: an index too many, or the word is part of a value
abbrev pub loaded_word_fault : Option Token → ReadFault
loaded_word_fault token = if is_the_sign token OpenIndex then BadForm else TwoAccesses

abbrev pub load_fault : Drafted → List Token → ReadFault
load_fault d tokens =
    fault_from (read_word (scope_in d) d.extents d.names tokens) (shared_word_fault (scope_in d) d.extents d.names tokens)
    (λ word. if is_no_word (slice_get word.1 0) then loaded_word_fault (slice_get word.1 0) else BadForm)

-- a deed or `may withdraw` after a line that takes no step
abbrev pub undone_fault : List Token → ReadFault
undone_fault tokens =
    if is_the_word (slice_get tokens 0) (codes "this") || is_the_word (slice_get tokens 0) (codes "may") then BadDeed else BadForm

abbrev pub assigned_value_fault : Drafted → List Token → ReadFault
assigned_value_fault d tokens =
    fault_from (read_value (scope_in d) d.names (value_tokens tokens)) (value_fault (scope_in d) d.names (value_tokens tokens))
    (λ v. undone_fault (value_rest tokens))

abbrev pub assigned_fault : Drafted → List Token → ReadFault
assigned_fault d tokens =
    if begins_swap tokens then swap_fault d (drop 1 tokens)
    else if begins_word (scope_in d) (slice_get tokens 0) (slice_get tokens 1) then load_fault d tokens
    else assigned_value_fault d tokens

abbrev pub set_to_fault : Drafted → List Token → ReadFault
set_to_fault d tokens = fault_from (past_sign tokens Assign) BadForm (assigned_fault d)

abbrev pub private_assignment_fault : Drafted → List Token → ReadFault
private_assignment_fault d tokens =
    fault_from (name_set (scope_in d) d.names (slice_get tokens 0)) (name_set_fault (scope_in d) (slice_get tokens 0))
    (λ name. set_to_fault (with_names name.1 d) (drop 1 tokens))

-- of `[INDEX] := VALUE` after the name of a row
abbrev pub element_set_fault : Drafted → List Token → ReadFault
element_set_fault d tokens =
    fault_from (read_brackets (scope_in d) d.names tokens) (brackets_fault (scope_in d) d.names tokens)
    (λ i. fault_from (past_sign i.1 Assign) BadForm (assigned_value_fault (with_names i.2 d)))

-- of `:= VALUE` after the name of a row: a shared word is not read into a row
abbrev pub all_set_fault : Drafted → List Token → ReadFault
all_set_fault d tokens =
    fault_from (past_sign tokens Assign) BadForm
    (λ rest. if begins_access (scope_in d) rest then NotAssignable else assigned_value_fault d rest)

abbrev pub row_set_fault : Drafted → List Token → ReadFault
row_set_fault d tokens = if is_the_sign (slice_get tokens 0) OpenIndex then element_set_fault d tokens else all_set_fault d tokens

abbrev pub private_set_fault : Drafted → List Token → Option (ℕ × Term) → ReadFault
private_set_fault d tokens (Some row) = row_set_fault d (drop 1 tokens)
private_set_fault d tokens None =
    if is_the_sign (slice_get tokens 1) OpenIndex then UnknownName
    else if is_the_sign (slice_get tokens 1) Assign then private_assignment_fault d tokens
    else BadForm

-- of a line that begins with this word
abbrev pub assigning_fault : Drafted → List Token → List ℕ → ReadFault
assigning_fault d tokens first =
    if is_among d.declared first then store_fault d tokens else private_set_fault d tokens (row_read (scope_in d) first)

abbrev pub assignment_fault : Drafted → List Token → ReadFault
assignment_fault d tokens = fault_from (letters_of (slice_get tokens 0)) BadForm (assigning_fault d tokens)

-- of `goto NAME` and `NAME:`: the name, or what follows it
abbrev pub label_fault : Option Token → ReadFault
label_fault token = fault_from (new_name token) (new_name_fault token) (λ name. BadForm)

abbrev pub simple_fault : Drafted → List Token → ReadFault
simple_fault d tokens =
    if is_the_word (slice_get tokens 0) (codes "goto") then label_fault (slice_get (drop 1 tokens) 0)
    else if is_the_word (slice_get tokens 0) (codes "done") then BadForm
    else if is_the_word (slice_get tokens 0) (codes "this") then BadForm
    else if is_the_word (slice_get tokens 0) (codes "await") then await_fault d (drop 1 tokens)
    else assignment_fault d tokens

-- ---- blocks

-- of `CONDITION then`
abbrev pub test_fault : Drafted → List Token → ReadFault
test_fault d tokens =
    fault_from (read_condition (scope_in d) d.names (value_tokens tokens)) (value_fault (scope_in d) d.names (value_tokens tokens)) (λ c. BadForm)

-- of what follows `then`: a block too deep, a block in the same line, or its statement
abbrev pub then_fault : Drafted → List Token → ReadFault
then_fault d tokens = if is_over tokens then TooBig else if begins_no_simple tokens then BadForm else simple_fault d tokens

abbrev pub branch_fault : Drafted → List Token → ReadFault
branch_fault d tokens = fault_from (read_test d tokens) (test_fault d tokens) (λ test. then_fault test.0 test.1)

-- of a loop with a head of its form: its name is that of a loop round it, or too many blocks or loops are open
abbrev pub loop_fault : ℕ → List Opened → ReadFault
loop_fault name opened = if is_looping name opened then NameTaken else TooBig

-- of the second end of a loop over numbers, after the first one
abbrev pub second_end_fault : Scope → List (List ℕ) → List Token → ReadFault
second_end_fault scope names tokens =
    fault_from (past_word (down_at_front tokens).1 (codes "to")) BadForm
    (λ rest. fault_from (read_value scope names (value_tokens rest)) (value_fault scope names (value_tokens rest)) (λ last. BadForm))

abbrev pub range_fault : Scope → List (List ℕ) → List Token → ReadFault
range_fault scope names tokens =
    fault_from (read_value scope names (take (first_size tokens) tokens)) (value_fault scope names (take (first_size tokens) tokens))
    (λ first. second_end_fault scope first.1 (drop (first_size tokens) tokens))

-- of what a loop goes over
abbrev pub members_fault : Scope → List (List ℕ) → List Token → ReadFault
members_fault scope names tokens = if is_the_word (slice_get tokens 0) (codes "from") then range_fault scope names (drop 1 tokens) else BadForm

-- a declared private name comes before what follows it
abbrev pub for_name_fault : Drafted → ℕ → List Token → ReadFault
for_name_fault d name tokens =
    if nat_lt name d.lasting then NameTaken
    else fault_from (read_members (scope_in d) d.names tokens) (members_fault (scope_in d) d.names tokens) (λ members. loop_fault name d.opened)

abbrev pub for_fault : Drafted → List Token → ReadFault
for_fault d tokens =
    fault_from (name_set (scope_in d) d.names (slice_get tokens 0)) (name_set_fault (scope_in d) (slice_get tokens 0))
    (λ name. for_name_fault (with_names name.1 d) (index_in name.0) (drop 1 tokens))

-- of an `else` in this block. In that of an `if` it has none: one block ends where the other begins
abbrev pub else_after_fault : Block → ReadFault
else_after_fault If = TooBig
else_after_fault Else = BadBlock
else_after_fault (For name) = BadBlock

abbrev pub else_in_fault : List Opened → ReadFault
else_in_fault [] = BadBlock
else_in_fault (o ∷ os) = else_after_fault o.kind

abbrev pub else_fault : Drafted → List Token → ReadFault
else_fault d tokens = if is_over tokens then else_in_fault d.opened else BadForm

abbrev pub end_fault : List Token → ReadFault
end_fault tokens = if is_over tokens then BadBlock else BadForm

-- of a line of a call
abbrev pub statement_fault : Drafted → List Token → ReadFault
statement_fault d tokens =
    if is_the_word (slice_get tokens 0) (codes "if") then branch_fault d (drop 1 tokens)
    else if is_the_word (slice_get tokens 0) (codes "for") then for_fault d (drop 1 tokens)
    else if is_the_word (slice_get tokens 0) (codes "else") then else_fault d (drop 1 tokens)
    else if is_the_word (slice_get tokens 0) (codes "end") then end_fault (drop 1 tokens)
    else if is_the_sign (slice_get tokens 1) Colon then label_fault (slice_get tokens 0)
    else simple_fault d tokens

-- ---- declarations and calls

-- of a bound: the words before it, its value, or what is not of numbers, `procs` and `limit` alone
abbrev pub limit_fault : Scope → List (List ℕ) → List Token → ReadFault
limit_fault scope names tokens =
    fault_from (past_word tokens (codes "up")) BadForm
    (λ up. fault_from (past_word up (codes "to")) BadForm
    (λ rest. fault_from (read_value scope names (value_tokens rest)) (value_fault scope names (value_tokens rest)) (λ v. BadForm)))

-- of a value after this word: the word, `me`, its value, or what is not of its form
abbrev pub owner_value_fault : Scope → Bool → List ℕ → List (List ℕ) → List Token → ReadFault
owner_value_fault scope each word names tokens =
    fault_from (past_word tokens word) BadForm
    (λ rest. if list_any is_me rest then BadForm
    else fault_from (read_value scope names (owner_tokens each (value_tokens rest))) (value_fault scope names (owner_tokens each (value_tokens rest)))
    (λ v. BadForm))

abbrev pub start_fault : Scope → Bool → List (List ℕ) → List Token → ReadFault
start_fault scope each names tokens = owner_value_fault scope each (codes "starts") names tokens

abbrev pub home_fault : Scope → Bool → List (List ℕ) → List Token → ReadFault
home_fault scope each names tokens = owner_value_fault scope each (codes "at") names tokens

-- of a bound and a first value, in this order
abbrev pub bound_and_start_fault : Scope → Bool → List (List ℕ) → List Token → ReadFault
bound_and_start_fault scope each names tokens =
    fault_from (read_bound scope names (take (bound_size tokens) tokens)) (limit_fault scope names (take (bound_size tokens) tokens))
    (λ bound. start_fault scope each bound.1 (drop (bound_size tokens) tokens))

-- of them and a home, in this order
abbrev pub word_values_fault : Scope → Bool → List (List ℕ) → List Token → ReadFault
word_values_fault scope each names tokens =
    fault_from (read_bound_and_start scope each names (take (size_before_home tokens) tokens))
    (bound_and_start_fault scope each names (take (size_before_home tokens) tokens))
    (λ v. home_fault scope each v.2 (drop (size_before_home tokens) tokens))

-- of the sizes of an array
abbrev pub extent_fault : Scope → List (List ℕ) → List Token → ReadFault
extent_fault scope names tokens =
    fault_from (read_size scope names tokens) (brackets_fault scope names tokens) (λ size. brackets_fault scope size.2 size.1)

-- a shared word too many comes before what follows its name
abbrev pub shared_fault : Drafted → List Token → ReadFault
shared_fault d tokens =
    fault_from (undeclared_name (scope_in d) d.names (slice_get tokens 0)) (undeclared_name_fault (slice_get tokens 0))
    (λ name. if nat_lt (length d.declared) 64
    then fault_from (read_extent (scope_in d) d.names (drop 1 tokens)) (extent_fault (scope_in d) d.names (drop 1 tokens))
    (λ extent. word_values_fault (scope_in d) (is_array extent.0) extent.2 extent.1)
    else TooBig)

-- of the size of a row, or too many names
abbrev pub row_fault : Drafted → List Token → ReadFault
row_fault d tokens =
    fault_from (read_size (scope_in d) d.names tokens) (brackets_fault (scope_in d) d.names tokens)
    (λ size. if nat_le (length d.names + 16) 64 then BadForm else TooBig)

-- a private name too many comes before what follows it
abbrev pub single_fault : Drafted → ReadFault
single_fault d = if nat_lt (length d.names) 64 then BadForm else TooBig

abbrev pub private_fault : Drafted → List Token → ReadFault
private_fault d tokens =
    fault_from (undeclared_name (scope_in d) d.names (slice_get tokens 0)) (undeclared_name_fault (slice_get tokens 0))
    (λ name. if is_the_sign (slice_get tokens 1) OpenIndex then row_fault d (drop 1 tokens) else single_fault d)

-- of the value of a constant: one of numbers, `procs` and `limit` alone is too long, another has no form
abbrev pub constant_form_fault : Term → ReadFault
constant_form_fault v = if is_bound v && nat_lt 16 (atoms v) then TooBig else BadForm

abbrev pub constant_value_fault : Scope → List (List ℕ) → List Token → ReadFault
constant_value_fault scope names tokens =
    fault_from (past_sign tokens (Comparison Equal)) BadForm
    (λ rest. fault_from (read_value scope names (value_tokens rest)) (value_fault scope names (value_tokens rest)) (λ v. constant_form_fault v.0))

abbrev pub constant_fault : Drafted → List Token → ReadFault
constant_fault d tokens =
    fault_from (undeclared_name (scope_in d) d.names (slice_get tokens 0)) (undeclared_name_fault (slice_get tokens 0))
    (λ name. constant_value_fault (scope_in d) d.names (drop 1 tokens))

-- ---- claims

-- of a second process: the comma, the name, or the colon
abbrev pub second_process_fault : Scope → List (List ℕ) → List Token → ReadFault
second_process_fault scope names tokens =
    fault_from (past_sign tokens Comma) BadForm
    (λ rest. fault_from (undeclared_name scope names (slice_get rest 0)) (undeclared_name_fault (slice_get rest 0)) (λ name. BadForm))

abbrev pub named_processes_fault : Scope → List Token → ReadFault
named_processes_fault scope tokens =
    fault_from (undeclared_name scope [] (slice_get tokens 0)) (undeclared_name_fault (slice_get tokens 0))
    (λ name. second_process_fault scope (name ∷ []) (drop 1 tokens))

-- of a shared word in a claim: the word, a name in its index that is not known, or one name too many
abbrev pub word_fact_fault : Drafted → FactsRead → ReadFault
word_fact_fault d r =
    fault_from (read_word (scope_in d) d.extents r.names r.tokens) (shared_word_fault (scope_in d) d.extents r.names r.tokens)
    (λ word. if length word.2 == length r.names then TooBig else UnknownName)

-- of the name before `is` or `at`: no name, or one that is not known
abbrev pub first_name_fault : FactsRead → ReadFault
first_name_fault r = fault_from (letters_of (slice_get r.tokens 0)) BadForm (λ word. UnknownName)

abbrev pub phase_fact_fault : FactsRead → ReadFault
phase_fact_fault r =
    fault_from (first_name r) (first_name_fault r) (λ name. fault_from (named_by phase_words (slice_get r.tokens 2)) BadForm (λ phase. TooBig))

abbrev pub place_fact_fault : FactsRead → ReadFault
place_fact_fault r =
    fault_from (first_name r) (first_name_fault r)
    (λ name. fault_from (new_name (slice_get r.tokens 2)) (new_name_fault (slice_get r.tokens 2)) (λ label. TooBig))

abbrev pub test_fact_fault : FactsRead → ReadFault
test_fact_fault r = if is_the_word (slice_get r.tokens 1) (codes "is") then phase_fact_fault r else place_fact_fault r

abbrev pub fact_fault : Drafted → Token → FactsRead → ReadFault
fact_fault d token r = fault_from (read_value_fact d (with_token token r)) (word_fact_fault d (with_token token r)) test_fact_fault

-- of the last token that can not be read
abbrev pub facts_fault : Drafted → FactsRead → List Token → ReadFault
facts_fault d r [] = BadForm
facts_fault d r (token ∷ tokens) = fault_from (read_facts d r (begins_test token) tokens) (facts_fault d r tokens) (fact_fault d token)

-- of the condition between facts: a name that is not known, where it has a form
abbrev pub claimed_condition_fault : Drafted → FactsRead → ReadFault
claimed_condition_fault d r =
    fault_from (read_condition (scope_in d) r.names r.tokens) (value_fault (scope_in d) r.names r.tokens) (λ c. UnknownName)

abbrev pub claim_fault : Drafted → List Token → ReadFault
claim_fault d tokens =
    if list_any is_me tokens then BadForm
    else fault_from (read_facts d (no_facts d) false tokens) (facts_fault d (no_facts d) tokens) (claimed_condition_fault d)

abbrev pub never_fault : Drafted → List Token → ReadFault
never_fault d tokens =
    fault_from (read_processes (scope_in (without_rows d)) tokens) (named_processes_fault (scope_in (without_rows d)) (drop 1 tokens))
    (λ processes. claim_fault (with_names processes.0 (without_rows d)) processes.1)

abbrev pub declaration_fault : Drafted → List Token → ReadFault
declaration_fault d tokens =
    if is_the_word (slice_get tokens 0) (codes "shared") then shared_fault d (drop 1 tokens)
    else if is_the_word (slice_get tokens 0) (codes "private") then private_fault d (drop 1 tokens)
    else if is_the_word (slice_get tokens 0) (codes "constant") then constant_fault d (drop 1 tokens)
    else if is_the_word (slice_get tokens 0) (codes "never") then never_fault d (drop 1 tokens)
    else BadForm

-- a block that is open comes first, then the form, then a call that is there already
abbrev pub call_fault : Drafted → List Token → ℕ → ReadFault
call_fault d tokens last =
    fault_from (end_call last d) BadBlock
    (λ now. fault_from (named_by call_words (slice_get tokens 0)) BadForm (λ call. if is_over (drop 1 tokens) then BadCall else BadForm))

-- of a line after the first two, where the line before it has this number
abbrev pub line_fault : Drafted → List Token → ℕ → ReadFault
line_fault d tokens last =
    if is_the_word (slice_get tokens 0) (codes "call") then call_fault d (drop 1 tokens) last
    else if length d.calls == 0 then declaration_fault d tokens
    else statement_fault d tokens

-- ---- the first two lines

-- no header, or a number of processes out of range
abbrev pub head_fault : List Token → ReadFault
head_fault tokens = fault_from (read_head_words tokens) NoHeader (λ h. TooBig)

-- of the value of a bound on own steps: the value, or what is not of numbers, `procs` and `limit` alone
abbrev pub step_bound_fault : List Token → ReadFault
step_bound_fault tokens = fault_from (read_value empty_scope [] (value_tokens tokens)) (value_fault empty_scope [] (value_tokens tokens)) (λ v. BadForm)

abbrev pub within_fault : List Token → ReadFault
within_fault tokens = fault_from (past_word tokens (codes "within")) BadForm step_bound_fault

-- a bound that is there already comes before another one
abbrev pub new_bound_fault : Option Term → List Token → ReadFault
new_bound_fault before tokens = if is_some before then BadForm else within_fault tokens

abbrev pub doorway_fault : PromisesSaid → List Token → ReadFault
doorway_fault p tokens = if p.promises.order then new_bound_fault p.step_bounds.doorway tokens else BadForm

abbrev pub promise_fault : PromisesSaid → List Token → ReadFault
promise_fault p tokens =
    if is_the_word (slice_get tokens 0) (codes "exit") then new_bound_fault p.step_bounds.exit (drop 1 tokens)
    else if is_the_word (slice_get tokens 0) (codes "recovery") then new_bound_fault p.step_bounds.recovery (drop 1 tokens)
    else if is_the_word (slice_get tokens 0) (codes "doorway") then doorway_fault p (drop 1 tokens)
    else BadForm

-- of the first part that is no promise
abbrev pub promises_list_fault : PromisesSaid → List (List Token) → ReadFault
promises_list_fault p [] = BadForm
promises_list_fault p (part ∷ parts) = fault_from (with_promise p part) (promise_fault p part) (λ q. promises_list_fault q parts)

abbrev pub more_fault : PromisesSaid → List Token → ReadFault
more_fault p tokens =
    if is_over tokens then BadForm else fault_from (past_sign tokens Comma) BadForm (λ rest. promises_list_fault p (promise_parts rest))

abbrev pub further_promises_fault : ℕ → List Token → ReadFault
further_promises_fault most_inside tokens =
    let reentry = promise_at_front tokens (codes "reentry") in
    let order = promise_at_front reentry.1 (codes "order") in
    more_fault (first_promises most_inside reentry.0 order.0) order.1

-- no promises, or others
abbrev pub promises_fault : List Token → ReadFault
promises_fault tokens =
    fault_from (past_word tokens (codes "promises")) NoHeader
    (λ rest. fault_from (past_word rest (codes "exclusion")) BadForm
    (λ more. fault_from (read_most_inside more) BadForm (λ most. further_promises_fault most.0 most.1)))
