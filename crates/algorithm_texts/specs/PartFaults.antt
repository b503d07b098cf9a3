-- The fault of a part of a line that has no form. A line is read from the left: the first part that is not what is expected there
-- decides.
use Rattle.std.specs.Prelude.{ℕ, List, [], ◌∷◌, drop, slice_get, Option, Some, None, if◌then◌else◌, codes, bytes_eq, position}
use Rattle.algorithms.specs.declared.fault.ReadFault.{ReadFault}
use Rattle.algorithms.specs.declared.fault.ReadFault.TheVariants.{BadForm, NameTaken, UnknownName, TwoAccesses, NotAssignable, TooBig}
use Rattle.algorithm_texts.specs.declared.tokens.Sign.TheVariants.{Open, OpenIndex}
use Rattle.algorithm_texts.specs.declared.tokens.Token.{Token}
use Rattle.algorithm_texts.specs.declared.tokens.Token.TheVariants.{Number as NumberToken, Word, Sign}
use Rattle.algorithm_texts.specs.Parts.{Number, Private, Element, Me, Procs, Limit, Joined, OperandPart, Value, Pair, Condition}
use Rattle.algorithm_texts.specs.Grammar.{Scope, is_among, is_row_name}
use Rattle.algorithm_texts.specs.Stacks.{NextToken, Begins, Heads, Indexes, Follows, OperandReading, reading, turn}
use Rattle.algorithm_texts.specs.Fronts.{letters_of, past_word, past_sign, value_tokens}
use Rattle.algorithm_texts.specs.Drafts.{DraftExtent, OneWord, OfProcesses, OfSize, OfRows}
use Rattle.algorithm_texts.specs.LineDrafts.{is_constant, has_declaration, new_name, read_value, extent_or_one, read_brackets}

-- the fault of a part, where nothing is made of it, else that of what follows it
abbrev pub fault_from : {A : Type 0} → Option A → ReadFault → (A → ReadFault) → ReadFault
fault_from None fault following = fault
fault_from (Some x) fault following = following x

-- ---- names

-- of a word of the format where a new name is needed: its numbers are never set, its other words are taken
abbrev pub new_word_fault : List ℕ → ReadFault
new_word_fault word = if is_constant word then NotAssignable else NameTaken

abbrev pub new_name_fault : Option Token → ReadFault
new_name_fault token = fault_from (letters_of token) BadForm new_word_fault

-- of a name that can't be set: a constant, a row, a shared word, or one private name too many
abbrev pub set_word_fault : Scope → List ℕ → ReadFault
set_word_fault scope word = if has_declaration scope word then NotAssignable else TooBig

abbrev pub name_set_fault : Scope → Option Token → ReadFault
name_set_fault scope token = fault_from (new_name token) (new_name_fault token) (set_word_fault scope)

-- of a word that is no value: a word of the format, a shared word, the name of a row, or one private name too many
abbrev pub name_read_fault : Scope → List ℕ → ReadFault
name_read_fault scope word =
    if is_among scope.reserved word then BadForm
    else if is_among scope.declared word then TwoAccesses
    else if is_row_name scope.rows word then BadForm
    else TooBig

abbrev pub undeclared_name_fault : Option Token → ReadFault
undeclared_name_fault token = fault_from (new_name token) (new_name_fault token) (λ word. NameTaken)

-- ---- values and conditions: the first token that does not go on with a value or a condition

-- where a part begins: a word that is no value, or one bracket too deep
abbrev pub begun_fault : Scope → Token → ReadFault
begun_fault scope (NumberToken n) = BadForm
begun_fault scope (Word word) = name_read_fault scope word
begun_fault scope (Sign Open) = TooBig
begun_fault scope (Sign other) = BadForm

-- after the word before a bracket
abbrev pub headed_fault : Token → ReadFault
headed_fault (Sign Open) = TooBig
headed_fault other = BadForm

-- after the name of a row
abbrev pub rowed_fault : Token → ReadFault
rowed_fault (Sign OpenIndex) = TooBig
rowed_fault other = BadForm

-- of an index after a value: after a name it would be that of a shared word which is not declared
abbrev pub index_fault : OperandPart → ReadFault
index_fault (Value (Private k)) = UnknownName
index_fault (Value (Number n)) = BadForm
index_fault (Value (Element row i)) = BadForm
index_fault (Value Me) = BadForm
index_fault (Value Procs) = BadForm
index_fault (Value Limit) = BadForm
index_fault (Value (Joined o a b)) = BadForm
index_fault (Pair a b) = BadForm
index_fault (Condition c) = BadForm

-- after a part
abbrev pub followed_fault : OperandPart → Token → ReadFault
followed_fault part (Sign OpenIndex) = index_fault part
followed_fault part other = BadForm

abbrev pub token_fault : Scope → NextToken → Token → ReadFault
token_fault scope Begins token = begun_fault scope token
token_fault scope (Heads head) token = headed_fault token
token_fault scope (Indexes first size) token = rowed_fault token
token_fault scope (Follows part) token = followed_fault part token

-- of the first token that is not taken, or of what is left open at the end
abbrev pub run_fault : Scope → List Token → OperandReading → ReadFault
run_fault scope [] r = BadForm
run_fault scope (token ∷ tokens) r = fault_from (turn scope r token) (token_fault scope r.next token) (run_fault scope tokens)

abbrev pub value_fault : Scope → List (List ℕ) → List Token → ReadFault
value_fault scope names tokens = run_fault scope tokens (reading names [] Begins)

-- ---- parts of a line

-- of an index in brackets, or of its lack
abbrev pub brackets_fault : Scope → List (List ℕ) → List Token → ReadFault
brackets_fault scope names tokens =
    fault_from (past_sign tokens OpenIndex) BadForm
    (λ inner. fault_from (read_value scope names (value_tokens inner)) (value_fault scope names (value_tokens inner)) (λ v. BadForm))

abbrev pub two_indexes_fault : Scope → List (List ℕ) → List Token → ReadFault
two_indexes_fault scope names tokens =
    fault_from (read_brackets scope names tokens) (brackets_fault scope names tokens) (λ i. brackets_fault scope i.2 i.1)

abbrev pub read_index_fault : Scope → DraftExtent → List (List ℕ) → List Token → ReadFault
read_index_fault scope OneWord names tokens = BadForm
read_index_fault scope OfProcesses names tokens = brackets_fault scope names tokens
read_index_fault scope (OfSize size) names tokens = brackets_fault scope names tokens
read_index_fault scope (OfRows size columns) names tokens = two_indexes_fault scope names tokens

abbrev pub word_of_fault : Scope → List DraftExtent → List (List ℕ) → List Token → ℕ → ReadFault
word_of_fault scope extents names tokens k = read_index_fault scope (extent_or_one (slice_get extents k)) names (drop 1 tokens)

abbrev pub named_word_fault : Scope → List DraftExtent → List (List ℕ) → List Token → List ℕ → ReadFault
named_word_fault scope extents names tokens name =
    fault_from (position (λ other. bytes_eq other name) scope.declared) UnknownName (word_of_fault scope extents names tokens)

-- of a shared word: no name, a name that is not declared, or an index
abbrev pub shared_word_fault : Scope → List DraftExtent → List (List ℕ) → List Token → ReadFault
shared_word_fault scope extents names tokens =
    fault_from (letters_of (slice_get tokens 0)) BadForm (named_word_fault scope extents names tokens)

-- of `until CONDITION`, and of `to VALUE`: the word, or what follows it
abbrev pub value_after_fault : Scope → List (List ℕ) → List Token → List ℕ → ReadFault
value_after_fault scope names tokens word =
    fault_from (past_word tokens word) BadForm (λ inner. value_fault scope names (value_tokens inner))

abbrev pub until_fault : Scope → List (List ℕ) → List Token → ReadFault
until_fault scope names tokens = value_after_fault scope names tokens (codes "until")
