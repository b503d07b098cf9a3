-- The reader of values and conditions, without its memory.
use Rattle.std.specs.Prelude.{◌≡◌, ◌⊎◌, ℕ, List, map, reverse, Option, Some, None, Result, Ok, Err, string_bytes}
use Rattle.algorithms.specs.declared.algorithm.Algorithm.{Algorithm}
use Rattle.algorithms.specs.declared.algorithm.NamedRow.{NamedRow}
use Rattle.algorithms.specs.declared.condition.Condition.{Condition}
use Rattle.algorithms.specs.declared.expression.Expression.{Expression}
use Rattle.algorithms.specs.declared.fault.ReadFault.{ReadFault}
use Rattle.algorithms.specs.declared.fault.ReadFault.TheVariants.{OutOfMemory, BadForm}
use Rattle.algorithm_texts.specs.declared.operands.Operand.{Operand}
use Rattle.algorithm_texts.specs.declared.stack.StackPlace.{StackPlace}
use Rattle.algorithm_texts.specs.declared.stack.StackPlace.TheVariants.{Start, Head, Row, After}
use Rattle.algorithm_texts.specs.declared.stack.Stack.{Stack}
use Rattle.algorithm_texts.specs.declared.stack.Waiting.{Waiting}
use Rattle.algorithm_texts.specs.declared.stack.Waiting.TheVariants.{Joint, Bracket, Half, Index}
use Rattle.algorithm_texts.specs.Parts.{OperandPart, Value, Condition as ConditionPart, Private, Term, Formula, part_of, term_of, formula_of}
use Rattle.algorithm_texts.specs.declared.names.TheConstants.{RESERVED}
use Rattle.algorithm_texts.specs.declared.tokens.Token.{Token}
use Rattle.algorithm_texts.specs.Grammar.{Scope, DraftRow, Says}
use Rattle.algorithm_texts.specs.Stacks.{Waits, Joining, Opened, Halfway, Indexing, NextToken, Begins, Heads, Indexes, Follows, OperandReading, reading}

abbrev pub waits_of : Waiting → Waits
waits_of (Joint left joint) = Joining (part_of left) joint
waits_of (Bracket head) = Opened head
waits_of (Half head first) = Halfway head (part_of first)
waits_of (Index first size) = Indexing first (term_of size)

-- what waits, the last first
unfoldable pub stack_of : Stack → List Waits
stack_of stack = reverse (map waits_of stack.all.items)

abbrev pub next_of : StackPlace → NextToken
next_of Start = Begins
next_of (Head head) = Heads head
next_of (Row first size) = Indexes first (term_of size)
next_of (After part) = Follows (part_of part)

-- there is nothing, and the fault is of this kind, or memory runs out
abbrev pub RefusesAs : {A : Type 0} → ReadFault → Option A → ReadFault → Type 0
RefusesAs fault o kind = (fault ≡ OutOfMemory) ⊎ ((o ≡ None) × (fault ≡ kind))

-- what a function returns is what the definition gives, where that is something. Else its fault is of a kind, which is given or
-- that of no form

abbrev pub Makes : Result Operand ReadFault → Option OperandPart → Type 0
Makes (Ok operand) o = o ≡ Some (part_of operand)
Makes (Err fault) o = RefusesAs fault o BadForm

abbrev pub MakesValue : Result Expression ReadFault → Option Term → Type 0
MakesValue (Ok value) o = o ≡ Some (term_of value)
MakesValue (Err fault) o = RefusesAs fault o BadForm

abbrev pub MakesCondition : Result Condition ReadFault → Option Formula → Type 0
MakesCondition (Ok condition) o = o ≡ Some (formula_of condition)
MakesCondition (Err fault) o = RefusesAs fault o BadForm

abbrev pub Reduces : List Waits → Result Operand ReadFault → Option (List Waits × OperandPart) → Type 0
Reduces ws (Ok operand) o = o ≡ Some (ws, part_of operand)
Reduces ws (Err fault) o = RefusesAs fault o BadForm

abbrev pub Turns : List (List ℕ) → List Waits → Result StackPlace ReadFault → Option OperandReading → ReadFault → Type 0
Turns names ws (Ok place) o kind = o ≡ Some (reading names ws (next_of place))
Turns names ws (Err fault) o kind = RefusesAs fault o kind

abbrev pub MakesWord : List (List ℕ) → Result Expression ReadFault → Option (OperandPart × List (List ℕ)) → ReadFault → Type 0
MakesWord names (Ok value) o kind = o ≡ Some (Value (term_of value), names)
MakesWord names (Err fault) o kind = RefusesAs fault o kind

abbrev pub MakesName : List (List ℕ) → Result ℕ ReadFault → Option (OperandPart × List (List ℕ)) → ReadFault → Type 0
MakesName names (Ok k) o kind = o ≡ Some (Value (Private k), names)
MakesName names (Err fault) o kind = RefusesAs fault o kind

abbrev pub EndsOperand : List (List ℕ) → Result Operand ReadFault → Option (OperandPart × List (List ℕ)) → Type 0
EndsOperand names (Ok operand) o = o ≡ Some (part_of operand, names)
EndsOperand names (Err fault) o = RefusesAs fault o BadForm

abbrev pub ReadsOperand : List (List ℕ) → Result Operand ReadFault → Option (OperandPart × List (List ℕ)) → ReadFault → Type 0
ReadsOperand names (Ok operand) o kind = o ≡ Some (part_of operand, names)
ReadsOperand names (Err fault) o kind = RefusesAs fault o kind

-- ---- the names of an algorithm

abbrev pub names_of : Algorithm → List (List ℕ)
names_of a = map (λ name. string_bytes name) a.names.items

abbrev pub declared_of : Algorithm → List (List ℕ)
declared_of a = map (λ d. string_bytes d.name) a.declarations.items

-- the constants, with their values
abbrev pub named_constants : Algorithm → List (List ℕ × Term)
named_constants a = map (λ c. (string_bytes c.name, term_of c.value)) a.constants.items

-- the rows of private names
abbrev pub row_of : NamedRow → DraftRow
row_of row = record { name = string_bytes row.name; first = row.first; size = term_of row.size }

-- the first name of a row and its size
abbrev pub row_term : ℕ × Expression → ℕ × Term
row_term row = (row.0, term_of row.1)

abbrev pub rows_of : Algorithm → List DraftRow
rows_of a = map row_of a.rows.items

-- the words of the format
unfoldable pub reserved : List (List ℕ)
reserved = map (λ word. word.now) RESERVED

-- what a text knows that has come so far
abbrev pub scope_of : Algorithm → Scope
scope_of a = record { reserved = reserved; constants = named_constants a; rows = rows_of a; declared = declared_of a; most = 64 }

-- the tokens say no value, and no condition
abbrev pub SayNoValue : Scope → List (List ℕ) → List Token → Type 0
SayNoValue scope names tokens = (v : Term) (after : List (List ℕ)) → Says scope names tokens (Value v) after → ⊥

abbrev pub SayNoCondition : Scope → List (List ℕ) → List Token → Type 0
SayNoCondition scope names tokens = (c : Formula) (after : List (List ℕ)) → Says scope names tokens (ConditionPart c) after → ⊥

-- tokens say one thing
abbrev pub SayOnePart : Type 0
SayOnePart = (a : Algorithm) (names after now : List (List ℕ)) (tokens : List Token) (p q : OperandPart)
    → Says (scope_of a) names tokens p after → Says (scope_of a) names tokens q now → (p ≡ q) × (after ≡ now)
