-- The grammar of values and conditions: what their tokens say, as a tree that keeps each bracket.
use Rattle.std.specs.Prelude.{◌≡◌, ℕ, ◌+◌, ◌≤◌, max, nat_lt, Bool, ◌||◌, List, [], ◌∷◌, ◌++◌, length, slice_get, Option, Some, None, is_some, if◌then◌else◌, codes, bytes_eq, position}
use Rattle.std.specs.List.{list_any}
use Rattle.algorithms.specs.declared.expression.Operator.{Operator}
use Rattle.algorithms.specs.declared.expression.Operator.TheVariants.{Sum, Difference, Product, Quotient, Remainder, Maximum, Minimum, Within}
use Rattle.algorithm_texts.specs.declared.tokens.Sign.TheVariants.{Open, Close, OpenIndex, CloseIndex, Comma, Operator as OperatorSign, Comparison as ComparisonSign}
use Rattle.algorithm_texts.specs.declared.tokens.Token.{Token}
use Rattle.algorithm_texts.specs.declared.tokens.Token.TheVariants.{Number as NumberToken, Word, Sign}
use Rattle.algorithm_texts.specs.declared.operands.Bracket.{Bracket}
use Rattle.algorithm_texts.specs.declared.operands.Bracket.TheVariants.{Plain, Not, Max, Min}
use Rattle.algorithm_texts.specs.declared.operands.Joint.{Joint}
use Rattle.algorithm_texts.specs.declared.operands.Joint.TheVariants.{Operator as ByOperator, Comparison as ByComparison, And, Or}
use Rattle.algorithm_texts.specs.Parts.{Term, Number, Private, Element, Me, Procs, Limit, Joined, OperandPart, Value, value_in, join_of, enclosed_part, enclosed_two, ◌>>=◌}

-- ---- trees and their tokens

-- a number, a word, a value of a row by its index, one or two parts in brackets after the word before them, or two parts with an
-- operator between them
pub data Tree : Type 0 where
  Numeral : ℕ → Tree
  Name : List ℕ → Tree
  Indexed : List ℕ → Tree → Tree
  One : Bracket → Tree → Tree
  Two : Bracket → Tree → Tree → Tree
  Between : Joint → Tree → Tree → Tree

-- the word before a bracket, if there is one
abbrev pub head_tokens : Bracket → List Token
head_tokens Plain = []
head_tokens Not = Word (codes "not") ∷ []
head_tokens Max = Word (codes "max") ∷ []
head_tokens Min = Word (codes "min") ∷ []

-- what is written between two parts
abbrev pub joint_token : Joint → Token
joint_token (ByOperator o) = Sign (OperatorSign o)
joint_token (ByComparison c) = Sign (ComparisonSign c)
joint_token And = Word (codes "and")
joint_token Or = Word (codes "or")

-- the tokens of a tree
abbrev pub tokens_of_tree : Tree → List Token
tokens_of_tree (Numeral n) = NumberToken n ∷ []
tokens_of_tree (Name word) = Word word ∷ []
tokens_of_tree (Indexed word tree) = Word word ∷ (Sign OpenIndex ∷ (tokens_of_tree tree ++ (Sign CloseIndex ∷ [])))
tokens_of_tree (One head tree) = head_tokens head ++ (Sign Open ∷ (tokens_of_tree tree ++ (Sign Close ∷ [])))
tokens_of_tree (Two head a b) = head_tokens head ++ (Sign Open ∷ (tokens_of_tree a ++ (Sign Comma ∷ (tokens_of_tree b ++ (Sign Close ∷ [])))))
tokens_of_tree (Between joint a b) = tokens_of_tree a ++ (joint_token joint ∷ tokens_of_tree b)

-- ---- which trees are meant: stronger operators bind first, and equal ones from the left

abbrev pub operator_strength : Operator → ℕ
operator_strength Sum = 4
operator_strength Difference = 4
operator_strength Product = 5
operator_strength Quotient = 5
operator_strength Remainder = 5
operator_strength Maximum = 5
operator_strength Minimum = 5
operator_strength Within = 5

abbrev pub strength : Joint → ℕ
strength Or = 1
strength And = 2
strength (ByComparison c) = 3
strength (ByOperator o) = operator_strength o

-- each operator outside of brackets is at least this strong, and its parts are bound by stronger ones, or the left one by equal
-- ones
abbrev pub Binds : ℕ → Tree → Type 0
Binds least (Numeral n) = Unit {0}
Binds least (Name word) = Unit {0}
Binds least (Indexed word tree) = Binds 1 tree
Binds least (One head tree) = Binds 1 tree
Binds least (Two head a b) = Binds 1 a × Binds 1 b
Binds least (Between joint a b) = (least ≤ strength joint) × Binds (strength joint) a × Binds (strength joint + 1) b

-- how deep brackets stand in one another
abbrev pub depth : Tree → ℕ
depth (Numeral n) = 0
depth (Name word) = 0
depth (Indexed word tree) = depth tree + 1
depth (One head tree) = depth tree + 1
depth (Two head a b) = max (depth a) (depth b) + 1
depth (Between joint a b) = max (depth a) (depth b)

-- ---- what trees mean

-- a row of private names: its name, the first of its names, and its size
pub record DraftRow : Type 0 where
  pub name : List ℕ
  pub first : ℕ
  pub size : Term

-- the names that a text knows: the words of the format, the constants with their values, the rows of private names, the shared words
-- that are declared, and how many private names there may be
pub record Scope : Type 0 where
  pub reserved : List (List ℕ)
  pub constants : List (List ℕ × Term)
  pub rows : List DraftRow
  pub declared : List (List ℕ)
  pub most : ℕ

abbrev pub is_among : List (List ℕ) → List ℕ → Bool
is_among names word = list_any (λ name. bytes_eq name word) names

-- a row has this name
abbrev pub is_row_of : List ℕ → DraftRow → Bool
is_row_of word row = bytes_eq row.name word

abbrev pub is_row_name : List DraftRow → List ℕ → Bool
is_row_name rows word = is_some (position (is_row_of word) rows)

-- the first name of the row of this name, and its size
abbrev pub row_named : List DraftRow → List ℕ → Option (ℕ × Term)
row_named rows word = do
  k ← position (is_row_of word) rows
  row ← slice_get rows k
  Some (row.first, row.size)

-- the row that a word of a value names. It is no word of the format
abbrev pub row_read : Scope → List ℕ → Option (ℕ × Term)
row_read scope word = if is_among scope.reserved word then None else row_named scope.rows word

-- a value of a row of this size, by its index, which is within the size
abbrev pub element_within : ℕ → Term → Term → Term
element_within first size i = Element first (Joined Within i size)

abbrev pub element_part : ℕ → Term → OperandPart → Option OperandPart
element_part first size index = do
  i ← value_in index
  Some (Value (element_within first size i))

-- a private name: the place where it stands, else a new one at the end
abbrev pub private_name_part : ℕ → List (List ℕ) → List ℕ → Option ℕ → Option (OperandPart × List (List ℕ))
private_name_part most names word (Some k) = Some (Value (Private k), names)
private_name_part most names word None = if nat_lt (length names) most then Some (Value (Private (length names)), names ++ word ∷ []) else None

-- a constant, which is a name with its value, has this name
abbrev pub is_name_of : List ℕ → List ℕ × Term → Bool
is_name_of word constant = bytes_eq constant.0 word

-- a constant has this name
abbrev pub is_constant_name : List (List ℕ × Term) → List ℕ → Bool
is_constant_name constants word = list_any (is_name_of word) constants

-- the value of the constant of this name
abbrev pub constant_named : List (List ℕ × Term) → List ℕ → Option Term
constant_named constants word = do
  k ← position (is_name_of word) constants
  c ← slice_get constants k
  Some c.1

-- what a name is as a value: the value of a constant, else a private name
abbrev pub named_part : Scope → List (List ℕ) → List ℕ → Option Term → Option (OperandPart × List (List ℕ))
named_part scope names word (Some value) = Some (Value value, names)
named_part scope names word None = private_name_part scope.most names word (position (λ name. bytes_eq name word) names)

-- what a word is as a value, and the private names after it. The name of a row alone is none
abbrev pub word_value : Scope → List (List ℕ) → List ℕ → Option (OperandPart × List (List ℕ))
word_value scope names word =
    if bytes_eq word (codes "me") then Some (Value Me, names)
    else if bytes_eq word (codes "procs") then Some (Value Procs, names)
    else if bytes_eq word (codes "limit") then Some (Value Limit, names)
    else if is_among scope.reserved word || (is_among scope.declared word || is_row_name scope.rows word) then None
    else named_part scope names word (constant_named scope.constants word)

-- what a tree means, and the private names after it. None where a part is not of the kind that is needed there
abbrev pub meaning : Scope → Tree → List (List ℕ) → Option (OperandPart × List (List ℕ))
meaning scope (Numeral n) names = Some (Value (Number n), names)
meaning scope (Name word) names = word_value scope names word
meaning scope (Indexed word tree) names = do
  row ← row_read scope word
  x ← meaning scope tree names
  part ← element_part row.0 row.1 x.0
  Some (part, x.1)
meaning scope (One head tree) names = do
  x ← meaning scope tree names
  part ← enclosed_part head x.0
  Some (part, x.1)
meaning scope (Two head a b) names = do
  x ← meaning scope a names
  y ← meaning scope b x.1
  part ← enclosed_two head x.0 y.0
  Some (part, y.1)
meaning scope (Between joint a b) names = do
  x ← meaning scope a names
  y ← meaning scope b x.1
  part ← join_of joint x.0 y.0
  Some (part, y.1)

-- the tokens say this value, pair or condition, with these private names before it and after it
pub record Says (scope : Scope) (names : List (List ℕ)) (tokens : List Token) (part : OperandPart) (after : List (List ℕ)) : Type 0 where
  pub tree : Tree
  pub tokens_of : tokens ≡ tokens_of_tree tree
  pub binds : Binds 1 tree
  pub shallow : depth tree ≤ 16
  pub means : meaning scope tree names ≡ Some (part, after)
