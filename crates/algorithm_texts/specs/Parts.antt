-- Values and conditions without their memory, and what joins them.
use Rattle.std.specs.Prelude.{ℕ, Bool, true, false, ◌&&◌, Option, Some, None, option_and_then}
use Rattle.algorithms.specs.declared.condition.Comparison.{Comparison}
use Rattle.algorithms.specs.declared.condition.Condition.{Condition as ConditionOf, Compare as CompareOf, ComparePairs as ComparePairsOf, And' as AndOf, Or' as OrOf, Not' as NotOf}
use Rattle.algorithms.specs.declared.expression.Expression.{Expression as ValueOf, Number as NumberOf, Private as PrivateOf, Element' as ElementOf, Me as MeOf, Procs as ProcsOf, Limit as LimitOf, Joined' as JoinedOf}
use Rattle.algorithms.specs.declared.expression.Operator.{Operator}
use Rattle.algorithms.specs.declared.expression.Operator.TheVariants.{Maximum, Minimum}
use Rattle.algorithm_texts.specs.declared.operands.Bracket.{Bracket}
use Rattle.algorithm_texts.specs.declared.operands.Bracket.TheVariants.{Plain, Not, Max, Min}
use Rattle.algorithm_texts.specs.declared.operands.Joint.{Joint}
use Rattle.algorithm_texts.specs.declared.operands.Joint.TheVariants.{Operator as ByOperator, Comparison as ByComparison, And, Or}
use Rattle.algorithm_texts.specs.declared.operands.Operand.{Operand}
use Rattle.algorithm_texts.specs.declared.operands.Operand.TheVariants.{Value as ValueIn, Pair as PairIn, Condition as ConditionIn}

infixl 10 ◌>>=◌
abbrev pub ◌>>=◌ : {A B : Type 0} → Option A → (A → Option B) → Option B
o >>= f = option_and_then f o

-- a value
pub data Term : Type 0 where
  Number : ℕ → Term
  Private : ℕ → Term
  Element : ℕ → Term → Term
  Me : Term
  Procs : Term
  Limit : Term
  Joined : Operator → Term → Term → Term

-- a condition
pub data Formula : Type 0 where
  Compare : Comparison → Term → Term → Formula
  ComparePairs : Comparison → Term → Term → Term → Term → Formula
  Both : Formula → Formula → Formula
  Either : Formula → Formula → Formula
  Negated : Formula → Formula

-- a value, a pair of values, or a condition
pub data OperandPart : Type 0 where
  Value : Term → OperandPart
  Pair : Term → Term → OperandPart
  Condition : Formula → OperandPart

-- ---- the parts of the program, without their memory

abbrev pub term_of : ValueOf → Term
term_of (NumberOf n) = Number n
term_of (PrivateOf k) = Private k
term_of (ElementOf row p index) = Element row (term_of index)
term_of MeOf = Me
term_of ProcsOf = Procs
term_of LimitOf = Limit
term_of (JoinedOf o p a q b) = Joined o (term_of a) (term_of b)

abbrev pub formula_of : ConditionOf → Formula
formula_of (CompareOf c a b) = Compare c (term_of a) (term_of b)
formula_of (ComparePairsOf c a b) = ComparePairs c (term_of a.first) (term_of a.second) (term_of b.first) (term_of b.second)
formula_of (AndOf p a q b) = Both (formula_of a) (formula_of b)
formula_of (OrOf p a q b) = Either (formula_of a) (formula_of b)
formula_of (NotOf p a) = Negated (formula_of a)

abbrev pub part_of : Operand → OperandPart
part_of (ValueIn v) = Value (term_of v)
part_of (PairIn p) = Pair (term_of p.first) (term_of p.second)
part_of (ConditionIn c) = Condition (formula_of c)

-- ---- how parts go together. None where one is not of the kind that is needed

abbrev pub value_in : OperandPart → Option Term
value_in (Value v) = Some v
value_in (Pair a b) = None
value_in (Condition c) = None

abbrev pub condition_in : OperandPart → Option Formula
condition_in (Value v) = None
condition_in (Pair a b) = None
condition_in (Condition c) = Some c

-- values are compared, and pairs
abbrev pub comparison_of : Comparison → OperandPart → OperandPart → Option OperandPart
comparison_of c (Value a) (Value b) = Some (Condition (Compare c a b))
comparison_of c (Pair a b) (Pair x y) = Some (Condition (ComparePairs c a b x y))
comparison_of c (Value a) (Pair x y) = None
comparison_of c (Value a) (Condition d) = None
comparison_of c (Pair a b) (Value x) = None
comparison_of c (Pair a b) (Condition d) = None
comparison_of c (Condition d) right = None

abbrev pub operation_of : Operator → OperandPart → OperandPart → Option OperandPart
operation_of o left right = do
  a ← value_in left
  b ← value_in right
  Some (Value (Joined o a b))

-- two parts with what is written between them
abbrev pub join_of : Joint → OperandPart → OperandPart → Option OperandPart
join_of (ByOperator o) left right = operation_of o left right
join_of (ByComparison c) left right = comparison_of c left right
join_of And left right = do
  a ← condition_in left
  b ← condition_in right
  Some (Condition (Both a b))
join_of Or left right = do
  a ← condition_in left
  b ← condition_in right
  Some (Condition (Either a b))

-- brackets round a value or a condition are that part itself
abbrev pub part_in_brackets : OperandPart → Option OperandPart
part_in_brackets (Value v) = Some (Value v)
part_in_brackets (Pair a b) = None
part_in_brackets (Condition c) = Some (Condition c)

-- one part in brackets, after the word before them
abbrev pub enclosed_part : Bracket → OperandPart → Option OperandPart
enclosed_part Plain part = part_in_brackets part
enclosed_part Not part = do
  c ← condition_in part
  Some (Condition (Negated c))
enclosed_part Max part = None
enclosed_part Min part = None

abbrev pub pair_of_parts : OperandPart → OperandPart → Option OperandPart
pair_of_parts first second = do
  a ← value_in first
  b ← value_in second
  Some (Pair a b)

-- two parts in brackets, with a comma between them
abbrev pub enclosed_two : Bracket → OperandPart → OperandPart → Option OperandPart
enclosed_two Plain first second = pair_of_parts first second
enclosed_two Not first second = None
enclosed_two Max first second = operation_of Maximum first second
enclosed_two Min first second = operation_of Minimum first second

-- ---- values of numbers and sizes

-- a value of numbers, `procs` and `limit` alone
abbrev pub is_bound : Term → Bool
is_bound (Number n) = true
is_bound (Private k) = false
is_bound (Element row i) = false
is_bound Me = false
is_bound Procs = true
is_bound Limit = true
is_bound (Joined o a b) = is_bound a && is_bound b
