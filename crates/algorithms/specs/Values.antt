-- What values and conditions of an algorithm come to: arithmetic on numbers of 64 bits, with no value where that leaves them.
use Rattle.std.specs.Prelude.{ℕ, ◌+◌, ◌-◌, ◌*◌, ◌/◌, ◌%◌, ◌^◌, max, min, nat_lt, nat_le, Bool, true, false, ◌&&◌, not, if◌then◌else◌, List, slice_get, Option, Some, None, option_and_then}
use Rattle.std.specs.Ordering.{nat_cmp, ordering_then, is_eq, is_ne, is_lt, is_le, is_gt, is_ge}
use Rattle.std.specs.declared.cmp.Ordering.{Ordering}
use Rattle.algorithms.specs.declared.constants.Constants.{Constants}
use Rattle.algorithms.specs.declared.expression.Operator.{Operator}
use Rattle.algorithms.specs.declared.expression.Operator.TheVariants.{Sum, Difference, Product, Quotient, Remainder, Maximum, Minimum, Within}
use Rattle.algorithms.specs.declared.expression.Expression.{Expression, Number, Private, Element', Me, Procs, Limit, Joined'}
use Rattle.algorithms.specs.declared.condition.Comparison.{Comparison}
use Rattle.algorithms.specs.declared.condition.Comparison.TheVariants.{Equal, NotEqual, Less, AtMost, Greater, AtLeast}
use Rattle.algorithms.specs.declared.condition.Pair.{Pair}
use Rattle.algorithms.specs.declared.condition.Condition.{Condition, Compare, ComparePairs, And', Or', Not'}

infixl 10 ◌>>=◌
abbrev pub ◌>>=◌ : {A B : Type 0} → Option A → (A → Option B) → Option B
o >>= f = option_and_then f o

-- a number where the test holds
abbrev pub fitting : Bool → ℕ → Option ℕ
fitting fits n = if fits then Some n else None

-- two numbers joined by an operator
abbrev pub operation_value : Operator → ℕ → ℕ → Option ℕ
operation_value Sum a b = fitting (nat_lt (a + b) (2 ^ 64)) (a + b)
operation_value Difference a b = fitting (nat_le b a) (a - b)
operation_value Product a b = fitting (nat_lt (a * b) (2 ^ 64)) (a * b)
operation_value Quotient a b = fitting (nat_lt 0 b) (a / b)
operation_value Remainder a b = fitting (nat_lt 0 b) (a % b)
operation_value Maximum a b = Some (max a b)
operation_value Minimum a b = Some (min a b)
operation_value Within a b = fitting (nat_lt a b) a

-- a name is of the row with this first name. A row has 16 names
abbrev pub is_in_row : ℕ → ℕ → Bool
is_in_row row name = nat_le row name && nat_lt (name - row) 16

-- the name at an index of a row
abbrev pub name_at : ℕ → ℕ → Option ℕ
name_at row i = fitting (nat_lt i 16 && nat_lt row 64) (row + i)

-- a value, with these constants and values of the private names
abbrev pub expression_value : Constants → List ℕ → Expression → Option ℕ
expression_value c store (Number n) = Some n
expression_value c store (Private k) = slice_get store k
expression_value c store (Element' row p index) = do
  i ← expression_value c store index
  name ← name_at row i
  slice_get store name
expression_value c store Me = Some c.me
expression_value c store Procs = Some c.procs
expression_value c store Limit = Some c.limit
expression_value c store (Joined' o p a q b) = do
  x ← expression_value c store a
  y ← expression_value c store b
  operation_value o x y

abbrev pub evaluated_pair : Constants → List ℕ → Pair → Option (ℕ × ℕ)
evaluated_pair c store pair = do
  x ← expression_value c store pair.first
  y ← expression_value c store pair.second
  Some (x, y)

-- the orders in which a comparison holds
abbrev pub admits : Comparison → Ordering → Bool
admits Equal o = is_eq o
admits NotEqual o = is_ne o
admits Less o = is_lt o
admits AtMost o = is_le o
admits Greater o = is_gt o
admits AtLeast o = is_ge o

-- a condition, with these constants and values of the private names. A second part counts only where the first leaves it open
abbrev pub holds : Constants → List ℕ → Condition → Option Bool
holds c store (Compare r a b) = do
  x ← expression_value c store a
  y ← expression_value c store b
  Some (admits r (nat_cmp x y))
holds c store (ComparePairs r a b) = do
  x ← evaluated_pair c store a
  y ← evaluated_pair c store b
  Some (admits r (ordering_then (nat_cmp x.0 y.0) (nat_cmp x.1 y.1)))
holds c store (And' p a q b) = do
  x ← holds c store a
  if x then holds c store b else Some false
holds c store (Or' p a q b) = do
  x ← holds c store a
  if x then Some true else holds c store b
holds c store (Not' p a) = do
  x ← holds c store a
  Some (not x)
