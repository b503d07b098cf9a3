-- Values and conditions where some names have no value, as never claims have them ("never claim", Holzmann 1997). A comparison of a
-- value that is missing does not hold.
use Rattle.std.specs.Prelude.{ℕ, nat_lt, Bool, false, not, ◌&&◌, ◌||◌, List, slice_get, Option, Some, None}
use Rattle.std.specs.Ordering.{nat_cmp, ordering_then}
use Rattle.algorithms.specs.Extents.{places_end}
use Rattle.algorithms.specs.Values.{admits, fitting, name_at, operation_value, ◌>>=◌}
use Rattle.algorithms.specs.Worlds.{AlgorithmWorldState}
use Rattle.algorithms.specs.declared.condition.Comparison.{Comparison}
use Rattle.algorithms.specs.declared.condition.Condition.{Condition, Compare, ComparePairs, And', Or', Not'}
use Rattle.algorithms.specs.declared.condition.Pair.{Pair}
use Rattle.algorithms.specs.declared.constants.Constants.{Constants}
use Rattle.algorithms.specs.declared.expression.Expression.{Expression, Number, Private, Element', Me, Procs, Limit, Joined'}
use Rattle.algorithms.specs.declared.line.WordOf.{WordOf}

-- the value of a name, where there is such a name and it has one
abbrev pub known_name : Option (Option ℕ) → Option ℕ
known_name None = None
known_name (Some value) = value

-- a value, with these values of names
abbrev pub known_value : Constants → List (Option ℕ) → Expression → Option ℕ
known_value c names (Number n) = Some n
known_value c names (Private k) = known_name (slice_get names k)
known_value c names (Element' row p index) = do
  i ← known_value c names index
  name ← name_at row i
  known_name (slice_get names name)
known_value c names Me = Some c.me
known_value c names Procs = Some c.procs
known_value c names Limit = Some c.limit
known_value c names (Joined' o p a q b) = do
  x ← known_value c names a
  y ← known_value c names b
  operation_value o x y

abbrev pub known_pair : Constants → List (Option ℕ) → Pair → Option (ℕ × ℕ)
known_pair c names pair = do
  x ← known_value c names pair.first
  y ← known_value c names pair.second
  Some (x, y)

abbrev pub values_compare : Comparison → Option ℕ → Option ℕ → Bool
values_compare r None y = false
values_compare r (Some x) None = false
values_compare r (Some x) (Some y) = admits r (nat_cmp x y)

abbrev pub pairs_compare : Comparison → Option (ℕ × ℕ) → Option (ℕ × ℕ) → Bool
pairs_compare r None y = false
pairs_compare r (Some x) None = false
pairs_compare r (Some x) (Some y) = admits r (ordering_then (nat_cmp x.0 y.0) (nat_cmp x.1 y.1))

-- a condition holds, with these values of names
abbrev pub is_satisfied : Constants → List (Option ℕ) → Condition → Bool
is_satisfied c names (Compare r a b) = values_compare r (known_value c names a) (known_value c names b)
is_satisfied c names (ComparePairs r a b) = pairs_compare r (known_pair c names a) (known_pair c names b)
is_satisfied c names (And' p a q b) = is_satisfied c names a && is_satisfied c names b
is_satisfied c names (Or' p a q b) = is_satisfied c names a || is_satisfied c names b
is_satisfied c names (Not' p a) = not (is_satisfied c names a)

-- ---- shared words

-- what values are made of that are the same for all processes
abbrev pub sizes_of : AlgorithmWorldState → Constants
sizes_of w = record { me = 0; procs = w.procs; limit = w.limit }

-- an index; that of a word without one is 0
abbrev pub known_index : AlgorithmWorldState → List (Option ℕ) → Option Expression → Option ℕ
known_index w names None = Some 0
known_index w names (Some index) = known_value (sizes_of w) names index

-- the place of a word in its row, where there is such a word
abbrev pub known_place : AlgorithmWorldState → List (Option ℕ) → WordOf → Option ℕ
known_place w names word = do
  declaration ← slice_get w.algorithm.declarations.items word.declaration
  i ← known_index w names word.index
  fitting (nat_lt i (places_end w.procs w.limit declaration.extent)) i

-- the value of a word
abbrev pub known_word : AlgorithmWorldState → List (Option ℕ) → WordOf → Option ℕ
known_word w names word = do
  i ← known_place w names word
  row ← slice_get w.words word.declaration
  slice_get row i
