-- Local lines that fall: each leads on to an access, to an end, to a local line of lower rank, or to the next round of its loop. So no
-- run of them goes round within a round.
use Rattle.std.specs.Prelude.{◌≡◌, ℕ, ◌+◌, ◌-◌, ◌<◌, ◌≤◌, nat_le, nat_lt, Bool, true, false, ◌&&◌, ◌||◌, List, length, slice_get, slice_index, Option, Some, None, Err}
use Rattle.algorithms.specs.Arrivals.{arrives, most_local_rounds}
use Rattle.algorithms.specs.declared.algorithm.Algorithm.{Algorithm}
use Rattle.algorithms.specs.declared.constants.Constants.{Constants}
use Rattle.algorithms.specs.declared.expression.Expression.{Expression, Number, Private, Element', Me, Procs, Limit, Joined'}
use Rattle.algorithms.specs.declared.expression.Operator.{Operator}
use Rattle.algorithms.specs.declared.expression.Operator.TheVariants.{Sum, Difference, Product, Quotient, Remainder, Maximum, Minimum, Within}
use Rattle.algorithms.specs.declared.line.AccessLine.{AccessLine}
use Rattle.algorithms.specs.declared.line.LineKind.{LineKind}
use Rattle.algorithms.specs.declared.line.LineKind.TheVariants.{Access, Local, Done}
use Rattle.algorithms.specs.declared.line.AlgorithmLine.{AlgorithmLine}
use Rattle.algorithms.specs.declared.line.LocalLine.{LocalLine}
use Rattle.algorithms.specs.declared.line.LocalLine.TheVariants.{Assign, AssignRow, Note, Goto, Branch, First, Next}
use Rattle.algorithms.specs.declared.line.Members.{Members}
use Rattle.algorithms.specs.declared.line.Members.TheVariants.{All, Others, Lower, Higher, Up, Down}
use Rattle.algorithms.specs.declared.local.LocalState.{LocalState}
use Rattle.algorithms.specs.declared.refusal.AlgorithmRefusal.TheVariants.{Malformed}

-- the rank of a line: 0 where a run of local lines stops at it
abbrev pub rank_of : ℕ → LineKind → ℕ
rank_of rank (Access line) = 0
rank_of rank (Done answer) = 0
rank_of rank (Local line) = rank

abbrev pub is_line_below : List ℕ → ℕ → ℕ → Option AlgorithmLine → Bool
is_line_below ranks rank place None = false
is_line_below ranks rank place (Some line) = nat_lt (rank_of (slice_index ranks place) line.form) rank

-- whether there is a line at a place, and of lower rank
abbrev pub is_below : List AlgorithmLine → List ℕ → ℕ → ℕ → Bool
is_below lines ranks rank place = is_line_below ranks rank place (slice_get lines place)

-- ---- which loops have a round

-- a number that is written as one
abbrev pub literal_of : Expression → Option ℕ
literal_of (Number n) = Some n
literal_of (Private k) = None
literal_of (Element' row p index) = None
literal_of Me = None
literal_of Procs = None
literal_of Limit = None
literal_of (Joined' o p a q b) = None

abbrev pub less_by : ℕ → Option ℕ → ℕ
less_by x None = 0
less_by x (Some k) = x - k

abbrev pub least_joined : Operator → ℕ → Option ℕ → ℕ
least_joined Difference x k = less_by x k
least_joined Sum x k = 0
least_joined Product x k = 0
least_joined Quotient x k = 0
least_joined Remainder x k = 0
least_joined Maximum x k = 0
least_joined Minimum x k = 0
least_joined Within x k = 0

-- a value is not below this number where there are at least so few processes
abbrev pub least_value : ℕ → Expression → ℕ
least_value least (Number n) = n
least_value least (Private k) = 0
least_value least (Element' row p index) = 0
least_value least Me = 0
least_value least Procs = least
least_value least Limit = 0
least_value least (Joined' o p a q b) = least_joined o (least_value least a) (literal_of b)

abbrev pub is_at_most : Option ℕ → ℕ → Bool
is_at_most None y = false
is_at_most (Some x) y = nat_le x y

-- whether a loop over these has a round in each world of an algorithm for so few processes at least
abbrev pub has_round : ℕ → Members → Bool
has_round least All = true
has_round least Others = nat_le 2 least
has_round least Lower = false
has_round least Higher = false
has_round least (Up a b) = is_at_most (literal_of a) (least_value least b)
has_round least (Down a b) = is_at_most (literal_of b) (least_value least a)

-- whether all places to which a local line may lead pass the test, with the place of the line after it. Where the next round of a
-- loop begins has a test of its own
abbrev pub ways_pass : (test begins : ℕ → Bool) → ℕ → ℕ → LocalLine → Bool
ways_pass test begins least next (Assign name value) = test next
ways_pass test begins least next (AssignRow row elements value) = test next
ways_pass test begins least next (Note deed) = test next
ways_pass test begins least next (Goto place) = test place
ways_pass test begins least next (Branch condition otherwise) = test next && test otherwise
ways_pass test begins least next (First name members after) = test next && (has_round least members || test after)
ways_pass test begins least next (Next name members body) = begins body && test next

abbrev pub is_line : Option AlgorithmLine → Bool
is_line None = false
is_line (Some line) = true

-- whether there is a line at a place
abbrev pub is_line_at : List AlgorithmLine → ℕ → Bool
is_line_at lines place = is_line (slice_get lines place)

-- whether a line of this form falls. After an access there is a line
abbrev pub form_falls : List AlgorithmLine → ℕ → List ℕ → ℕ → LineKind → Bool
form_falls lines least ranks place (Access line) = is_line_at lines (place + 1)
form_falls lines least ranks place (Done answer) = true
form_falls lines least ranks place (Local line) =
    ways_pass (is_below lines ranks (slice_index ranks place)) (is_line_at lines) least (place + 1) line && nat_lt (slice_index ranks place) (length lines)

-- with these ranks each line falls
abbrev pub AllFall : List AlgorithmLine → ℕ → List ℕ → Type 0
AllFall lines least ranks = (place : ℕ) (line : AlgorithmLine) → slice_get lines place ≡ Some line → form_falls lines least ranks place line.form ≡ true

-- a run of local lines ends, from every line, with all names, in each world of the algorithm
pub record LocalLinesEnd (a : Algorithm) : Type 0 where
  pub each : (c : Constants) (s : LocalState) (line : AlgorithmLine) (place : ℕ) → c.me < c.procs → a.least ≤ c.procs
      → slice_get a.lines.items s.at ≡ Some line → arrives a.lines.items c most_local_rounds s ≡ Err (Malformed place) → ⊥

-- after each access there is a line, from which the step goes on
pub record AccessesLeadOn (a : Algorithm) : Type 0 where
  pub each : (place : ℕ) (line : AlgorithmLine) (access : AccessLine) → slice_get a.lines.items place ≡ Some line → line.form ≡ Access access
      → place + 1 < length a.lines.items
