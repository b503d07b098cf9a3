-- The local lines of a process: what it does between two accesses, as a function of its names and its place.
use Rattle.std.specs.Prelude.{ℕ, zero, suc, ◌+◌, ◌-◌, ◌^◌, max, nat_lt, nat_le, nat_eq, if◌then◌else◌, List, replicate, slice_get, slice_set, Option, Some, None}
use Rattle.algorithms.specs.Values.{expression_value, holds, fitting, name_at, ◌>>=◌}
use Rattle.algorithms.specs.declared.constants.Constants.{Constants}
use Rattle.algorithms.specs.declared.expression.Expression.{Expression}
use Rattle.algorithms.specs.declared.line.AlgorithmDeed.{AlgorithmDeed}
use Rattle.algorithms.specs.declared.line.Elements.{Elements}
use Rattle.algorithms.specs.declared.line.Elements.TheVariants as which
use Rattle.algorithms.specs.declared.line.Members.{Members}
use Rattle.algorithms.specs.declared.line.Members.TheVariants.{All, Others, Lower, Higher, Up, Down}
use Rattle.algorithms.specs.declared.line.LocalLine.{LocalLine}
use Rattle.algorithms.specs.declared.line.LocalLine.TheVariants.{Assign, AssignRow, Note, Goto, Branch, First, Next}
use Rattle.algorithms.specs.declared.noted.NotedDeeds.{NotedDeeds}
use Rattle.algorithms.specs.declared.local.LocalState.{LocalState}

abbrev pub nothing_noted : NotedDeeds
nothing_noted = record { first = None; second = None; third = None }

abbrev pub noting_after : AlgorithmDeed → Option AlgorithmDeed → Option AlgorithmDeed → Option AlgorithmDeed → Option NotedDeeds
noting_after d None b c = Some (record { first = Some d; second = b; third = c })
noting_after d (Some a) None c = Some (record { first = Some a; second = Some d; third = c })
noting_after d (Some a) (Some b) None = Some (record { first = Some a; second = Some b; third = Some d })
noting_after d (Some a) (Some b) (Some c) = None

-- the deeds and one more. A fourth has no place
abbrev pub noting : AlgorithmDeed → NotedDeeds → Option NotedDeeds
noting d noted = noting_after d noted.first noted.second noted.third

-- a number that is a process where it is below the end of its set
abbrev pub member_from : Constants → Members → ℕ → ℕ
member_from c All from = from
member_from c Others from = if nat_eq from c.me then from + 1 else from
member_from c Lower from = from
member_from c Higher from = max from (c.me + 1)
member_from c (Up a b) from = from
member_from c (Down a b) from = from

-- the end of a set of processes. Numbers are no processes
abbrev pub end_of : Constants → Members → ℕ
end_of c Lower = c.me
end_of c All = c.procs
end_of c Others = c.procs
end_of c Higher = c.procs
end_of c (Up a b) = 0
end_of c (Down a b) = 0

-- the least process of a set that is not below a number
abbrev pub least_from : Constants → Members → ℕ → Option ℕ
least_from c members from = fitting (nat_lt (member_from c members from) (end_of c members)) (member_from c members from)

-- the value of an end of a loop, which has no private name
abbrev pub end_value : Constants → Expression → Option ℕ
end_value c end = expression_value c (replicate 64 0) end

-- the least process of a set after this one. None as a whole: its number has none after it
abbrev pub further_from : Constants → Members → ℕ → Option (Option ℕ)
further_from c members j = do
  further ← fitting (nat_lt (j + 1) (2 ^ 64)) (j + 1)
  Some (least_from c members further)

-- the first number of a loop: some, or that there is none. None as a whole: an end has no value
abbrev pub first_number : Constants → Members → Option (Option ℕ)
first_number c All = Some (least_from c All 0)
first_number c Others = Some (least_from c Others 0)
first_number c Lower = Some (least_from c Lower 0)
first_number c Higher = Some (least_from c Higher 0)
first_number c (Up a b) = do
  x ← end_value c a
  y ← end_value c b
  Some (fitting (nat_le x y) x)
first_number c (Down a b) = do
  x ← end_value c a
  y ← end_value c b
  Some (fitting (nat_le y x) x)

-- the number of a loop after this one
abbrev pub number_after : Constants → Members → ℕ → Option (Option ℕ)
number_after c All j = further_from c All j
number_after c Others j = further_from c Others j
number_after c Lower j = further_from c Lower j
number_after c Higher j = further_from c Higher j
number_after c (Up a b) j = do
  y ← end_value c b
  Some (fitting (nat_lt j y) (j + 1))
number_after c (Down a b) j = do
  y ← end_value c b
  Some (fitting (nat_lt y j) (j - 1))

abbrev pub at_place : ℕ → LocalState → LocalState
at_place at s = record { at = at; store = s.store; noted = s.noted }

abbrev pub with_value : ℕ → ℕ → LocalState → LocalState
with_value name v s = record { at = s.at; store = slice_set s.store name v; noted = s.noted }

-- the first names of a row are set: as many as its size to the value, the others to 0
abbrev pub with_first_names : ℕ → ℕ → ℕ → ℕ → List ℕ → List ℕ
with_first_names row size v zero store = store
with_first_names row size v (suc k) store = slice_set (with_first_names row size v k store) (row + k) (if nat_lt k size then v else 0)

-- all values of a row are set
abbrev pub with_row : ℕ → ℕ → ℕ → List ℕ → List ℕ
with_row row size v store = with_first_names row size v 16 store

-- the names once these values of a row are set
abbrev pub names_after_row : Constants → ℕ → Elements → ℕ → List ℕ → Option (List ℕ)
names_after_row c row (which.All size) v store = do
  n ← expression_value c store size
  Some (with_row row n v store)
names_after_row c row (which.At index) v store = do
  i ← expression_value c store index
  name ← name_at row i
  Some (slice_set store name v)

abbrev pub with_names : List ℕ → LocalState → LocalState
with_names store s = record { at = s.at; store = store; noted = s.noted }

abbrev pub with_deed : AlgorithmDeed → LocalState → Option LocalState
with_deed deed s = do
  noted ← noting deed s.noted
  Some (record { at = s.at; store = s.store; noted = noted })

-- the next round of a loop, or its end
abbrev pub round_at : ℕ → ℕ → ℕ → LocalState → Option ℕ → LocalState
round_at name body after s (Some j) = at_place body (with_value name j s)
round_at name body after s None = at_place after (with_value name 0 s)

-- where a local line leads, with the place of the line after it. None where a value is out of range
abbrev pub local_line_done : Constants → ℕ → LocalLine → LocalState → Option LocalState
local_line_done c next (Assign name value) s = do
  v ← expression_value c s.store value
  Some (at_place next (with_value name v s))
local_line_done c next (AssignRow row elements value) s = do
  v ← expression_value c s.store value
  store ← names_after_row c row elements v s.store
  Some (at_place next (with_names store s))
local_line_done c next (Note deed) s = do
  noted ← with_deed deed s
  Some (at_place next noted)
local_line_done c next (Goto place) s = Some (at_place place s)
local_line_done c next (Branch condition otherwise) s = do
  b ← holds c s.store condition
  Some (at_place (if b then next else otherwise) s)
local_line_done c next (First name members after) s = do
  member ← first_number c members
  Some (round_at name next after s member)
local_line_done c next (Next name members body) s = do
  j ← slice_get s.store name
  member ← number_after c members j
  Some (round_at name body next s member)
