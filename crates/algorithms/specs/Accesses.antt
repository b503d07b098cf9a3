-- The accesses of a process: which word it loads, stores or swaps next, and what the value does to its names.
use Rattle.std.specs.Prelude.{ℕ, ◌-◌, ◌^◌, nat_lt, nat_le, Bool, true, false, if◌then◌else◌, List, slice_get, slice_set, Option, Some, None}
use Rattle.algorithms.specs.Extents.{places_end}
use Rattle.algorithms.specs.Values.{expression_value, holds, fitting, ◌>>=◌}
use Rattle.algorithms.specs.declared.access.WordAccess.{WordAccess}
use Rattle.algorithms.specs.declared.algorithm.Declaration.{Declaration}
use Rattle.algorithms.specs.declared.algorithm.Extent.{Extent}
use Rattle.algorithms.specs.declared.condition.Condition.{Condition}
use Rattle.algorithms.specs.declared.constants.Constants.{Constants}
use Rattle.algorithms.specs.declared.expression.Expression.{Expression}
use Rattle.algorithms.specs.declared.line.AccessLine.{AccessLine}
use Rattle.algorithms.specs.declared.line.Action.{Action}
use Rattle.algorithms.specs.declared.line.Action.TheVariants.{Load, Store, Await, Swap}

-- which of a declaration's words: the first where it has one, else the one at a place
abbrev pub index_of : Constants → List ℕ → Extent → Option Expression → Option ℕ
index_of c store extent None = Some 0
index_of c store extent (Some index) = do
  i ← expression_value c store index
  fitting (nat_lt i (places_end c.procs c.limit extent)) i

-- the greatest value that may be stored
abbrev pub bound_of : Constants → List ℕ → Option Expression → Option ℕ
bound_of c store None = Some (2 ^ 64 - 1)
bound_of c store (Some bound) = expression_value c store bound

-- the value that an access stores, within its bound, as far as it is known before the word is read. None of it where it loads
abbrev pub value_stored : Constants → List ℕ → Declaration → Action → Option (Option ℕ)
value_stored c store declaration (Load name) = Some None
value_stored c store declaration (Await name until) = Some None
value_stored c store declaration (Swap name value guard until) = Some None
value_stored c store declaration (Store value) = do
  bound ← bound_of c store declaration.bound
  v ← expression_value c store value
  if nat_le v bound then Some (Some v) else None

-- an access that reads its word and may store in the same step ("read-modify-write", Herlihy 1991)
abbrev pub is_swap : Action → Bool
is_swap (Load name) = false
is_swap (Store value) = false
is_swap (Await name until) = false
is_swap (Swap name value guard until) = true

-- the access of a line, with these values of the private names, before its word is read
abbrev pub access_of : List Declaration → Constants → List ℕ → AccessLine → Option WordAccess
access_of declarations c store line = do
  declaration ← slice_get declarations line.word.declaration
  i ← index_of c store declaration.extent line.word.index
  stores ← value_stored c store declaration line.action
  Some (record { address = record { declaration = line.word.declaration; index = i }; stores = stores; swaps = is_swap line.action })

-- the names once the value is read
abbrev pub names_after_read : Action → ℕ → List ℕ → List ℕ
names_after_read (Load name) v store = slice_set store name v
names_after_read (Await name until) v store = slice_set store name v
names_after_read (Store value) v store = store
names_after_read (Swap name value guard until) v store = slice_set store name v

-- whether a condition holds, where there is one
abbrev pub holds_if : Constants → List ℕ → Option Condition → Option Bool
holds_if c store None = Some true
holds_if c store (Some condition) = holds c store condition

-- the value that a swap stores, with the names once its word is read: where the guard holds it stores as a store does
abbrev pub value_swapped : Constants → List ℕ → Declaration → Expression → Option Condition → Option (Option ℕ)
value_swapped c store declaration value guard = do
  stores ← holds_if c store guard
  if stores then value_stored c store declaration (Store value) else Some None

-- the access once its word is read, with the names after that. What a swap stores is known then, all else was known before
abbrev pub access_after_read : List Declaration → Constants → List ℕ → Action → WordAccess → Option WordAccess
access_after_read declarations c store (Load name) access = Some access
access_after_read declarations c store (Store value) access = Some access
access_after_read declarations c store (Await name until) access = Some access
access_after_read declarations c store (Swap name value guard until) access = do
  declaration ← slice_get declarations access.address.declaration
  stores ← value_swapped c store declaration value guard
  Some (record { address = access.address; stores = stores; swaps = access.swaps })

-- whether the process goes on, with the names once the value is read. An await goes on where its condition holds
abbrev pub passes : Constants → List ℕ → Action → Option Bool
passes c store (Load name) = Some true
passes c store (Store value) = Some true
passes c store (Await name until) = holds c store until
passes c store (Swap name value guard until) = holds_if c store until
