-- The words of a world at its beginning.
use Rattle.std.specs.Prelude.{ℕ, zero, suc, min, nat_le, Bool, true, false, ◌&&◌, List, [], ◌∷◌, ◌++◌, drop, length, replicate, slice_get, Option, Some, None, is_some, option_and_then}
use Rattle.algorithms.specs.Accesses.{value_stored}
use Rattle.algorithms.specs.Extents.{constants_at, size_value, or_zero, extent_length, owner_at, has_size}
use Rattle.algorithms.specs.PromisedSteps.{has_step_bounds}
use Rattle.algorithms.specs.Values.{expression_value}
use Rattle.algorithms.specs.declared.algorithm.Algorithm.{Algorithm}
use Rattle.algorithms.specs.declared.algorithm.Declaration.{Declaration}
use Rattle.algorithms.specs.declared.algorithm.NamedConstant.{NamedConstant}
use Rattle.algorithms.specs.declared.algorithm.NamedRow.{NamedRow}
use Rattle.algorithms.specs.declared.expression.Expression.{Expression}
use Rattle.algorithms.specs.declared.first_rows.FirstRows.{FirstRows}
use Rattle.algorithms.specs.declared.first_values.FirstValues.{FirstValues}
use Rattle.algorithms.specs.declared.first_values.InitializedAlgorithm.{InitializedAlgorithm}
use Rattle.algorithms.specs.declared.line.Action.TheVariants.{Store}

-- an algorithm whose words are all 0 at the beginning
abbrev pub from_zeros : Algorithm → InitializedAlgorithm
from_zeros a = record { algorithm = a; first_values = None }

-- ---- functions of numbers

-- the values of a function at 0, 1, .., as many as these
abbrev pub values_to : {A : Type 0} → (ℕ → A) → ℕ → List A
values_to f zero = []
values_to f (suc n) = values_to f n ++ f n ∷ []

-- the test holds of all numbers below this one
abbrev pub all_below : (ℕ → Bool) → ℕ → Bool
all_below test zero = true
all_below test (suc n) = all_below test n && test n

-- ---- first values

-- the value of a word at the beginning, by its place: what a store of it would store. None: it is out of range, or above the bound
abbrev pub first_value : ℕ → ℕ → Declaration → Expression → ℕ → Option ℕ
first_value procs limit d value i =
    option_and_then (λ stored. stored)
    (value_stored (constants_at procs limit (owner_at procs limit d.extent i)) (replicate 64 0) d (Store value))

-- how many words a declaration has, at most 64
abbrev pub declaration_size : ℕ → ℕ → Declaration → ℕ
declaration_size procs limit d = min (extent_length procs limit d.extent) 64

-- a row of 64 values: the first values of the words, and 0 after them. All are 0 where no first value is said
abbrev pub row_of_values : ℕ → ℕ → Declaration → Option Expression → List ℕ
row_of_values procs limit d None = replicate 64 0
row_of_values procs limit d (Some value) =
    values_to (λ i. or_zero (first_value procs limit d value i)) (declaration_size procs limit d)
    ++ drop (declaration_size procs limit d) (replicate 64 0)

-- the row of a declaration, by the first value of its words
abbrev pub first_row : ℕ → ℕ → Option Declaration → Option (Option Expression) → List ℕ
first_row procs limit None start = replicate 64 0
first_row procs limit (Some d) None = replicate 64 0
first_row procs limit (Some d) (Some start) = row_of_values procs limit d start

-- the rows of all declarations
abbrev pub rows_said : Algorithm → ℕ → ℕ → FirstValues → List (List ℕ)
rows_said a procs limit v =
    values_to (λ k. first_row procs limit (slice_get a.declarations.items k) (slice_get v.starts.items k)) (length a.declarations.items)

-- the same, where first values are said
abbrev pub first_rows : Algorithm → ℕ → ℕ → Option FirstValues → Option (List (List ℕ))
first_rows a procs limit None = None
first_rows a procs limit (Some v) = Some (rows_said a procs limit v)

-- ---- which sizes have them

-- each word of a declaration has a first value
abbrev pub has_values : ℕ → ℕ → Declaration → Option Expression → Bool
has_values procs limit d None = true
has_values procs limit d (Some value) = all_below (λ i. is_some (first_value procs limit d value i)) (declaration_size procs limit d)

abbrev pub has_row : ℕ → ℕ → Option Declaration → Option (Option Expression) → Bool
has_row procs limit None start = true
has_row procs limit (Some d) None = true
has_row procs limit (Some d) (Some start) = has_values procs limit d start

-- each word has a first value
abbrev pub has_first_words : Algorithm → ℕ → ℕ → FirstValues → Bool
has_first_words a procs limit v =
    all_below (λ k. has_row procs limit (slice_get a.declarations.items k) (slice_get v.starts.items k)) (length a.declarations.items)

-- a constant has a value at these sizes
abbrev pub has_constant : ℕ → ℕ → Option NamedConstant → Bool
has_constant procs limit None = true
has_constant procs limit (Some constant) = is_some (expression_value (constants_at procs limit 0) (replicate 64 0) constant.value)

abbrev pub has_constants : Algorithm → ℕ → ℕ → Bool
has_constants a procs limit = all_below (λ k. has_constant procs limit (slice_get a.constants.items k)) (length a.constants.items)

-- a row of private names has 1 to 16 values
abbrev pub is_row_size : Option ℕ → Bool
is_row_size None = false
is_row_size (Some n) = nat_le 1 n && nat_le n 16

abbrev pub has_row_size : ℕ → ℕ → Option NamedRow → Bool
has_row_size procs limit None = true
has_row_size procs limit (Some row) = is_row_size (size_value procs limit row.size)

abbrev pub has_row_sizes : Algorithm → ℕ → ℕ → Bool
has_row_sizes a procs limit = all_below (λ k. has_row_size procs limit (slice_get a.rows.items k)) (length a.rows.items)

-- the size of an array is one of these worlds
abbrev pub has_extent : ℕ → ℕ → Option Declaration → Bool
has_extent procs limit None = true
has_extent procs limit (Some d) = has_size procs limit d.extent

abbrev pub has_extents : Algorithm → ℕ → ℕ → Bool
has_extents a procs limit = all_below (λ k. has_extent procs limit (slice_get a.declarations.items k)) (length a.declarations.items)

-- where first values are said, each constant has a value at these sizes, each row of private names a size, each array words, and each word a first value
abbrev pub has_said_values : Algorithm → ℕ → ℕ → Option FirstValues → Bool
has_said_values a procs limit None = true
has_said_values a procs limit (Some v) =
    has_constants a procs limit && (has_row_sizes a procs limit && (has_extents a procs limit && has_first_words a procs limit v))

-- so has each bound on own steps
abbrev pub has_all_values : Algorithm → ℕ → ℕ → Option FirstValues → Bool
has_all_values a procs limit values = has_step_bounds procs limit a.step_bounds && has_said_values a procs limit values

-- ---- the rows of a world

abbrev pub held_rows : Option FirstRows → Option (List (List ℕ))
held_rows None = None
held_rows (Some first) = Some first.rows.items

abbrev pub row_or_zeros : Option (List ℕ) → List ℕ
row_or_zeros None = replicate 64 0
row_or_zeros (Some row) = row

-- as many rows as are asked for, as they are at the beginning: all 0 where no first values are said
abbrev pub rows_at_beginning : Option (List (List ℕ)) → ℕ → List (List ℕ)
rows_at_beginning None count = replicate count (replicate 64 0)
rows_at_beginning (Some rows) count = values_to (λ k. row_or_zeros (slice_get rows k)) count
