-- How many words a declaration has, and which of them have an index.
use Rattle.std.specs.Prelude.{ℕ, min, max, nat_le, Bool, true, false, ◌&&◌, if◌then◌else◌, List, [], ◌∷◌, replicate, Option, Some, None}
use Rattle.algorithms.specs.Values.{expression_value, operation_value, ◌>>=◌}
use Rattle.algorithms.specs.declared.algorithm.Declaration.{Declaration}
use Rattle.algorithms.specs.declared.algorithm.Extent.{Extent}
use Rattle.algorithms.specs.declared.algorithm.Extent.TheVariants.{One, Each, Array, Table}
use Rattle.algorithms.specs.declared.constants.Constants.{Constants}
use Rattle.algorithms.specs.declared.expression.Expression.{Expression}
use Rattle.algorithms.specs.declared.expression.Operator.TheVariants.{Quotient}

-- what the first value and the home of a word are made of: its owner, which is `me` there, and the sizes
abbrev pub constants_at : ℕ → ℕ → ℕ → Constants
constants_at procs limit i = record { me = i; procs = procs; limit = limit }

-- a value in worlds of these sizes
abbrev pub size_value : ℕ → ℕ → Expression → Option ℕ
size_value procs limit size = expression_value (constants_at procs limit 0) (replicate 64 0) size

abbrev pub or_zero : Option ℕ → ℕ
or_zero None = 0
or_zero (Some v) = v

-- how many words there are. None: it has no value
abbrev pub extent_size : ℕ → ℕ → Extent → Option ℕ
extent_size procs limit One = Some 1
extent_size procs limit Each = Some procs
extent_size procs limit (Array size) = size_value procs limit size
extent_size procs limit (Table size columns) = size_value procs limit size

abbrev pub extent_length : ℕ → ℕ → Extent → ℕ
extent_length procs limit extent = or_zero (extent_size procs limit extent)

-- the owner of the word at a place: its first index
abbrev pub owner_at : ℕ → ℕ → Extent → ℕ → ℕ
owner_at procs limit One i = i
owner_at procs limit Each i = i
owner_at procs limit (Array size) i = i
owner_at procs limit (Table size columns) i = or_zero (size_value procs limit columns >>= operation_value Quotient i)

-- the places of words end here. There are at most 64 words
abbrev pub places_end : ℕ → ℕ → Extent → ℕ
places_end procs limit One = procs
places_end procs limit Each = procs
places_end procs limit (Array size) = min (or_zero (size_value procs limit size)) 64
places_end procs limit (Table size columns) = min (or_zero (size_value procs limit size)) 64

-- ---- which sizes there are worlds of

abbrev pub is_size : Option ℕ → Bool
is_size None = false
is_size (Some n) = nat_le 1 n && nat_le n 64

-- an array has a word, and at most 64
abbrev pub has_size : ℕ → ℕ → Extent → Bool
has_size procs limit One = true
has_size procs limit Each = true
has_size procs limit (Array size) = is_size (size_value procs limit size)
has_size procs limit (Table size columns) = is_size (size_value procs limit size)

-- ---- how many words of each row accesses may come to

-- one word, or one for each process
abbrev pub is_plain : Extent → Bool
is_plain One = true
is_plain Each = true
is_plain (Array size) = false
is_plain (Table size columns) = false

abbrev pub row_width : List Declaration → ℕ → ℕ
row_width [] procs = procs
row_width (d ∷ ds) procs = if is_plain d.extent then row_width ds procs else max procs 64
