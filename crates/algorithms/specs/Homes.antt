-- Where words live. In distributed shared memory each word lives at one process, and an access of it by another is remote
-- (Anderson, Kim, Herman: Shared-memory mutual exclusion: major research trends since 1986, Distributed Computing 16, 2003).
use Rattle.std.specs.Prelude.{ℕ, nat_lt, replicate, slice_get, Option, Some, None}
use Rattle.algorithms.specs.Extents.{constants_at, owner_at}
use Rattle.algorithms.specs.Values.{expression_value, fitting, ◌>>=◌}
use Rattle.algorithms.specs.declared.access.Address.{Address}
use Rattle.algorithms.specs.declared.algorithm.Algorithm.{Algorithm}
use Rattle.algorithms.specs.declared.algorithm.Declaration.{Declaration}
use Rattle.algorithms.specs.declared.expression.Expression.{Expression}

-- the process that a home comes to for the words of an owner. None: no home is said, it has no value, or it is no process
abbrev pub home_value : ℕ → ℕ → Option Expression → ℕ → Option ℕ
home_value procs limit None i = None
home_value procs limit (Some home) i = do
  p ← expression_value (constants_at procs limit i) (replicate 64 0) home
  fitting (nat_lt p procs) p

abbrev pub home_among : ℕ → ℕ → Option Declaration → ℕ → Option ℕ
home_among procs limit None i = None
home_among procs limit (Some d) i = home_value procs limit d.home (owner_at procs limit d.extent i)

-- the process at which a word lives in worlds of these sizes. None: it lives at none
abbrev pub home_of : Algorithm → ℕ → ℕ → Address → Option ℕ
home_of a procs limit word = home_among procs limit (slice_get a.declarations.items word.declaration) word.index
