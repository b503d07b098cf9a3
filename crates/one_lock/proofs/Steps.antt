-- The steps of several members, added up.
use Rattle.std.proofs.Common.{◌≡◌, ◌+◌, List, [], ◌∷◌, ◌++◌, arith}
use Rattle.one_lock.proofs.Common.{Seat, steps_taken}

pub steps_more : (ms : List Seat) (m : Seat) → steps_taken (ms ++ m ∷ []) ≡ steps_taken ms + m.steps
steps_more [] m = omega arith
steps_more (n ∷ ms) m = let r = steps_more ms m in omega (arith, r)
