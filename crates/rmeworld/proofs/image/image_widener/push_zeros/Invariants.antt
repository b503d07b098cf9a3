use Rattle.std.proofs.Common.{◌≡◌, ◌++◌}
use Rattle.rmecore.specs.Body.{zeros}
use Rattle.rmeworld.proofs.image.image_widener.push_zeros.Given as goal

abbrev pub invariant-loop-k : goal.invariant-loop-k
invariant-loop-k l = l.cells.items ≡ l.fn.cells.items ++ zeros l.k
