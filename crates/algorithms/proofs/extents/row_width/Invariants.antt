use Rattle.std.proofs.Common.{◌≡◌, drop}
use Rattle.algorithms.specs.Extents.{row_width}
use Rattle.algorithms.proofs.extents.row_width.Given as goal

-- the declarations so far are plain
abbrev pub invariant-loop-declaration : goal.invariant-loop-declaration
invariant-loop-declaration l = row_width (drop l.declaration-index l.declarations) l.procs ≡ row_width l.declarations l.procs
