use Rattle.std.proofs.Common.{◌≡◌, map, take}
use Rattle.algorithm_texts.specs.Operands.{row_of}
use Rattle.algorithm_texts.proofs.likeness.same_rows.Given as goal

-- the rows so far are the same
abbrev pub invariant-loop-row : goal.invariant-loop-row
invariant-loop-row l = record {
  here : l.place ≡ l.row-index;
  same : map row_of (take l.row-index l.left) ≡ map row_of (take l.row-index l.right);
}
