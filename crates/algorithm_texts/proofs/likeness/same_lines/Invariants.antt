use Rattle.std.proofs.Common.{◌≡◌, map, take}
use Rattle.algorithm_texts.specs.Drafts.{line_of}
use Rattle.algorithm_texts.proofs.likeness.same_lines.Given as goal

-- the lines so far are the same
abbrev pub invariant-loop-line : goal.invariant-loop-line
invariant-loop-line l = record {
  here : l.place ≡ l.line-index;
  same : map line_of (take l.line-index l.left) ≡ map line_of (take l.line-index l.right);
}
