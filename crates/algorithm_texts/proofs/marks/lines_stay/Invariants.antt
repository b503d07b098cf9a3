use Rattle.std.proofs.Common.{◌≡◌, map, drop}
use Rattle.algorithm_texts.specs.Drafts.{line_of}
use Rattle.algorithm_texts.specs.UnreachedLines.{lines_stay}
use Rattle.algorithm_texts.proofs.marks.lines_stay.Given as goal

-- the lines that are left stay where all do
abbrev pub invariant-loop-line : goal.invariant-loop-line
invariant-loop-line l = record {
  here : l.place ≡ l.line-index;
  left : lines_stay l.least l.marks l.place (map line_of (drop l.line-index l.lines)) ≡ lines_stay l.least l.marks 0 (map line_of l.lines);
}
