use Rattle.std.proofs.Common.{◌≡◌, length}
use Rattle.algorithm_texts.proofs.lines.Draft.unmark_all.Given as goal

abbrev pub invariant-loop-place : goal.invariant-loop-place
invariant-loop-place l = length l.marks ≡ length l.initial.marks
