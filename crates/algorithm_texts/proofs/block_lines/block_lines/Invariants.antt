use Rattle.std.proofs.Common.{◌≡◌, map, take}
use Rattle.algorithm_texts.specs.BlockLines.{block_line}
use Rattle.algorithm_texts.proofs.block_lines.block_lines.Given as goal

-- what the lines so far do
abbrev pub invariant-loop-line : goal.invariant-loop-line
invariant-loop-line l = l.found.items ≡ map (λ line. block_line line.now) (take l.line-index l.lines)
