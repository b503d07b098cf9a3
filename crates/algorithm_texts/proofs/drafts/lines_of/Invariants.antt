use Rattle.std.proofs.Common.{map, length}
use Rattle.algorithm_texts.specs.TextLines.{spoken_of, SaysBefore}
use Rattle.algorithm_texts.proofs.drafts.lines_of.Given as goal

abbrev pub decreases-loop-line : goal.decreases-loop-line
decreases-loop-line l = length l.rest

-- the lines so far say what was read
abbrev pub invariant-loop-line : goal.invariant-loop-line
invariant-loop-line l = SaysBefore l.text l.rest l.number (map spoken_of l.lines.items)
