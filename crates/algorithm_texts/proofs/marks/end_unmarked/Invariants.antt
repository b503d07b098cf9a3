use Rattle.std.proofs.Common.{◌≡◌, map}
use Rattle.algorithm_texts.specs.Drafts.{line_of}
use Rattle.algorithm_texts.proofs.Endings.{ended_front}
use Rattle.algorithm_texts.proofs.marks.end_unmarked.Given as goal

-- the lines so far have ended
abbrev pub invariant-loop-place : goal.invariant-loop-place
invariant-loop-place l = map line_of l.lines.items ≡ ended_front l.place l.marks 0 (map line_of l.initial.lines.items)
