use Rattle.std.proofs.Common.{◌≡◌, drop, map}
use Rattle.algorithm_texts.specs.IndexCounts.{declared_in}
use Rattle.algorithm_texts.proofs.index_counts.declared_in.Given as goal

-- none of the lines so far declares it
abbrev pub invariant-loop-line : goal.invariant-loop-line
invariant-loop-line l = declared_in l.word (map (λ line. line.now) l.lines) ≡ declared_in l.word (map (λ line. line.now) (drop l.line-index l.lines))
