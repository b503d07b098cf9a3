use Rattle.algorithm_texts.proofs.RunFaults.{from_first}
use Rattle.algorithm_texts.proofs.lines.Draft.first_read.Goals as goal

pub returns-then-uses_at-clause-first : goal.returns-then-uses_at-clause-first
returns-then-uses_at-clause-first c = λ k less h. c.loop-place.invariant k (from_first c.args.call k h.within) less h
