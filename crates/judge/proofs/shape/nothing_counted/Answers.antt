use Rattle.std.proofs.Common.{ℕ}
use Rattle.judge.proofs.Common.{get_or-replicate}
use Rattle.judge.proofs.shape.nothing_counted.Goals as goal

pub returns-clause-none : goal.returns-clause-none
returns-clause-none c = λ k d l. let zero : ℕ = 0 in get_or-replicate 64 k zero d l
