use Rattle.algorithm_lab.proofs.BakerySizes.{same_sizes}
use Rattle.algorithm_lab.proofs.BakeryWorlds.{same_runs}
use Rattle.algorithm_lab.proofs.laws.the_text_means_the_lock.Goals as goal

pub returns-clause-said : goal.returns-clause-said
returns-clause-said c = λ a n limit moves b most high. (same_runs a b n limit most high moves).said

pub returns-clause-words : goal.returns-clause-words
returns-clause-words c = λ a n limit moves b most high. (same_runs a b n limit most high moves).words

pub returns-clause-sizes : goal.returns-clause-sizes
returns-clause-sizes c = λ a n limit b. same_sizes a n limit b
