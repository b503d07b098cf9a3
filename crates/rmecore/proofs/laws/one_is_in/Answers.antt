use Rattle.rmecore.proofs.Allowing.{allows_from}
use Rattle.rmecore.proofs.Soles.{sole_nobody, sole_done, sole_after, phase_other, in_before, in_after}
use Rattle.rmecore.proofs.laws.one_is_in.Goals as goal

pub returns-clause-nobody : goal.returns-clause-nobody
returns-clause-nobody c = sole_nobody

pub returns-clause-each : goal.returns-clause-each
returns-clause-each c = sole_done

pub returns-clause-legal : goal.returns-clause-legal
returns-clause-legal c = sole_after

pub returns-clause-others : goal.returns-clause-others
returns-clause-others c = phase_other

pub returns-clause-came : goal.returns-clause-came
returns-clause-came c = λ n a d q h not i. in_before n a d q (allows_from n a d h) not i

pub returns-clause-stays : goal.returns-clause-stays
returns-clause-stays c = λ n a d q h not i. in_after n a d q (allows_from n a d h) not i
