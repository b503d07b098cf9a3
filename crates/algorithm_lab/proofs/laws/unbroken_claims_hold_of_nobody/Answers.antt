use Rattle.algorithm_lab.proofs.BrokenClaims.{nobody_none, nobody_one, nobody_two}
use Rattle.algorithm_lab.proofs.laws.unbroken_claims_hold_of_nobody.Goals as goal

pub returns-clause-none : goal.returns-clause-none
returns-clause-none c = λ w ps claim is none. nobody_none w ps claim is none

pub returns-clause-one : goal.returns-clause-one
returns-clause-one c = λ w ps claim p is none low. nobody_one w ps claim p is none low

pub returns-clause-two : goal.returns-clause-two
returns-clause-two c = λ w ps claim p q is none low_p low_q other. nobody_two w ps claim p q is none low_p low_q other
