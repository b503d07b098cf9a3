use Rattle.crashlab.proofs.variants.VariantRuns.{a_rest, a_start, a_step, a_deed, an_answer, a_done, a_crash}
use Rattle.crashlab.proofs.variants.Choices.{a_choice}
use Rattle.crashlab.proofs.laws.variants_keep_to_their_rows.Goals as goal

pub returns-clause-rest : goal.returns-clause-rest
returns-clause-rest c variant l limit p below = a_rest variant l limit p below

pub returns-clause-starts : goal.returns-clause-starts
returns-clause-starts c s p call run accepted = a_start s p call run accepted

pub returns-clause-next : goal.returns-clause-next
returns-clause-next c s p run below = a_choice s p run below

pub returns-clause-steps : goal.returns-clause-steps
returns-clause-steps c s p a run below is = a_step s p a run below is

pub returns-clause-deeds : goal.returns-clause-deeds
returns-clause-deeds c s p a run below is = a_deed s p a run below is

pub returns-clause-answers : goal.returns-clause-answers
returns-clause-answers c s p a run below is = an_answer s p a run below is

pub returns-clause-done : goal.returns-clause-done
returns-clause-done c s p a run below is = a_done s p a run below is

pub returns-clause-falls : goal.returns-clause-falls
returns-clause-falls c s p run below = a_crash s p run below
