use Rattle.rmeworld.proofs.Keeping.{a_start, a_step, a_crash, no_look, the_least, its_outer, its_done, its_deed, its_answer}
use Rattle.rmeworld.proofs.laws.worlds_keep_to_the_definition.Goals as goal

pub returns-clause-starts : goal.returns-clause-starts
returns-clause-starts c = a_start

pub returns-clause-steps : goal.returns-clause-steps
returns-clause-steps c = a_step

pub returns-clause-kind : goal.returns-clause-kind
returns-clause-kind c = no_look

pub returns-clause-least : goal.returns-clause-least
returns-clause-least c = the_least

pub returns-clause-outer : goal.returns-clause-outer
returns-clause-outer c = its_outer

pub returns-clause-done : goal.returns-clause-done
returns-clause-done c = its_done

pub returns-clause-deed : goal.returns-clause-deed
returns-clause-deed c = its_deed

pub returns-clause-answers : goal.returns-clause-answers
returns-clause-answers c = its_answer

pub returns-clause-crashes : goal.returns-clause-crashes
returns-clause-crashes c = a_crash
