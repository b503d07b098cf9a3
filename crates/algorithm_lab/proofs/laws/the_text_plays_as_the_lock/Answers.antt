use Rattle.algorithm_lab.proofs.LockLines.{lines_same, one_answer, image_words}
use Rattle.algorithm_lab.proofs.laws.the_text_plays_as_the_lock.Goals as goal

pub returns-clause-lines : goal.returns-clause-lines
returns-clause-lines c = λ a n limit first lines b most high each. lines_same a b n limit most high first lines each

pub returns-clause-answers : goal.returns-clause-answers
returns-clause-answers c = λ a p done b. one_answer a b p done

pub returns-clause-image : goal.returns-clause-image
returns-clause-image c = λ n limit p w low. image_words n limit p w low
