use Rattle.diagram.proofs.lock_marks.marks_of_act.Goals as goal

pub returns-in-Silent : goal.returns-in-Silent
returns-in-Silent c = λ run copies. rw c.in-Silent.is (c.marks_of_step.ensures run copies)

pub returns-in-Telling : goal.returns-in-Telling
returns-in-Telling c = λ run copies. rw c.in-Telling.is (c.marks_of_step-in-Telling.ensures run copies)
