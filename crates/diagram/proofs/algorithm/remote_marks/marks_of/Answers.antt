use Rattle.std.proofs.Common.{sym, ◌∙◌}
use Rattle.diagram.proofs.AlgorithmMarks.{marks_of_same}
use Rattle.diagram.proofs.algorithm.remote_marks.marks_of.Goals as goal

pub returns-in-Took : goal.returns-in-Took
returns-in-Took c = λ run copies.
    c.marks_if_declared.ensures run copies ∙ sym (marks_of_same c.args.world.now run c.args.p c.args.act c.in-Took.access c.in-Took.is)
