use Rattle.std.proofs.Common.{◌-◌}
use Rattle.diagram.proofs.Seen.{StepsOn}
use Rattle.diagram.proofs.session.way.steps_to_answer.Given as goal

abbrev pub invariant-loop-k : goal.invariant-loop-k
invariant-loop-k g l = StepsOn g.M.Automaton.transitions l.p l.n l.fn.machine l.k (l.n - l.k) l.machine
