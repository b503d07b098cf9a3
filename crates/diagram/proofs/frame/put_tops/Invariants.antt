use Rattle.std.proofs.Common.{◌≡◌, ◌++◌, drop}
use Rattle.diagram.proofs.Common.{lifeline_tops}
use Rattle.diagram.proofs.frame.put_tops.Given as goal

abbrev pub invariant-loop-phase : goal.invariant-loop-phase
invariant-loop-phase l =
    (l.out.items ++ lifeline_tops l.long l.p (drop l.phase-index l.phases) ≡ l.fn.out.items ++ lifeline_tops l.long 0 l.phases) × (l.p ≡ l.phase-index)
