use Rattle.std.proofs.Common.{ap, sym, subst, append-nil}
use Rattle.crashlab.proofs.Common.{StandsAfter, empty_state, Start, On, with_line, first_world, deeds_of_lines}
use Rattle.crashlab.proofs.hunts.Lines.{start_ends}
use Rattle.crashlab.proofs.hunts.round.start.Goals as goal

pub returns-in-Ok-clause-ends : goal.returns-in-Ok-clause-ends
returns-in-Ok-clause-ends c =
    let it = c.in-Ok.ensures in
    λ variant schedule judge played.
    start_ends variant _ _ _ played c.args.p c.args.call it.accepted _ it.ok On _ _
    (ap (λ call. with_line schedule (Start c.args.p call)) (sym c.requires))
    (subst (λ list. StandsAfter (empty_state 3 64) list judge) (sym (append-nil (deeds_of_lines (first_world variant) schedule.lines))) played.stands)
