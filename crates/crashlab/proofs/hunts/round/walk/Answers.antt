use Rattle.std.proofs.Common.{None, refl, sym, subst, append-nil}
use Rattle.crashlab.proofs.Common.{StandsAfter, empty_state, On, first_world, deeds_of_lines}
use Rattle.crashlab.proofs.hunts.Lines.{step_ends}
use Rattle.crashlab.proofs.hunts.round.walk.Goals as goal

pub returns-then-take_silent_step-clause-ends : goal.returns-then-take_silent_step-clause-ends
returns-then-take_silent_step-clause-ends c =
    let step = c.if-take_silent_step.ensures in
    λ variant schedule played.
    step_ends variant _ _ _ played c.args.p (step.accepted refl) _ (step.ok refl) None (sym (step.silent refl).0) On _ _ refl
    (subst (λ list. StandsAfter (empty_state 3 64) list c.args.judge.now) (sym (append-nil (deeds_of_lines (first_world variant) schedule.lines))) played.stands)
