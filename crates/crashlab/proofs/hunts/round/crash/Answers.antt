use Rattle.std.proofs.Common.{Some, refl, subst}
use Rattle.crashlab.proofs.Common.{Deed, IsDeedGiven, first_world, deeds_of_lines}
use Rattle.crashlab.proofs.hunts.Lines.{crash_ends}
use Rattle.crashlab.proofs.hunts.round.crash.Goals as goal

pub returns-in-Ok-clause-ends : goal.returns-in-Ok-clause-ends
returns-in-Ok-clause-ends c =
    let it = c.in-Ok.ensures in
    λ variant schedule played.
    let reports = subst (λ (d : Deed). IsDeedGiven (deeds_of_lines (first_world variant) schedule.lines) (Some d) c.tell-made.new.judge c.tell-made.result) it.reports (c.tell-made.ensures _ played.stands) in
    crash_ends variant _ _ _ played c.args.p it.accepted _ it.ok c.tell-made.result _ _ refl reports
