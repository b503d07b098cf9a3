use Rattle.std.proofs.Common.{refl}
use Rattle.crashlab.proofs.hunts.Lines.{step_ends}
use Rattle.crashlab.proofs.hunts.round.step.Goals as goal

pub returns-in-Some-clause-ends : goal.returns-in-Some-clause-ends
returns-in-Some-clause-ends c =
    let it = c.job_on-reports.ensures in
    λ variant schedule played. step_ends variant _ _ _ played c.args.p it.accepted _ it.ok _ refl _ _ _ refl (it.reports _ played.stands)

pub returns-in-Ok-clause-ends : goal.returns-in-Ok-clause-ends
returns-in-Ok-clause-ends c =
    let it = c.in-Ok.ensures in
    λ variant schedule played. step_ends variant _ _ _ played c.args.p it.accepted _ it.ok _ refl _ _ _ refl (it.reports _ played.stands)
