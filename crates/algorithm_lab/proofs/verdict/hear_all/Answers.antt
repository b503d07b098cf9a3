use Rattle.std.proofs.Common.{◌≡◌, take, subst, arith}
use Rattle.std.proofs.lemmas.List.{take_all}
use Rattle.schedule.proofs.Heard.{hears_none}
use Rattle.schedule.specs.RunningVerdicts.{Hears, running_judge}
use Rattle.algorithm_lab.specs.Runs.{deeds_of}
use Rattle.algorithm_lab.proofs.HeardDeeds.{hears_next}
use Rattle.algorithm_lab.proofs.verdict.hear_all.Goals as goal

pub loop-one-init : goal.loop-one-init
loop-one-init c = hears_none _

pub loop-one-preserved : goal.loop-one-preserved
loop-one-preserved c =
    hears_next _ _ _ c.args.reports.now c.loop-one.one-index _ c.loop-one-test.true c.loop-one.invariant c.hear.ensures

pub returns : goal.returns
returns c =
    let all : take c.loop-one.one-index c.args.reports.now ≡ c.args.reports.now = take_all c.loop-one.one-index c.args.reports.now (omega (arith, c.loop-one-test.false)) in
    subst (λ reports. Hears (running_judge c.args.judge.now c.args.running_verdict.now) (deeds_of reports) (running_judge c.loop-one.judge c.loop-one.running_verdict)) all c.loop-one.invariant
