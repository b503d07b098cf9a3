use Rattle.std.proofs.Common.{refl, ◌∙◌}
use Rattle.schedule.proofs.Closing.{ruled_on}
use Rattle.schedule.specs.RunningVerdicts.{first_running_verdict}
use Rattle.algorithm_lab.proofs.verdict.judge_reports.Goals as goal

pub returns : goal.returns
returns c start keeps = c.verdict.ensures ∙ ruled_on c.args.judge.now c.hear_all.new.judge first_running_verdict c.hear_all.new.running_verdict _ start refl c.hear_all.ensures keeps
