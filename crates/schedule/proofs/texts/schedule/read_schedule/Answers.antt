use Rattle.schedule.proofs.TextsCommon.{schedule_at, spelling, IsScheduled}
use Rattle.schedule.proofs.Schedules.{schedule_takes, schedule_again}
use Rattle.schedule.proofs.WholeTexts.{is_found, is_only}
use Rattle.schedule.proofs.texts.schedule.read_schedule.Goals as goal

pub returns-clause-found : goal.returns-clause-found
returns-clause-found c = is_found schedule_at spelling IsScheduled schedule_takes c.args.text.now c.schedule_of.result c.schedule_of.ensures

pub returns-clause-only : goal.returns-clause-only
returns-clause-only c = is_only schedule_at spelling IsScheduled schedule_again c.args.text.now c.schedule_of.result c.schedule_of.ensures
