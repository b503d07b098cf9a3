use Rattle.schedule.proofs.TextsCommon.{schedule_at, spelling, IsScheduled}
use Rattle.schedule.proofs.Schedules.{schedule_takes, schedule_again}
use Rattle.schedule.proofs.WholeTexts.{spelled_once}
use Rattle.schedule.proofs.texts.laws.one_spelling.Goals as goal

pub returns-clause-again : goal.returns-clause-again
returns-clause-again c = schedule_again

pub returns-clause-takes : goal.returns-clause-takes
returns-clause-takes c = schedule_takes

pub returns-clause-only : goal.returns-clause-only
returns-clause-only c = spelled_once schedule_at spelling IsScheduled schedule_again
