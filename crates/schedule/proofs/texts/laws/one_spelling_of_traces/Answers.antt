use Rattle.schedule.proofs.TextsCommon.{trace_spelling, IsTraced, trace_at}
use Rattle.schedule.proofs.Traces.{trace_takes, trace_again}
use Rattle.schedule.proofs.WholeTexts.{spelled_once}
use Rattle.schedule.proofs.texts.laws.one_spelling_of_traces.Goals as goal

pub returns-clause-again : goal.returns-clause-again
returns-clause-again c = trace_again

pub returns-clause-takes : goal.returns-clause-takes
returns-clause-takes c = trace_takes

pub returns-clause-only : goal.returns-clause-only
returns-clause-only c = spelled_once trace_at trace_spelling IsTraced trace_again
