use Rattle.schedule.proofs.TextsCommon.{trace_spelling, IsTraced, trace_at}
use Rattle.schedule.proofs.WholeTexts.{is_found, is_only}
use Rattle.schedule.proofs.Traces.{trace_takes, trace_again}
use Rattle.schedule.proofs.texts.trace.read_trace.Goals as goal

pub returns-clause-found : goal.returns-clause-found
returns-clause-found c = is_found trace_at trace_spelling IsTraced trace_takes c.args.text.now c.trace_of.result c.trace_of.ensures

pub returns-clause-only : goal.returns-clause-only
returns-clause-only c = is_only trace_at trace_spelling IsTraced trace_again c.args.text.now c.trace_of.result c.trace_of.ensures
