use Rattle.std.proofs.lemmas.Result.{err_from_is_err_and}
use Rattle.lock_commands.proofs.Judging.{trace_fails, trace_reported}
use Rattle.lock_commands.proofs.judge_command.judge_command.Goals as goal

pub returns-in_err-verdict-clause-ends : goal.returns-in_err-verdict-clause-ends
returns-in_err-verdict-clause-ends g c =
    let p = err_from_is_err_and c.from_residual.result c.from_residual.ensures.1 in
    rw (p.1, p.2) (
    trace_fails c.args.json (g.R.Source.reading c.args.r.now) (g.R.Source.reading c.judge_trace.new.source) (g.W.Sink.tape c.args.w.now) _
    c.in_err-verdict.ensures.judges
    )

pub returns-clause-ends : goal.returns-clause-ends
returns-clause-ends g c =
    trace_reported c.args.json (g.R.Source.reading c.args.r.now) (g.R.Source.reading c.judge_trace.new.source)
    (g.W.Sink.tape c.args.w.now) (g.W.Sink.tape c.tell_verdict.new.w) c.in_ok-verdict.verdict c.tell_verdict.result
    c.in_ok-verdict.ensures.judges c.tell_verdict.ensures.reports
