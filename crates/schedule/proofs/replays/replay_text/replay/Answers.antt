use Rattle.std.proofs.Common.{inl, inr, subst}
use Rattle.schedule.proofs.ReplaysCommon.{err_from_is_err_and, schedule_at, OfText}
use Rattle.schedule.proofs.Heading.{silent, unread, whole_text}
use Rattle.schedule.proofs.replays.replay_text.replay.Goals as goal

pub returns-clause-known : goal.returns-clause-known
returns-clause-known g c = λ text coming.
    let read = c.in_ok-text.ensures.known in
    inr (subst (λ t. OfText (g.W.Sink.tape c.args.w.now) (g.W.Sink.tape c.replay_text.new.w) (schedule_at t) c.replay_text.result)
    (whole_text text c.in_ok-text.text.items _ _ coming read.0 read.1) c.replay_text.ensures.of)

pub returns-in_err-text-clause-known : goal.returns-in_err-text-clause-known
returns-in_err-text-clause-known g c = λ text coming.
    let p = err_from_is_err_and c.from_residual.result c.from_residual.ensures.1 in
    rw (p.1, p.2) (inl (unread (g.R.Source.reading c.args.source.now) (g.R.Source.reading c.read_all.new.source) c.in_err-text.field-0.0 c.in_err-text.ensures.unended c.in_err-text.ensures.fault, silent (g.W.Sink.tape c.args.w.now)))
