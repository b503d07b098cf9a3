use Rattle.std.proofs.Common.{option_copied}
use Rattle.std.proofs.lemmas.Result.{err_from_is_err_and}
use Rattle.lock_commands.proofs.Draws.{unread}
use Rattle.lock_commands.proofs.drawn.draw_command.Goals as goal

pub returns-in_err-schedule-clause-ends : goal.returns-in_err-schedule-clause-ends
returns-in_err-schedule-clause-ends g c =
    let p = err_from_is_err_and c.from_residual-in_err-schedule.result c.from_residual-in_err-schedule.ensures.1 in
    rw (p.1, p.2)
    (unread c.args.args.now (option_copied c.args.image)
    (g.R.Source.reading c.args.r.now)
    (g.R.Source.reading c.schedule_read.new.r)
    (g.W.Sink.tape c.args.w.now) _ c.in_err-schedule.ensures.status c.in_err-schedule.ensures.wrong)
