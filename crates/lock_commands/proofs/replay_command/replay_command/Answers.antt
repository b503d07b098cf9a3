use Rattle.std.proofs.Common.{rules, option_copied, arith}
use Rattle.std.proofs.lemmas.Result.{err_from_is_err_and}
use Rattle.lock_commands.specs.Replays.{replay_request}
use Rattle.lock_commands.proofs.Draws.{untold}
use Rattle.lock_commands.proofs.replay_command.replay_command.Goals as goal

pub returns-in_err-schedule-clause-ends : goal.returns-in_err-schedule-clause-ends
returns-in_err-schedule-clause-ends g c =
    let p = err_from_is_err_and c.from_residual-in_err-schedule.result c.from_residual-in_err-schedule.ensures.1 in
    rw (p.1, p.2) (
      λ one right. omega (arith, one, c.in_err-schedule.ensures.status),
      search rules,
      λ new. tt,
      λ reports.
          untold (replay_request c.args.args.now) (option_copied c.args.image)
          (g.R.Source.reading c.args.r.now)
          (g.R.Source.reading c.schedule_read.new.r)
          (g.W.Sink.tape c.args.w.now) _ c.in_err-schedule.ensures.wrong,
      c.in_err-schedule.ensures.unread,
    )
