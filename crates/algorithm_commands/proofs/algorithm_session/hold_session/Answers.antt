use Rattle.std.proofs.Common.{◌∙◌, option_copied, refl}
use Rattle.std.proofs.lemmas.Result.{err_from_is_err_and}
use Rattle.algorithm_commands.specs.AlgorithmSessions.{algorithm_machine}
use Rattle.command_parts.specs.Devices.{devices}
use Rattle.command_parts.proofs.Beginning.{cant_play, cut_at_start, held_from, without_schedule, not_begun}
use Rattle.algorithm_commands.proofs.algorithm_session.hold_session.Goals as goal

pub returns-in_err-schedule-clause-ends : goal.returns-in_err-schedule-clause-ends
returns-in_err-schedule-clause-ends g c =
    let p = err_from_is_err_and c.from_residual.result c.from_residual.ensures.1 in
    rw (p.1, p.2) (
    not_begun (algorithm_machine c.args.algorithm) (option_copied c.args.start) (g.R.Source.reading c.args.r.now) (g.R.Source.reading c.first_schedule.new.r)
    (g.F.Folder.used c.args.folder.now) (g.W.Sink.tape c.args.w.now) _
    (without_schedule (algorithm_machine c.args.algorithm) (option_copied c.args.start) (g.R.Source.reading c.args.r.now) (g.R.Source.reading c.first_schedule.new.r) _ c.in_err-schedule.ensures.unread)
    )

pub returns-in_err-monitor-clause-ends : goal.returns-in_err-monitor-clause-ends
returns-in_err-monitor-clause-ends g c =
    let p = err_from_is_err_and c.from_residual-in_err-monitor.result c.from_residual-in_err-monitor.ensures.1 in
    rw (p.1, p.2) (
    not_begun (algorithm_machine c.args.algorithm) (option_copied c.args.start) (g.R.Source.reading c.args.r.now) (g.R.Source.reading c.first_schedule.new.r)
    (g.F.Folder.used c.args.folder.now) (g.W.Sink.tape c.args.w.now) _
    (cant_play (algorithm_machine c.args.algorithm) (option_copied c.args.start) (g.R.Source.reading c.args.r.now) (g.R.Source.reading c.first_schedule.new.r)
    c.first_schedule.new.buffer.items c.in_ok-schedule.ensures.opens.0 c.in_ok-schedule.schedule _ c.in_ok-schedule.ensures.opens.1 c.in_ok-schedule.ensures.opens.2
    c.in_err-monitor.ensures.unmade)
    )

pub returns-clause-ends : goal.returns-clause-ends
returns-clause-ends g c =
    held_from (algorithm_machine c.args.algorithm) (option_copied c.args.start) (g.R.Source.reading c.args.r.now) (g.R.Source.reading c.first_schedule.new.r)
    (g.F.Folder.used c.args.folder.now) (g.W.Sink.tape c.args.w.now)
    (devices (g.R.Source.reading c.hold.new.r) (g.F.Folder.used c.hold.new.folder) (g.W.Sink.tape c.hold.new.w))
    c.first_schedule.new.buffer.items c.in_ok-schedule.schedule c.hold.result c.in_ok-schedule.ensures.opens c.in_ok-monitor.ensures.accepted
    (rw (c.in_ok-session.ensures ∙ c.in_ok-monitor.ensures.made) at c.hold.ensures.ends)

pub returns-in_err-session-clause-ends : goal.returns-in_err-session-clause-ends
returns-in_err-session-clause-ends g c =
    let p = err_from_is_err_and c.from_residual-in_err-session.result c.from_residual-in_err-session.ensures.1 in
    rw (p.1, p.2) (
    cut_at_start (algorithm_machine c.args.algorithm) (option_copied c.args.start) (g.R.Source.reading c.args.r.now) (g.R.Source.reading c.first_schedule.new.r)
    (g.F.Folder.used c.args.folder.now) (g.W.Sink.tape c.args.w.now) (g.W.Sink.tape c.args.w.now) c.first_schedule.new.buffer.items
    c.in_ok-schedule.schedule _ c.in_ok-schedule.ensures.opens c.in_ok-monitor.ensures.accepted (record { taken = refl; fine = refl })
    )
