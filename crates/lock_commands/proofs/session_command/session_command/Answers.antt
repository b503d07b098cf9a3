use Rattle.std.proofs.Common.{refl, option_copied}
use Rattle.std.proofs.lemmas.Result.{err_from_is_err_and}
use Rattle.command_parts.specs.Devices.{devices}
use Rattle.lock_commands.specs.Settings.{lock_machine}
use Rattle.command_parts.proofs.Beginning.{cut_at_start, held_from, not_begun}
use Rattle.lock_commands.proofs.session_command.session_command.Goals as goal

pub returns-clause-ends : goal.returns-clause-ends
returns-clause-ends g c =
    held_from lock_machine (option_copied c.args.start) (g.R.Source.reading c.args.r.now) (g.R.Source.reading c.first_schedule.new.r)
    (g.F.Folder.used c.args.folder.now) (g.W.Sink.tape c.args.w.now)
    (devices (g.R.Source.reading c.hold.new.r) (g.F.Folder.used c.hold.new.folder) (g.W.Sink.tape c.hold.new.w))
    c.first_schedule.new.buffer.items c.in_ok-schedule.schedule c.hold.result c.in_ok-schedule.ensures.opens c.in_ok-schedule.ensures.accepted
    (rw c.in_ok-session.ensures at c.hold.ensures.ends)

-- it can't begin
pub returns-in_err-schedule-clause-ends : goal.returns-in_err-schedule-clause-ends
returns-in_err-schedule-clause-ends g c =
    let p = err_from_is_err_and c.from_residual.result c.from_residual.ensures.1 in
    rw (p.1, p.2) (
    not_begun lock_machine (option_copied c.args.start) (g.R.Source.reading c.args.r.now) (g.R.Source.reading c.first_schedule.new.r)
    (g.F.Folder.used c.args.folder.now) (g.W.Sink.tape c.args.w.now) _ c.in_err-schedule.ensures.refused
    )

-- there is no memory for it
pub returns-in_err-session-clause-ends : goal.returns-in_err-session-clause-ends
returns-in_err-session-clause-ends g c =
    let p = err_from_is_err_and c.from_residual-in_err-session.result c.from_residual-in_err-session.ensures.1 in
    rw (p.1, p.2) (
    cut_at_start lock_machine (option_copied c.args.start) (g.R.Source.reading c.args.r.now) (g.R.Source.reading c.first_schedule.new.r)
    (g.F.Folder.used c.args.folder.now) (g.W.Sink.tape c.args.w.now) (g.W.Sink.tape c.args.w.now) c.first_schedule.new.buffer.items
    c.in_ok-schedule.schedule _ c.in_ok-schedule.ensures.opens c.in_ok-schedule.ensures.accepted (record { taken = refl; fine = refl })
    )
