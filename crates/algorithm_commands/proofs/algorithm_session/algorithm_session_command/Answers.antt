use Rattle.std.proofs.Common.{option_copied}
use Rattle.std.proofs.lemmas.Result.{err_from_is_err_and}
use Rattle.command_parts.specs.Devices.{devices}
use Rattle.algorithm_commands.proofs.AlgorithmSessions.{no_session, session_held}
use Rattle.algorithm_commands.proofs.algorithm_session.algorithm_session_command.Goals as goal

pub returns-in_err-algorithm-clause-ends : goal.returns-in_err-algorithm-clause-ends
returns-in_err-algorithm-clause-ends g c =
    let p = err_from_is_err_and c.from_residual.result c.from_residual.ensures.1 in
    rw (p.1, p.2) (
    no_session (option_copied c.args.text) (g.R.Source.reading c.args.r.now) (g.F.Folder.used c.args.folder.now) (g.W.Sink.tape c.args.w.now) _ c.in_err-algorithm.ensures.unread
    )

pub returns-in_err-numbers-clause-ends : goal.returns-in_err-numbers-clause-ends
returns-in_err-numbers-clause-ends g c =
    let p = err_from_is_err_and c.from_residual-in_err-numbers.result c.from_residual-in_err-numbers.ensures.1 in
    rw (p.1, p.2) (
    no_session (option_copied c.args.text) (g.R.Source.reading c.args.r.now) (g.F.Folder.used c.args.folder.now) (g.W.Sink.tape c.args.w.now) _
    (c.in_err-numbers.ensures.unread (option_copied c.args.text))
    )

pub returns-clause-ends : goal.returns-clause-ends
returns-clause-ends g c =
    session_held (option_copied c.args.text) (option_copied c.args.start)
    (devices (g.R.Source.reading c.args.r.now) (g.F.Folder.used c.args.folder.now) (g.W.Sink.tape c.args.w.now))
    (devices (g.R.Source.reading c.hold_session.new.r) (g.F.Folder.used c.hold_session.new.folder) (g.W.Sink.tape c.hold_session.new.w)) c.hold_session.result c.in_ok-algorithm.algorithm
    c.in_ok-algorithm.ensures.spells c.in_ok-algorithm.ensures.ends c.in_ok-algorithm.ensures.leads c.hold_session.ensures.ends
