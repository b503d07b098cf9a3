use Rattle.schedule.proofs.ReplaysCommon.{err_from_is_err_and, Step}
use Rattle.schedule.proofs.replays.play_in_place.play_first.Goals as goal

pub returns-in_err-take_steps-clause-err : goal.returns-in_err-take_steps-clause-err
returns-in_err-take_steps-clause-err g c =
    let p = err_from_is_err_and c.from_residual.result c.from_residual.ensures.1 in
    let line = Step c.in-Some.p c.in-Some.n in
    rw (p.1, p.2) (line, c.in-Some.after.now, c.in-Some.ensures.read c.args.width, c.in_err-take_steps.ensures)

pub returns-clause-ok : goal.returns-clause-ok
returns-clause-ok g c =
    let line = Step c.in-Some.p c.in-Some.n in
    (line, c.in-Some.ensures.read c.args.width, c.in_ok-take_steps.ensures)
