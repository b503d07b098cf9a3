use Rattle.schedule.proofs.ReplaysCommon.{reports_of}
use Rattle.schedule.proofs.Playing.{deeds_reported, tells}
use Rattle.schedule.proofs.replays.reporter.Reporter.record_all.Goals as goal

pub returns : goal.returns
returns g c =
    let p = c.args.p in
    let deed = c.args.deed.now in
    let answer = c.args.answer.now in
    tells _ _ _ _ (reports_of p deed answer) c.write.result c.write.ensures.written c.write.ensures.halted
    (rw (deeds_reported p deed answer) (rw c.write.ensures.same c.hear.ensures))
