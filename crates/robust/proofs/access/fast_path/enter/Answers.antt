use Rattle.std.proofs.Common.{◌≡◌, false, ap}
use Rattle.robust.proofs.AccessCommon.{ProcessState, process_state_now}
use Rattle.robust.proofs.Entering.{enters_then, enters_stands}
use Rattle.robust.proofs.access.fast_path.enter.Goals as goal

pub returns-in-Wait-default-default-false : goal.returns-in-Wait-default-default-false
returns-in-Wait-default-default-false c =
    let x = c.args.port.now in
    let d = c.through_doorway-stage in
    let w = d.ensures.way in
    let e = c.enter_from_line-reached in
    let free : (process_state_now x).barred ≡ false = ap (λ (q : ProcessState). q.barred) c.requires.at in
    enters_then x d.new.port e.new.port d.result.1 e.result.1 e.result.0 w.unanswered w.same (ap (λ (q : ProcessState). q.mended) w.at) free e.ensures.enters

pub returns-in_default : goal.returns-in_default
returns-in_default c =
    let x = c.args.port.now in
    let d = c.through_doorway-stage in
    let w = d.ensures.way in
    let free : (process_state_now x).barred ≡ false = ap (λ (q : ProcessState). q.barred) c.requires.at in
    enters_stands x d.new.port d.result.1 d.result.0 w.at w.same d.ensures.begun free w.unanswered
