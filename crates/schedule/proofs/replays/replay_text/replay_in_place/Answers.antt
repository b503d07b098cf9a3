use Rattle.std.proofs.Common.{ap, ◌∙◌}
use Rattle.schedule.proofs.ReplaysCommon.{err_from_is_err_and}
use Rattle.schedule.proofs.Closing.{settled, no_image, cut_end, reported, ruled_on}
use Rattle.schedule.proofs.replays.replay_text.replay_in_place.Goals as goal

pub returns-in-Err : goal.returns-in-Err
returns-in-Err g c start lines keeps read =
    settled start g.M.Machine.behaviour.image_of _ _ _ _ c.in-Err.fault c.settle.result (c.in-Err.ensures lines read).0 c.settle.ensures.taken c.settle.ensures.fault

pub returns-in_err-close : goal.returns-in_err-close
returns-in_err-close g c start lines keeps read =
    let p = err_from_is_err_and c.from_residual.result c.from_residual.ensures.1 in
    let played = c.in_default.ensures lines read in
    let ruled = ruled_on c.args.judge.now c.play_from.new.judge c.new-reporter.result c.play_from.new.reporter _ start c.new-reporter.ensures played.1 keeps in
    rw (p.1, p.2)
    (cut_end start g.M.Machine.behaviour.image_of _ _ _ _ c.in-Ok.image c.verdict-verdict.result c.in_err-close.field-0.0 played.0 played.2
    (c.in-Ok.ensures.ok ∙ ap g.M.Machine.behaviour.image_of played.3) (c.verdict-verdict.ensures ∙ ruled) c.in_err-close.ensures)

pub returns : goal.returns
returns g c start lines keeps read =
    let played = c.in_default.ensures lines read in
    let ruled = ruled_on c.args.judge.now c.play_from.new.judge c.new-reporter.result c.play_from.new.reporter _ start c.new-reporter.ensures played.1 keeps in
    reported start g.M.Machine.behaviour.image_of _ _ _ _ c.in-Ok.image c.verdict-verdict.result played.0 played.2
    (c.in-Ok.ensures.ok ∙ ap g.M.Machine.behaviour.image_of played.3) (c.verdict-verdict.ensures ∙ ruled) c.in_ok-close.ensures

pub returns-in_default-image : goal.returns-in_default-image
returns-in_default-image g c start lines keeps read =
    let played = c.in_default.ensures lines read in
    no_image start g.M.Machine.behaviour.image_of _ _ _ played.0 played.2
