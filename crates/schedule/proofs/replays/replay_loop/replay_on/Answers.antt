use Rattle.std.proofs.Common.{ap, subst, ◌∙◌}
use Rattle.schedule.proofs.ReplaysCommon.{err_from_is_err_and, IsRefused, IsOver}
use Rattle.schedule.proofs.Closing.{settled, still_refused, never_refused, cut_end, reported, ruled_on}
use Rattle.schedule.proofs.Heard.{stands_heard}
use Rattle.schedule.proofs.replays.replay_loop.replay_on.Goals as goal

pub returns-in-Err-clause-replay : goal.returns-in-Err-clause-replay
returns-in-Err-clause-replay g c start keeps =
    rw (← c.lines.ensures) (settled start g.M.Machine.behaviour.image_of _ _ _ _ c.in-Err.fault c.settle.result c.in-Err.ensures.0 c.settle.ensures.taken c.settle.ensures.fault)

pub returns-in_err-close-clause-replay : goal.returns-in_err-close-clause-replay
returns-in_err-close-clause-replay g c start keeps =
    let p = err_from_is_err_and c.from_residual.result c.from_residual.ensures.1 in
    let played = c.in_default.ensures in
    let ruled = ruled_on c.args.judge.now c.report_lines.new.judge c.new-reporter.result c.report_lines.new.reporter _ start c.new-reporter.ensures played.1 keeps in
    rw (p.1, p.2, ← c.lines.ensures)
    (cut_end start g.M.Machine.behaviour.image_of _ _ _ _ c.in-Ok.image c.verdict-verdict.result c.in_err-close.field-0.0 played.0 played.2
    (c.in-Ok.ensures.ok ∙ ap g.M.Machine.behaviour.image_of played.3) (c.verdict-verdict.ensures ∙ ruled) c.in_err-close.ensures)

pub returns-clause-replay : goal.returns-clause-replay
returns-clause-replay g c start keeps =
    let played = c.in_default.ensures in
    let ruled = ruled_on c.args.judge.now c.report_lines.new.judge c.new-reporter.result c.report_lines.new.reporter _ start c.new-reporter.ensures played.1 keeps in
    rw (← c.lines.ensures)
    (reported start g.M.Machine.behaviour.image_of _ _ _ _ c.in-Ok.image c.verdict-verdict.result played.0 played.2
    (c.in-Ok.ensures.ok ∙ ap g.M.Machine.behaviour.image_of played.3) (c.verdict-verdict.ensures ∙ ruled) c.in_ok-close.ensures)

pub returns-in-Err-clause-left : goal.returns-in-Err-clause-left
returns-in-Err-clause-left g c over =
    rw (← c.lines.ensures) (c.in-Err.ensures.1 (still_refused _ _ c.in-Err.fault c.settle.result c.settle.ensures.fault over)).stands

pub returns-in-Err-clause-heard : goal.returns-in-Err-clause-heard
returns-in-Err-clause-heard g c start keeps over =
    let stops = c.in-Err.ensures.1 (still_refused _ _ c.in-Err.fault c.settle.result c.settle.ensures.fault over) in
    rw (← c.lines.ensures) (stands_heard c.args.judge.now c.report_lines.new.judge c.new-reporter.result c.report_lines.new.reporter _ start c.new-reporter.ensures stops.hears keeps)

pub returns-in_err-close-clause-left : goal.returns-in_err-close-clause-left
returns-in_err-close-clause-left g c over =
    let p = err_from_is_err_and c.from_residual.result c.from_residual.ensures.1 in
    absurd (never_refused _ _ c.in-Ok.image c.verdict-verdict.result c.in_err-close.field-0.0 c.in_err-close.ensures (subst IsRefused p.2 (subst (λ r. IsOver r) p.1 over)))

pub returns-in_err-close-clause-heard : goal.returns-in_err-close-clause-heard
returns-in_err-close-clause-heard g c start keeps over =
    let p = err_from_is_err_and c.from_residual.result c.from_residual.ensures.1 in
    absurd (never_refused _ _ c.in-Ok.image c.verdict-verdict.result c.in_err-close.field-0.0 c.in_err-close.ensures (subst IsRefused p.2 (subst (λ r. IsOver r) p.1 over)))

pub returns-clause-heard : goal.returns-clause-heard
returns-clause-heard g c start keeps over =
    rw (← c.lines.ensures) (stands_heard c.args.judge.now c.report_lines.new.judge c.new-reporter.result c.report_lines.new.reporter _ start c.new-reporter.ensures c.in_default.ensures.1 keeps)
