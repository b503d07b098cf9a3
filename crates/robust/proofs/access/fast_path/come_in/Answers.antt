use Rattle.std.proofs.Common.{◌≡◌, true, false, sym, ◌∙◌}
use Rattle.robust.proofs.AccessCommon.{Inside, Check, script, Checking, Doing, process_state_now, SeatView, IsSame, checking_process_state}
use Rattle.robust.proofs.Straight.{comes_in, turned_away}
use Rattle.robust.proofs.access.fast_path.come_in.Goals as goal

checks_at : (y m : SeatView) → IsSame y m → process_state_now m ≡ checking_process_state y → process_state_now m ≡ checking_process_state m
checks_at y m same at = at ∙ (λ i. record { lock = Inside; mended = true; barred = false; script_state = Doing Checking (script (sym same.0 i).layout (sym same.1 i) Check) })

pub returns-clause-clean : goal.returns-clause-clean
returns-clause-clean c = λ e.
    let x = c.args.port.now in
    let m = c.mark.new.port in
    comes_in m c.check.new.port x 1 c.mark.ensures.comes.1 c.check.result (checks_at x m c.mark.ensures.same c.mark.ensures.comes.0) c.check.ensures.advances e

pub returns-clause-ruined : goal.returns-clause-ruined
returns-clause-ruined c = λ e.
    let x = c.args.port.now in
    let m = c.mark.new.port in
    turned_away m c.check.new.port x 1 c.mark.ensures.comes.1 c.check.result (checks_at x m c.mark.ensures.same c.mark.ensures.comes.0) c.check.ensures.advances e
