use Rattle.std.proofs.Common.{◌≡◌, ◌+◌, ap, ◌∙◌, arith}
use Rattle.rme_c.proofs.Common.{saturate, Within, RmeProcess, machine_state_at}
use Rattle.rme_c.proofs.Arms.{has_script_position}
use Rattle.rme_c.proofs.Feeds.{step_fed}
use Rattle.rme_c.proofs.exports.script_position_feed.Goals as goal

pub returns : goal.returns
returns c =
    let p = c.args.p.now in
    let to = c.script_position_step-to.result.0 in
    let steps : c.machine_state.new.p.steps ≡ p.steps = ap (λ (z : RmeProcess). z.steps) c.machine_state.ensures.same ∙ ap (λ (z : RmeProcess). z.steps) c.script_position_step-to.ensures.same in
    let procs : c.machine_state.new.p.procs ≡ p.procs = ap (λ (z : RmeProcess). z.procs) c.machine_state.ensures.same ∙ ap (λ (z : RmeProcess). z.procs) c.script_position_step-to.ensures.same in
    let counts : c.saturating_add-p.result ≡ saturate (p.steps + 1) = omega (arith, c.saturating_add-p.ensures, steps) in
    step_fed p (Within c.args.script_position) c.args.value c.script_position_step-to.new.p _ to c.script_position_step-to.result.1 _ _ _ c.machine_state.new.p.procs _ c.requires.here (has_script_position p c.requires.eight c.args.script_position c.requires.fits) c.script_position_step-to.ensures.step c.machine_state.ensures.is
    (ap (λ (z : RmeProcess). machine_state_at z to) c.machine_state.ensures.same)
    c.tell.ensures.next c.tell.ensures.kept c.tell.ensures.few procs c.next_at.ensures.next c.tell.ensures.code counts
