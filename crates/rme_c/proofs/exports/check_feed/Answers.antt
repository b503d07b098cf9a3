use Rattle.std.proofs.Common.{◌≡◌, ◌+◌, ap, ◌∙◌, arith}
use Rattle.rme_c.proofs.Common.{saturate, Within, RmeProcess, machine_state_at}
use Rattle.rme_c.specs.declared.script_position.ScriptPosition.TheVariants.{Checking}
use Rattle.rme_c.proofs.Arms.{has_script_position}
use Rattle.rme_c.proofs.Feeds.{step_fed}
use Rattle.rme_c.proofs.exports.check_feed.Goals as goal

pub returns-clause-fed : goal.returns-clause-fed
returns-clause-fed c =
    let p = c.args.p.now in
    let to = c.after_check-after_it.result.0 in
    let procs : c.machine_state.new.p.procs ≡ p.procs = ap (λ (z : RmeProcess). z.procs) c.machine_state.ensures.same ∙ ap (λ (z : RmeProcess). z.procs) c.after_check-after_it.ensures.same in
    let counts : c.args.steps ≡ saturate (p.steps + 1) = omega (arith, c.requires.steps, c.ranges.steps) in
    step_fed p (Within Checking) c.args.value c.after_check-after_it.new.p _ to c.after_check-after_it.result.1 _ _ _ c.machine_state.new.p.procs _ c.requires.here (has_script_position p c.requires.eight Checking c.requires.fits) c.after_check-after_it.ensures.step c.machine_state.ensures.is
    (ap (λ (z : RmeProcess). machine_state_at z to) c.machine_state.ensures.same)
    c.tell.ensures.next c.tell.ensures.kept c.tell.ensures.few procs c.next_at.ensures.next c.tell.ensures.code counts
