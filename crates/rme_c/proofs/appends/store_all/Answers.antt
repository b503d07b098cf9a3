use Rattle.std.proofs.Common.{◌≡◌, ℕ, ◌+◌, ◌-◌, ◌*◌, false, Some, refl, sym, ap, ◌∙◌, arith}
use Rattle.redomail.specs.declared.reply.Reply.TheVariants.{Stored}
use Rattle.rmeworld.specs.declared.answer.Answer.TheVariants.{Mail}
use Rattle.rme_c.proofs.Common.{Inside, Lock, Within, RmeProcess, machine_state_at}
use Rattle.rme_c.specs.Codes.{next_for_c, reported_as}
use Rattle.rme_c.specs.declared.script_position.ScriptPosition.TheVariants as script_position
use Rattle.rme_c.proofs.Arms.{has_script_position, store_end}
use Rattle.rme_c.proofs.RunFeeds.{step_counted}
use Rattle.rme_c.proofs.StoredAll.{fits_at, stored}
use Rattle.rme_c.proofs.appends.store_all.Goals as goal

pub returns-clause-stored : goal.returns-clause-stored
returns-clause-stored c =
    let p = c.args.p.now in
    let at : ℕ = c.args.entry.at in
    let seq : ℕ = c.args.entry.seq in
    let r = c.requires in
    let few = r.few in
    let most = r.fits.1.1.0.most in
    let to = c.after_store-to.result.0 in
    let reports = c.after_store-to.result.1 in
    let k : ℕ = 8 + 2 * p.width - 1 in
    let steps : c.machine_state.new.p.steps ≡ p.steps = ap (λ (z : RmeProcess). z.steps) c.machine_state.ensures.same ∙ ap (λ (z : RmeProcess). z.steps) c.after_store-to.ensures.same in
    let procs : c.machine_state.new.p.procs ≡ p.procs = ap (λ (z : RmeProcess). z.procs) c.machine_state.ensures.same ∙ ap (λ (z : RmeProcess). z.procs) c.after_store-to.ensures.same in
    let last = fits_at p r.eight at seq r.fits k (omega arith) in
    let fed =
    step_counted p (p.steps + 3 + k) 0 (Within (script_position.Store at seq k)) c.after_store-to.new.p _ to reports c.next_at.result _ _
    (has_script_position p r.eight (script_position.Store at seq k) last)
    c.after_store-to.ensures.step c.machine_state.ensures.is
    (ap (λ (z : RmeProcess). machine_state_at z to) c.machine_state.ensures.same)
    (omega (arith, steps)) (omega (arith, few, most))
    c.next_at.ensures.next c.tell-stores.ensures.code (λ h. c.tell-stores.ensures.next h ∙ ap (λ n. next_for_c n reports.answer c.next_at.result) procs) c.tell-stores.ensures.few in
    let ends = store_end p r.eight at seq k 0 (Lock Inside, record { answer = Some (Mail Stored); blocked = false }) last (omega arith) refl in
    let done = c.tell-stores.ensures.code ∙ ap (λ a. reported_as a reports.blocked c.next_at.result) (c.after_store-to.ensures.step.answer ∙ sym ends.answer) in
    stored p r.eight at seq r.fits (p.steps + 3) k _ _ _ (omega (arith, few)) (omega arith) fed refl c.name_stores.ensures.named done
