use Rattle.std.proofs.Common.{◌≡◌, ℕ, ◌+◌, ◌<◌, sym, subst, refl, arith}
use Rattle.rme_c.proofs.Common.{RmeProcess, machine_state_of}
use Rattle.rmecore.specs.declared.stage.Stage.TheVariants.{Unmarking}
use Rattle.rmecore.specs.declared.core_call.CoreCall.TheVariants.{Unlock}
use Rattle.rme_c.specs.Codes.{code_after_step}
use Rattle.rme_c.specs.Runs.{counted_of, fed_zeros, feed_code}
use Rattle.rme_c.proofs.RunCodes.{reports_after, left_rests}
use Rattle.rme_c.proofs.RunFeeds.{lands_at, leaving_at, left_at, fed_after}
use Rattle.rme_c.proofs.runs.after_exit_run.Goals as goal

pub stage_feed-requires-clause-here : goal.stage_feed-requires-clause-here
stage_feed-requires-clause-here c =
    let p = c.args.p.now in
    let small : p.steps < 18446744073709551615 = omega (arith, c.requires.steps, c.ranges.steps) in
    leaving_at p c.at-p.result (p.steps + 1) c.requires.below c.requires.few small (rw c.at-p.ensures refl)

pub returns-clause-fed : goal.returns-clause-fed
returns-clause-fed c =
    let p = c.args.p.now in
    let small : p.steps < 18446744073709551615 = omega (arith, c.requires.steps, c.ranges.steps) in
    let m : RmeProcess = record p { position = c.at-p.result; steps = p.steps + 1 } in
    rw c.requires.one (fed_after m _ c.args.value _ _ _ _ (left_at p c.at-p.result (p.steps + 1) c.requires.below c.requires.few small c.requires.here (rw c.at-p.ensures refl) refl) c.stage_feed.ensures)

pub returns-clause-code : goal.returns-clause-code
returns-clause-code c =
    let p = c.args.p.now in
    let small : p.steps < 18446744073709551615 = omega (arith, c.requires.steps, c.ranges.steps) in
    let m : RmeProcess = record p { position = c.at-p.result; steps = p.steps + 1 } in
    subst (λ (k : ℕ). c.stage_feed.result ≡ feed_code (code_after_step (fed_zeros k (counted_of p)).machine c.args.value) (machine_state_of c.stage_feed.new.p)) (sym c.requires.one)
    (reports_after m _ _ c.args.value _ _ _ (left_at p c.at-p.result (p.steps + 1) c.requires.below c.requires.few small c.requires.here (rw c.at-p.ensures refl) refl) c.stage_feed.ensures
    (left_rests p m c.stage_feed.new.p c.args.value _ (lands_at p (Unmarking Unlock) c.at-p.result (p.steps + 1) c.requires.below c.requires.few (rw c.at-p.ensures refl)) c.stage_feed.ensures.exact))
