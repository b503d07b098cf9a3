use Rattle.std.proofs.Common.{◌≡◌, ℕ, ◌+◌, ◌<◌, sym, ap, subst, refl, arith}
use Rattle.rme_c.proofs.Common.{RmeProcess, machine_state_of}
use Rattle.rme_c.specs.Codes.{code_after_step}
use Rattle.rme_c.specs.Runs.{counted_of, fed_zeros, feed_code}
use Rattle.rme_c.proofs.RunCodes.{reports_after, inside_rests}
use Rattle.rme_c.proofs.RunFeeds.{checks_at, marked_at, fed_after, none_left}
use Rattle.rme_c.specs.declared.process.RmePosition.{RmePosition}
use Rattle.rme_c.proofs.runs.after_mark_run.Goals as goal

pub check_feed-requires-clause-here : goal.check_feed-requires-clause-here
check_feed-requires-clause-here c =
    let p = c.args.p.now in
    let small : p.steps < 18446744073709551615 = omega (arith, c.requires.steps, c.ranges.steps) in
    checks_at p c.at-p.result (p.steps + 1) c.requires.below c.requires.few small (ap (λ (z : RmePosition). z.at) c.at-p.ensures)

pub returns-clause-fed : goal.returns-clause-fed
returns-clause-fed c =
    let p = c.args.p.now in
    let small : p.steps < 18446744073709551615 = omega (arith, c.requires.steps, c.ranges.steps) in
    let m : RmeProcess = record p { unmended = 0; position = c.at-p.result; steps = p.steps + 1 } in
    rw c.requires.one (fed_after m _ c.args.value _ _ _ _ (marked_at p c.at-p.result (p.steps + 1) c.requires.below c.requires.few small c.args.number c.args.from c.requires.here (none_left _ c.requires.read) (ap (λ (z : RmePosition). z.at) c.at-p.ensures) refl) c.check_feed.ensures.fed)

pub returns-clause-code : goal.returns-clause-code
returns-clause-code c =
    let p = c.args.p.now in
    let small : p.steps < 18446744073709551615 = omega (arith, c.requires.steps, c.ranges.steps) in
    let m : RmeProcess = record p { unmended = 0; position = c.at-p.result; steps = p.steps + 1 } in
    subst (λ (k : ℕ). c.check_feed.result ≡ feed_code (code_after_step (fed_zeros k (counted_of p)).machine c.args.value) (machine_state_of c.check_feed.new.p)) (sym c.requires.one)
    (reports_after m _ _ c.args.value _ _ _ (marked_at p c.at-p.result (p.steps + 1) c.requires.below c.requires.few small c.args.number c.args.from c.requires.here (none_left _ c.requires.read) (ap (λ (z : RmePosition). z.at) c.at-p.ensures) refl) c.check_feed.ensures.fed
    (inside_rests c.check_feed.new.p (c.check_feed.ensures.inside c.requires.sound)))
