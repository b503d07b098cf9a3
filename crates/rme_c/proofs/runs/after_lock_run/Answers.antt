use Rattle.std.proofs.Common.{◌+◌, ◌*◌, ◌<◌, ◌≤◌, ap, refl, arith}
use Rattle.rme_c.proofs.Common.{RmeProcess}
use Rattle.rme_c.proofs.RunCodes.{reports_after, inside_rests}
use Rattle.rme_c.proofs.RunFeeds.{checks_at, locked_at, fed_after}
use Rattle.rme_c.specs.declared.process.RmePosition.{RmePosition}
use Rattle.rme_c.proofs.runs.after_lock_run.Goals as goal

pub check_feed-requires-clause-here : goal.check_feed-requires-clause-here
check_feed-requires-clause-here c =
    let p = c.args.p.now in
    let small : p.steps < 18446744073709551615 = omega (arith, c.requires.steps, c.ranges.steps) in
    checks_at p c.at-p.result (p.steps + c.args.zeros) c.requires.below c.requires.few small (ap (λ (z : RmePosition). z.at) c.at-p.ensures)

pub returns-clause-fed : goal.returns-clause-fed
returns-clause-fed c =
    let p = c.args.p.now in
    let small : p.steps < 18446744073709551615 = omega (arith, c.requires.steps, c.ranges.steps) in
    let most : p.steps + c.args.zeros ≤ 18446744073709551615 = omega (arith, c.requires.steps, c.ranges.steps) in
    let m : RmeProcess = record p { unmended = 0; position = c.at-p.result; steps = p.steps + c.args.zeros } in
    fed_after m _ c.args.value _ _ _ _ (locked_at p c.at-p.result (p.steps + c.args.zeros) c.requires.below c.requires.few small c.args.zeros (p.steps + 3 * p.procs + 3) c.requires.here c.requires.some c.requires.whole (ap (λ (z : RmePosition). z.at) c.at-p.ensures) refl (omega (arith, c.requires.whole)) most) c.check_feed.ensures.fed

pub returns-clause-code : goal.returns-clause-code
returns-clause-code c =
    let p = c.args.p.now in
    let small : p.steps < 18446744073709551615 = omega (arith, c.requires.steps, c.ranges.steps) in
    let most : p.steps + c.args.zeros ≤ 18446744073709551615 = omega (arith, c.requires.steps, c.ranges.steps) in
    let m : RmeProcess = record p { unmended = 0; position = c.at-p.result; steps = p.steps + c.args.zeros } in
    reports_after m _ _ c.args.value _ _ _ (locked_at p c.at-p.result (p.steps + c.args.zeros) c.requires.below c.requires.few small c.args.zeros (p.steps + 3 * p.procs + 3) c.requires.here c.requires.some c.requires.whole (ap (λ (z : RmePosition). z.at) c.at-p.ensures) refl (omega (arith, c.requires.whole)) most) c.check_feed.ensures.fed
    (inside_rests c.check_feed.new.p (c.check_feed.ensures.inside c.requires.sound))
