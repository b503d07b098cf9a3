use Rattle.std.proofs.Common.{◌≡◌, ℕ, ◌+◌, ◌-◌, ◌^◌, ◌≤◌, min, sym, ap, ◌∙◌, subst, arith}
use Rattle.robust.proofs.CallCommon.{Unlocked, Unlock, Seated, after_further_start, EndsIn}
use Rattle.robust.proofs.FastCalls.{fast_answered}
use Rattle.robust.proofs.call.call_driver.CallDriver.fast_leave.Goals as goal

pub returns-clause-ran : goal.returns-clause-ran
returns-clause-ran g c =
    let x = c.args.self.now in
    let w = c.self.inside in
    let same : w.steps ≡ x.steps = ap (λ (u : Seated). u.steps) c.self.view_is ∙ c.go_out.ensures.steps in
    let least : w.steps ≤ 2 ^ 64 - 1 = omega arith in
    let small : x.steps ≤ 2 ^ 64 - 1 = omega arith in
    let ends = subst (λ (u : Seated). EndsIn (after_further_start x Unlock).seat_view 2 Unlocked u.seat_view) (sym c.self.view_is) c.go_out.ensures.ends in
    let counted = c.saturating_add-self-inside.ensures ∙ ap (λ (n : ℕ). min (n + 2) (2 ^ 64 - 1)) same in
    fast_answered (after_further_start x Unlock).seat_view w.port 2 x.steps c.saturating_add-self-inside.result _ _ small counted c.count_without_crash.ensures Unlocked ends
