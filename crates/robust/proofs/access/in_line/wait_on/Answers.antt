use Rattle.std.proofs.Common.{◌≡◌, ℕ, ◌+◌, if◌then◌else◌, subst, arith}
use Rattle.robust.proofs.AccessCommon.{Unanswered}
use Rattle.robust.proofs.FreeSteps.{unanswered_then}
use Rattle.robust.proofs.access.in_line.wait_on.Goals as goal

pub returns-clause-unanswered : goal.returns-clause-unanswered
returns-clause-unanswered c =
    let x = c.args.port.now in
    let y = c.weigh.new.port in
    let b = c.pass_others-after_it in
    let m = if b.result.is_blocked then 1 else 0 in
    let e : 1 + b.result.taken ≡ b.result.taken + 1 = omega arith in
    subst (λ (k : ℕ). Unanswered x k m b.new.port) e (unanswered_then x y b.new.port 1 b.result.taken m c.if-not-weigh.ensures.unanswered b.ensures.unanswered)
