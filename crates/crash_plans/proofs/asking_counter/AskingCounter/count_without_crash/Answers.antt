use Rattle.std.proofs.Common.{◌-◌, ◌^◌, ◌≤◌, sym, ap, ◌∙◌, arith}
use Rattle.crash_plans.specs.Plans.{Askings, many_more}
use Rattle.crash_plans.proofs.Counted.{many_is}
use Rattle.crash_plans.proofs.asking_counter.AskingCounter.count_without_crash.Goals as goal

pub returns : goal.returns
returns c =
    let small : c.self.inside.asked ≤ 2 ^ 64 - 1 = omega arith in
    let is = c.saturating_add-self-inside.ensures ∙ sym (many_is c.args.times c.self.inside.asked small) in
    λ i. record { asked = (is ∙ ap (λ (k : Askings). many_more c.args.times k.asked) c.self.view_is) i; fallen = (c.self.view_is i).fallen }
