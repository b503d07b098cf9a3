use Rattle.std.proofs.Common.{ℕ, ◌<◌, ◌≡◌, true, sym, subst, inl, inr}
use Rattle.algorithm_texts.specs.Runs.{leads_to}
use Rattle.algorithm_texts.proofs.RunChecks.{one_of_two, two_of_one}
use Rattle.algorithm_texts.proofs.lines.Draft.follow.Goals as goal

pub returns-clause-marked : goal.returns-clause-marked
returns-clause-marked c = λ way h l.
    let ways = c.ways_from-ways.result in
    elim (one_of_two ways.first ways.second way (subst (λ ws. leads_to ws way ≡ true) (sym c.ways_from-ways.ensures) h)) [
      | inl k ↦ c.mark_way-2.ensures.kept way (c.mark_way.ensures.marked way k (subst (λ (n : ℕ). way < n) c.mark_way-2.ensures.size l))
      | inr k ↦ c.mark_way-2.ensures.marked way k l
    ]

pub returns-clause-comes : goal.returns-clause-comes
returns-clause-comes c = λ way h.
    let ways = c.ways_from-ways.result in
    elim (c.mark_way-2.ensures.comes way h) [
      | inl k ↦ elim (c.mark_way.ensures.comes way k) [
        | inl old ↦ inl old
        | inr one ↦ inr (subst (λ ws. leads_to ws way ≡ true) c.ways_from-ways.ensures (two_of_one ways.first ways.second way (inl one)))
      ]
      | inr two ↦ inr (subst (λ ws. leads_to ws way ≡ true) c.ways_from-ways.ensures (two_of_one ways.first ways.second way (inr two)))
    ]
