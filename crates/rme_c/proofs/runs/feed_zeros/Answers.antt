use Rattle.std.proofs.Common.{◌≡◌, ℕ, suc, ◌+◌, true, is_none, sym, ap, ◌∙◌, subst, arith}
use Rattle.rme_c.proofs.Common.{RmeProcess, next_access, machine_state_of}
use Rattle.rme_c.specs.Runs.{Counted, counted_of, fed_once, fed_zeros}
use Rattle.rme_c.proofs.runs.feed_zeros.Goals as goal

pub loop-k-preserved : goal.loop-k-preserved
loop-k-preserved c =
    let k : ℕ = c.loop-k.k in
    let one : suc k ≡ k + 1 = omega arith in (
      (λ i. record { machine = c.rme_feed.ensures.exact i; steps = c.rme_feed.ensures.steps i })
          ∙ ap (λ (x : Counted). fed_once x 0) c.loop-k.invariant.0
          ∙ ap (λ (j : ℕ). fed_zeros j (counted_of c.args.p.now)) one,
      λ none. let same = c.loop-k.invariant.1 none in
          c.rme_feed.ensures.idle (subst (λ (z : RmeProcess). is_none (next_access (machine_state_of z)) ≡ true) (sym same) none) ∙ same,
    )
