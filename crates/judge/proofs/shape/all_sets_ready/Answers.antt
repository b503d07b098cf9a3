use Rattle.std.proofs.Common.{◌≡◌, ℕ, List, map, true, All, slice_index_or, arith, below_more, subst, sym, refl, []}
use Rattle.judge.proofs.Common.{false≢true, length-map, is_ready, phase_in}
use Rattle.judge.proofs.Numbers.{set_here}
use Rattle.judge.proofs.shape.all_sets_ready.Goals as goal

pub returns-then-not-all_ready : goal.returns-then-not-all_ready
returns-then-not-all_ready c = (
  λ e. absurd (false≢true e),
  λ all.
      let here = set_here (λ names. names.items) c.args.sets.now c.loop-names.names-index c.names-item.result c.deref.result.now [] c.loop-names-test.true c.names-item.is c.deref.ensures.value in
      let P : ℕ → Type 0 = λ q. is_ready (phase_in c.args.phases.now q) ≡ true in
      c.if-not-all_ready.ensures.1 (subst (All P) here (all c.loop-names.names-index [] (omega (arith, c.loop-names-test.true, length-map {B = List ℕ} c.args.sets.now (λ names. names.items))))),
)

pub loop-names-preserved : goal.loop-names-preserved
loop-names-preserved c = λ k d l.
    let P : ℕ → Type 0 = λ q. is_ready (phase_in c.args.phases.now q) ≡ true in
    let here = set_here (λ names. names.items) c.args.sets.now c.loop-names.names-index c.names-item.result c.deref.result.now d c.loop-names-test.true c.names-item.is c.deref.ensures.value in
    below_more (λ j. All P (slice_index_or (map (λ names. names.items) c.args.sets.now) j d)) c.loop-names.names-index
    (λ j m. c.loop-names.invariant j d m) (subst (All P) (sym here) (c.if-not-all_ready.ensures.0 refl)) k l
