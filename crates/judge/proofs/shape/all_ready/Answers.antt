use Rattle.judge.proofs.Common.{false≢true, is_ready, phase_in, get_or_default}
use Rattle.std.proofs.Common.{◌≡◌, ◌∙◌, ℕ, Bool, true, slice_index_or, ap, sym, refl, arith, below_more}
use Rattle.judge.proofs.shape.all_ready.Goals as goal

pub returns-then-not-is_ready : goal.returns-then-not-is_ready
returns-then-not-is_ready c = (
  λ e. absurd (false≢true e),
  λ all. c.if-not-is_ready.ensures ∙ ap is_ready c.phase_at.ensures ∙ all c.loop-name.name-index 0 c.loop-name-test.true,
)

pub loop-name-preserved : goal.loop-name-preserved
loop-name-preserved c = λ k d l.
    let ready : ℕ → Bool = λ q. is_ready (phase_in c.args.phases.now q) in
    let same = get_or_default c.args.names.now c.loop-name.name-index d 0 c.loop-name-test.true in
    below_more (λ j. ready (slice_index_or c.args.names.now j d) ≡ true) c.loop-name.name-index (λ j m. c.loop-name.invariant j d m)
    (ap ready same ∙ sym (c.if-not-is_ready.ensures ∙ ap is_ready c.phase_at.ensures)) k l

pub returns : goal.returns
returns c = (λ _ k d l. c.loop-name.invariant k d (omega (arith, l, c.loop-name-test.false)), λ _. refl)
