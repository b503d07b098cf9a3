use Rattle.std.proofs.Common.{◌<◌, ◌∙◌, ◌+◌, sym, ap, take, arith, refl, length-set}
use Rattle.judge.proofs.Common.{false≢true, IsNextMessage}
use Rattle.judge.proofs.Numbers.{IfSome-at, Numbered-more, AreNumbered-from, Lists-more}
use Rattle.judge.proofs.shape.message_counts.Goals as goal

pub returns-then-not-is_next-clause-numbered : goal.returns-then-not-is_next-clause-numbered
returns-then-not-is_next-clause-numbered c = (
  λ e. absurd (false≢true e),
  λ numbered.
      let m = c.message-item.result in
      let next = IfSome-at c.args.shown.now c.loop-message.message-index m (IsNextMessage c.args.procs (take c.loop-message.message-index c.args.shown.now)) c.loop-message-test.true c.message-item.is (numbered c.loop-message.message-index) in
      let below : m.sender < 64 = omega (arith, next.0, c.requires) in
      c.if-not-is_next.ensures.1 (next.0, next.1 ∙ ap (λ k. k + 1) (sym (c.loop-message.invariant.1 m.sender 0 below))),
)

pub loop-message-preserved : goal.loop-message-preserved
loop-message-preserved c =
    let m = c.message-item.result in
    let next = c.if-not-is_next.ensures.0 refl in
    let below : m.sender < 64 = omega (arith, next.0, c.requires) in (
      length-set c.loop-message.counts m.sender _ ∙ c.loop-message.invariant.0,
      Lists-more c.loop-message.counts 64 c.args.shown.now c.loop-message.message-index m (omega (arith, c.loop-message.invariant.0)) below c.loop-message-test.true c.message-item.is c.loop-message.invariant.1,
      Numbered-more c.args.procs c.args.shown.now c.loop-message.message-index m c.loop-message-test.true c.message-item.is
          (next.0, next.1 ∙ ap (λ k. k + 1) (c.loop-message.invariant.1 m.sender 0 below)) c.loop-message.invariant.2,
    )

pub returns-clause-numbered : goal.returns-clause-numbered
returns-clause-numbered c = (λ _. AreNumbered-from c.args.procs c.args.shown.now c.loop-message.message-index c.loop-message-test.false c.loop-message.invariant.2, λ _. refl)
