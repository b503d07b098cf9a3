use Rattle.std.proofs.Common.{sym, ◌∙◌, arith}
use Rattle.rmecore.proofs.Allowing.{least-none}
use Rattle.judge.proofs.Least.{least-at}
use Rattle.judge.proofs.Bits.{tested}
use Rattle.judge.proofs.rows.least_in.Goals as goal

pub returns-then-has : goal.returns-then-has
returns-then-has c = λ f row.
    sym (least-at c.args.procs f c.loop-q.q c.loop-q-test.true
    (sym (tested (f c.loop-q.q) _ (row c.loop-q.q c.loop-q-test.true)) ∙ (sym c.has.ensures ∙ c.if-has.true))
    (λ k l. sym (tested (f k) _ (row k (omega arith))) ∙ c.loop-q.invariant k l))

pub returns : goal.returns
returns c = λ f row.
    sym (least-none c.args.procs f (λ k l. sym (tested (f k) _ (row k l)) ∙ c.loop-q.invariant k (omega arith)))
