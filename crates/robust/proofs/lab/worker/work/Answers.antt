use Rattle.std.proofs.Common.{◌≡◌, ◌∙◌, ◌≤◌, ℕ, refl, subst, arith, true, false, sym, ap}
use Rattle.robust.proofs.Common.{TableId, Setup, HasShown}
use Rattle.robust.proofs.Failing.{refused}
use Rattle.robust.proofs.Spent.{faulted}
use Rattle.robust.proofs.Working.{sends_value}
use Rattle.robust.proofs.lab.worker.work.Goals as goal

pub returns-then-not-is_sent : goal.returns-then-not-is_sent
returns-then-not-is_sent g c =
    let i = c.loop-seq.invariant in
    let fits = sends_value c.loop-seq.member c.args.member c.number-p.result c.loop-seq.seq c.args.spec.width c.args.spec.messages c.value_sent-value.result i.seat c.number-p.ensures.is c.loop-seq-test.true c.value_sent-value.ensures.words in
    let some : 1 ≤ c.loop-seq.seq = omega (arith, c.loop-seq.auto.seq) in
    let r = refused c.loop-seq.member c.send.new.member c.loop-seq.seq c.in-Ok.reply some i.shown c.send.ensures.seat c.in-Ok.ensures.kind (λ stored. absurd (let k : false ≡ true = c.if-not-is_sent.ensures.1 stored in cc)) c.in-Ok.ensures.tells in
    record { seat = c.send.ensures.seat ∙ i.seat; worked = (c.send.ensures.only c.args.spec.width c.args.spec.messages fits i.only, (r.0, (c.loop-seq.seq, some, omega (arith, c.loop-seq-test.true), r.1)), c.send.ensures.ordered i.ordered) }

pub returns-in-Err-clause-worked : goal.returns-in-Err-clause-worked
returns-in-Err-clause-worked g c =
    let i = c.loop-seq.invariant in
    let fits = sends_value c.loop-seq.member c.args.member c.number-p.result c.loop-seq.seq c.args.spec.width c.args.spec.messages c.value_sent-value.result i.seat c.number-p.ensures.is c.loop-seq-test.true c.value_sent-value.ensures.words in
    (c.send.ensures.only c.args.spec.width c.args.spec.messages fits i.only, faulted _ _ _ c.in-Err.ensures.faults c.in-Err.ensures.spent (c.in-Err.ensures.ruin i.ordered), c.send.ensures.ordered i.ordered)

pub loop-seq-preserved : goal.loop-seq-preserved
loop-seq-preserved g c =
    let i = c.loop-seq.invariant in
    let fits = sends_value c.loop-seq.member c.args.member c.number-p.result c.loop-seq.seq c.args.spec.width c.args.spec.messages c.value_sent-value.result i.seat c.number-p.ensures.is c.loop-seq-test.true c.value_sent-value.ensures.words in
    record {
      seat = c.send.ensures.seat ∙ i.seat;
      only = c.send.ensures.only c.args.spec.width c.args.spec.messages fits i.only;
      shown = λ n e some. let same : c.loop-seq.seq ≡ n = omega arith in subst (λ (k : ℕ). HasShown k c.send.new.member) same (c.in-Ok.ensures.shown (c.if-not-is_sent.ensures.0 refl));
      out = c.send.ensures.out;
      ordered = c.send.ensures.ordered i.ordered;
    }

pub returns-clause-worked : goal.returns-clause-worked
returns-clause-worked g c =
    let i = c.loop-seq.invariant in
    (i.only, i.shown c.args.spec.messages (omega (arith, c.loop-seq-test.false, c.loop-seq.auto.seq-end, c.requires.some)) (omega (arith, c.requires.some)), i.ordered)

pub send-requires-clause-width : goal.send-requires-clause-width
send-requires-clause-width g c = c.value_sent-value.ensures.width ∙ ap (λ (z : Setup). z.layout.width) (sym c.requires.new.0) ∙ ap (λ (s : TableId × Setup × ℕ). s.1.layout.width) (sym c.loop-seq.invariant.seat)
