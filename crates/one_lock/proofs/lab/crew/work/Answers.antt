use Rattle.std.proofs.Common.{◌≡◌, ◌∙◌, ◌⊎◌, ℕ, true, false, inl, inr, refl, sym, ap, subst}
use Rattle.one_lock.proofs.LabCommon.{Layout, WasSent, WasRefused}
use Rattle.redomail.specs.declared.reply.Reply.TheVariants.{Stored, Already}
use Rattle.one_lock.proofs.Endings.{replied_to, sent_more}
use Rattle.one_lock.proofs.lab.crew.work.Goals as goal

pub returns-in-Err-clause-ends : goal.returns-in-Err-clause-ends
returns-in-Err-clause-ends g c = c.in-Err.ensures.ends c.args.spec

pub returns-then-not-is_sent-clause-ends : goal.returns-then-not-is_sent-clause-ends
returns-then-not-is_sent-clause-ends g c =
    let process : c.loop-seq.member.process ≡ c.args.member.process = ap (λ (x : ℕ × Layout). x.0) c.loop-seq.invariant.place in
    let same : c.process-p.result ≡ c.send.new.member.process = c.process-p.ensures.value ∙ sym process ∙ sym (ap (λ (x : ℕ × Layout). x.0) c.send.ensures.place) in
    let answered = replied_to g.S.Sizes.named c.args.spec.width c.loop-seq.member.process c.process-p.result c.loop-seq.seq c.value_sent-value.result c.in-Ok.reply (process ∙ sym c.process-p.ensures.value) c.value_sent-value.ensures.words c.in-Ok.ensures.answered in
    let not_sent : (c.in-Ok.reply ≡ Stored) ⊎ (c.in-Ok.reply ≡ Already) → ⊥ = λ sent. absurd (let k : false ≡ true = c.if-not-is_sent.ensures.1 sent in cc) in
    let refused : WasRefused g.S.Sizes.named c.args.spec.width c.process-p.result c.in-Ok.reply =
    record { seq = c.loop-seq.seq; answered = answered; not_stored = λ e. not_sent (inl e); not_there = λ e. not_sent (inr e) } in
    subst (λ (p : ℕ). WasRefused g.S.Sizes.named c.args.spec.width p c.in-Ok.reply) same refused

pub loop-seq-preserved : goal.loop-seq-preserved
loop-seq-preserved g c =
    let i = c.loop-seq.invariant in
    let seq = c.loop-seq.seq in
    let named = g.S.Sizes.named in
    let process : c.loop-seq.member.process ≡ c.args.member.process = ap (λ (x : ℕ × Layout). x.0) i.place in
    let answered = replied_to named c.args.spec.width c.loop-seq.member.process c.process-p.result seq c.value_sent-value.result c.in-Ok.reply (process ∙ sym c.process-p.ensures.value) c.value_sent-value.ensures.words c.in-Ok.ensures.answered in
    let here : WasSent named c.args.spec.width c.process-p.result seq = record { reply = c.in-Ok.reply; answered = answered; shows = c.if-not-is_sent.ensures.0 refl } in
    record {
      place = c.send.ensures.place ∙ i.place;
      ready = (c.send.ensures.ready, ap (λ (x : ℕ × Layout). x.1.width) c.send.ensures.place ∙ i.ready.1);
      sent = sent_more named c.args.spec.width c.args.member.process seq i.sent (subst (λ (p : ℕ). WasSent named c.args.spec.width p seq) c.process-p.ensures.value here);
    }
