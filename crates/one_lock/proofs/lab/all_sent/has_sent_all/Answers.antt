use Rattle.std.proofs.Common.{rules, ◌≡◌, ◌≢◌, ◌≤◌, ◌+◌, ℕ, take, sym, subst}
use Rattle.table_runs.specs.Lab.{messages_by, messages_sent, words_sent}
use Rattle.one_lock.proofs.AllSent.{passes, adds}
use Rattle.one_lock.proofs.lab.all_sent.has_sent_all.Goals.{then-message-p+else-sent-spec+else-message-sent+else-ne, else-message-p}
use Rattle.one_lock.proofs.lab.all_sent.has_sent_all.Goals as goal

pub loop-message-preserved : goal.loop-message-preserved
loop-message-preserved c =
    let i = c.loop-message.invariant in
    let m = c.message-item.result in
    let p = c.args.p in
    let at = c.loop-message.message-index in
    let sent = c.loop-message.sent in
    let all = c.args.messages.now in
    let width = c.args.spec.now.width in
    elim c.if-message-p.branch [
      | then-message-p+else-sent-spec+else-message-sent+else-ne w ↦
          (let sender : m.sender ≡ p = search (rules, w.if-message-p) in
          let seq : m.seq ≡ sent + 1 = search (rules, w.if-message-sent) in
          let value : m.value ≡ words_sent p (sent + 1) width = search (rules, w.if-ne, w.ne.ensures, w.as_slice.ensures, w.as_slice-else-message-sent.ensures, w.value_sent-value.ensures) in
          let few : sent + 1 ≤ c.args.spec.now.messages = search (rules, w.if-sent-spec) in
          let next = adds width p sent at all m c.loop-message-test.true c.message-item.is sender seq value i.1 in
          subst (λ (k : ℕ). (k ≤ c.args.spec.now.messages) × (messages_by p (take (at + 1) all) ≡ messages_sent width p k)) (sym w.sent-is) (few, next))
      | else-message-p w ↦
          (let other : m.sender ≢ p = search (rules, w.if-message-p) in
          let next = passes width p sent at all m c.loop-message-test.true c.message-item.is other i.1 in
          subst (λ (k : ℕ). (k ≤ c.args.spec.now.messages) × (messages_by p (take (at + 1) all) ≡ messages_sent width p k)) (sym w.sent-is) (i.0, next))
    ]
