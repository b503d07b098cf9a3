use Rattle.std.proofs.Common.{◌≡◌, ◌≤◌, take}
use Rattle.table_runs.specs.Lab.{messages_by, messages_sent}
use Rattle.one_lock.proofs.lab.all_sent.has_sent_all.Given as goal

abbrev pub invariant-loop-message : goal.invariant-loop-message
invariant-loop-message l = (l.sent ≤ l.spec.messages) × (messages_by l.p (take l.message-index l.messages) ≡ messages_sent l.spec.width l.p l.sent)
