use Rattle.std.proofs.Common.{◌≡◌, ℕ, ◌<◌}
use Rattle.table_runs.specs.Lab.{messages_by, messages_sent}
use Rattle.one_lock.proofs.lab.all_sent.are_all_sent.Given as goal

abbrev pub invariant-loop-p : goal.invariant-loop-p
invariant-loop-p l = (p : ℕ) → p < l.p → messages_by p l.messages ≡ messages_sent l.spec.width p l.spec.messages
