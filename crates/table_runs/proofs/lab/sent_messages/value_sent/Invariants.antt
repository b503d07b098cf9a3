use Rattle.std.proofs.Common.{◌≡◌, length, take}
use Rattle.table_runs.specs.Lab.{words_sent}
use Rattle.table_runs.proofs.lab.sent_messages.value_sent.Given as goal

abbrev pub invariant-loop-j : goal.invariant-loop-j
invariant-loop-j l = (length l.words ≡ 8) × (take l.j l.words ≡ words_sent l.fn.p l.fn.seq l.j)
