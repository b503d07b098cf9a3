use Rattle.std.proofs.Common.{◌≡◌, length, take, count_by}
use Rattle.judge.proofs.Common.{is_by, Lists}
use Rattle.judge.proofs.Numbers.{Numbered}
use Rattle.judge.proofs.shape.message_counts.Given as goal

abbrev pub invariant-loop-message : goal.invariant-loop-message
invariant-loop-message l =
    (length l.counts ≡ 64)
    × Lists l.counts 64 (λ p. count_by (is_by p) (take l.message-index l.shown))
    × Numbered l.procs l.shown l.message-index
