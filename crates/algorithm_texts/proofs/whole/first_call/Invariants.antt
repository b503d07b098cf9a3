use Rattle.std.proofs.Common.{◌≡◌, reverse, take}
use Rattle.algorithm_texts.specs.FinishedDrafts.{call_in}
use Rattle.algorithm_texts.proofs.whole.first_call.Given as goal

-- the first call of the kind so far
abbrev pub invariant-loop-read : goal.invariant-loop-read
invariant-loop-read l = l.first ≡ call_in l.call (reverse (take l.read-index l.calls))
