use Rattle.std.proofs.Common.{◌≡◌, reverse, take}
use Rattle.algorithm_texts.specs.TextDrafts.{has_call}
use Rattle.algorithm_texts.proofs.calls.has_call.Given as goal

-- the call is among those so far
abbrev pub invariant-loop-other : goal.invariant-loop-other
invariant-loop-other l = l.found ≡ has_call l.call (reverse (take l.other-index l.calls))
