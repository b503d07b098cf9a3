use Rattle.std.proofs.Common.{◌≡◌, length}
use Rattle.algorithm_texts.specs.LineFaults.{promises_list_fault}
use Rattle.algorithm_texts.specs.PromiseLines.{promise_parts, promises_said, with_promises}
use Rattle.algorithm_texts.proofs.promises.add_promises.Given as goal

abbrev pub decreases-loop-part : goal.decreases-loop-part
decreases-loop-part l = length l.rest

-- the promises that are left make what all make, and their fault is that of all
abbrev pub invariant-loop-part : goal.invariant-loop-part
invariant-loop-part l = record {
  made : with_promises (promises_said l.fn.said) (promise_parts l.tokens) ≡ with_promises (promises_said l.said) (promise_parts l.rest);
  fault : promises_list_fault (promises_said l.fn.said) (promise_parts l.tokens) ≡ promises_list_fault (promises_said l.said) (promise_parts l.rest);
}
