use Rattle.std.proofs.Common.{◌≡◌, take}
use Rattle.algorithm_texts.specs.Likeness.{named_values}
use Rattle.algorithm_texts.proofs.likeness.same_constants.Given as goal

-- the constants so far are the same
abbrev pub invariant-loop-constant : goal.invariant-loop-constant
invariant-loop-constant l = record {
  here : l.place ≡ l.constant-index;
  same : named_values (take l.constant-index l.left) ≡ named_values (take l.constant-index l.right);
}
