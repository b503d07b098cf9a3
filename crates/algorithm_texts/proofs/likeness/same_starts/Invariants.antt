use Rattle.std.proofs.Common.{◌≡◌, map, take}
use Rattle.algorithm_texts.specs.Drafts.{start_term}
use Rattle.algorithm_texts.proofs.likeness.same_starts.Given as goal

-- the first values so far are the same
abbrev pub invariant-loop-start : goal.invariant-loop-start
invariant-loop-start l = record {
  here : l.place ≡ l.start-index;
  same : map start_term (take l.start-index l.left) ≡ map start_term (take l.start-index l.right);
}
