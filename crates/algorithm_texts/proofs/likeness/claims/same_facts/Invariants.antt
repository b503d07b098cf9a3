use Rattle.std.proofs.Common.{◌≡◌, map, take}
use Rattle.algorithm_texts.specs.Drafts.{fact_form}
use Rattle.algorithm_texts.proofs.likeness.claims.same_facts.Given as goal

-- the facts so far are the same
abbrev pub invariant-loop-fact : goal.invariant-loop-fact
invariant-loop-fact l = record {
  here : l.place ≡ l.fact-index;
  same : map fact_form (take l.fact-index l.left) ≡ map fact_form (take l.fact-index l.right);
}
