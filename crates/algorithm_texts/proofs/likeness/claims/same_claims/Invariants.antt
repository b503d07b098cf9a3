use Rattle.std.proofs.Common.{◌≡◌, map, take}
use Rattle.algorithm_texts.specs.Drafts.{claim_form}
use Rattle.algorithm_texts.proofs.likeness.claims.same_claims.Given as goal

-- the claims so far are the same
abbrev pub invariant-loop-claim : goal.invariant-loop-claim
invariant-loop-claim l = record {
  here : l.place ≡ l.claim-index;
  same : map claim_form (take l.claim-index l.left) ≡ map claim_form (take l.claim-index l.right);
}
