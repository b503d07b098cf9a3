use Rattle.algorithm_texts.specs.Drafts.{draft_view}
use Rattle.algorithm_texts.proofs.ClaimLabels.{PlacesSoFar}
use Rattle.algorithm_texts.proofs.claim_labels.claimed_places.Given as goal

abbrev pub invariant-loop-claimed : goal.invariant-loop-claimed
invariant-loop-claimed l = PlacesSoFar (draft_view l.draft) l.claimed-index l.places.items
