use Rattle.std.proofs.Common.{◌≡◌, ◌-◌, ◌≤◌, ◌++◌, zero, length, drop}
use Rattle.algorithm_texts.specs.TokenPlaces.{places_from, token_places}
use Rattle.algorithm_texts.proofs.token_places.token_places.Given as goal

-- the tokens so far and those that come are all
abbrev pub invariant-loop-place : goal.invariant-loop-place
invariant-loop-place l = record {
  within : l.place ≤ length l.code;
  whole : token_places l.code ≡ l.places.items ++ places_from l.place zero (drop l.place l.code);
}

abbrev pub decreases-loop-place : goal.decreases-loop-place
decreases-loop-place l = length l.code - l.place
