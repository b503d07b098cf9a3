use Rattle.std.proofs.Common.{◌≡◌, ◌≤◌, count_by, take}
use Rattle.algorithm_texts.specs.declared.tokens.Sign.TheVariants.{OpenIndex}
use Rattle.algorithm_texts.specs.TokenPlaces.{is_sign_at}
use Rattle.algorithm_texts.proofs.index_counts.open_indexes.Given as goal

-- the brackets that are counted so far
abbrev pub invariant-loop-place : goal.invariant-loop-place
invariant-loop-place l = record {
  counted : l.count ≡ count_by (is_sign_at OpenIndex l.code) (take l.place-index l.places);
  few : l.count ≤ l.place-index;
}
