use Rattle.std.proofs.Common.{◌≡◌, ◌+◌, ◌≤◌, drop}
use Rattle.algorithm_texts.specs.IndexCounts.{given_from}
use Rattle.algorithm_texts.proofs.index_counts.given_at.Given as goal

-- the indexes so far and those that come are all
abbrev pub invariant-loop-place : goal.invariant-loop-place
invariant-loop-place l = record {
  whole : given_from 0 l.code l.places ≡ l.given + given_from l.depth l.code (drop l.place-index l.places);
  few : l.given ≤ l.place-index;
  shallow : l.depth ≤ l.place-index;
}
