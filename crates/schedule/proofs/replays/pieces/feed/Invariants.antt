use Rattle.std.proofs.Common.{◌≡◌, ℕ, List, ◌∷◌, [], ◌++◌, length}
use Rattle.schedule.proofs.ReplaysCommon.{parts_of}
use Rattle.schedule.proofs.replays.pieces.feed.Given as goal

abbrev pub invariant-loop-front : goal.invariant-loop-front
invariant-loop-front g l = record {
  taken : (lines : List (List ℕ)) → g.T.TakeLine.after l.fn.taker lines → (more : List (List ℕ)) × (parts_of (l.fn.buffer.items ++ l.piece) ≡ more ++ parts_of (l.buffer.items ++ l.rest)) × g.T.TakeLine.after l.taker (lines ++ more);
  whole : parts_of l.buffer.items ≡ l.buffer.items ∷ [];
}

abbrev pub decreases-loop-front : goal.decreases-loop-front
decreases-loop-front g l = length l.rest
