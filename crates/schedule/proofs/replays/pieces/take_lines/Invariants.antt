use Rattle.std.proofs.Common.{◌≡◌, ℕ, List, ◌∷◌, [], ◌++◌, ◌≤◌, ◌^◌, length}
use Rattle.std.specs.Io.KnownBytes.{Consumes}
use Rattle.schedule.proofs.ReplaysCommon.{parts_of}
use Rattle.schedule.proofs.replays.pieces.take_lines.Given as goal

abbrev pub invariant-loop : goal.invariant-loop
invariant-loop g l = record {
  text : (text : List ℕ) × ((g.S.Source.reading l.source).given ≡ (g.S.Source.reading l.fn.source).given ++ text) × (l.counter ≤ length text)
      × Consumes (g.S.Source.coming l.fn.source) (g.S.Source.coming l.source) text
      × ((lines : List (List ℕ)) → g.T.TakeLine.after l.fn.taker lines → (more : List (List ℕ)) × (parts_of text ≡ more ++ l.buffer.items ∷ []) × g.T.TakeLine.after l.taker (lines ++ more));
  unended : (g.S.Source.reading l.source).ended ≡ (g.S.Source.reading l.fn.source).ended;
  few : l.counter ≤ 2 ^ 63;
  fine : (g.S.Source.reading l.source).failures ≡ (g.S.Source.reading l.fn.source).failures;
  whole : parts_of l.buffer.items ≡ l.buffer.items ∷ [];
}
