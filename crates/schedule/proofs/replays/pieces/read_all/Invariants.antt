use Rattle.std.proofs.Common.{◌≡◌, ◌++◌, ◌≤◌, ◌^◌, length}
use Rattle.std.specs.Io.KnownBytes.{Consumes}
use Rattle.schedule.proofs.replays.pieces.read_all.Given as goal

abbrev pub invariant-loop : goal.invariant-loop
invariant-loop g l = record {
  given : (g.S.Source.reading l.source).given ≡ (g.S.Source.reading l.fn.source).given ++ l.text.items;
  known : Consumes (g.S.Source.coming l.fn.source) (g.S.Source.coming l.source) l.text.items;
  unended : (g.S.Source.reading l.source).ended ≡ (g.S.Source.reading l.fn.source).ended;
  count : l.counter ≤ length l.text.items;
  few : l.counter ≤ 2 ^ 63;
  fine : (g.S.Source.reading l.source).failures ≡ (g.S.Source.reading l.fn.source).failures;
}
