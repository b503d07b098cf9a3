use Rattle.std.proofs.Common.{◌≡◌, ℕ, List, ◌++◌}
use Rattle.command_parts.proofs.conversation.next_line.Given as goal

abbrev pub invariant-loop : goal.invariant-loop
invariant-loop g l =
    (more : List ℕ) × ((g.S.Source.reading l.source).given ≡ (g.S.Source.reading l.fn.source).given ++ more)
    × (l.buffer.items ≡ l.fn.buffer.items ++ more) × ((g.S.Source.reading l.source).failures ≡ (g.S.Source.reading l.fn.source).failures)
