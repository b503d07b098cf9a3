use Rattle.std.proofs.Common.{◌≡◌}
use Rattle.command_parts.proofs.Holding.{Going}
use Rattle.command_parts.proofs.conversation.converse.Given as goal

abbrev pub invariant-loop : goal.invariant-loop
invariant-loop g l =
    Going g.V.Simulation.semantics l.fn.session l.fn.buffer.items (g.S.Source.reading l.fn.r) (g.S.Source.reading l.r) (g.F.Folder.used l.fn.folder) (g.F.Folder.used l.folder) (g.W.Sink.tape l.fn.w) (g.W.Sink.tape l.w) l.session l.buffer.items
    × ((g.F.Folder.used l.folder).opened ≡ (g.F.Folder.used l.fn.folder).opened)
