use Rattle.robust.proofs.AccessCommon.{step_of}
use Rattle.robust.proofs.access.table.load.Given as goal

abbrev pub ghosts-load_named : goal.ghosts-load_named
ghosts-load_named a = record { step = step_of a.pending_events.now a.kind a.word; value = 0 }
