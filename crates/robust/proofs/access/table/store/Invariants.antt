use Rattle.robust.proofs.AccessCommon.{step_of}
use Rattle.robust.proofs.access.table.store.Given as goal

abbrev pub ghosts-store_named : goal.ghosts-store_named
ghosts-store_named a = record { step = step_of a.pending_events.now a.kind a.word; value = 0 }
