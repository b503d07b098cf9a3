use Rattle.robust.proofs.AccessCommon.{step_of}
use Rattle.robust.proofs.access.table.step_past_end.Given as goal

abbrev pub ghosts-step_past_end_named : goal.ghosts-step_past_end_named
ghosts-step_past_end_named a = record { step = step_of a.pending_events.now a.kind a.word; value = a.value }
