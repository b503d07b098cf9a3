use Rattle.robust.proofs.AccessCommon.{step_of}
use Rattle.table_runs.proofs.Keeps.{passes}
use Rattle.robust.proofs.access.table.step_past_end_named.Goals as goal

pub load-requires : goal.load-requires
load-requires g c = (c.requires.table, c.requires.some, rw (← c.requires.step, ← c.requires.value) (passes _ _ _ _ _ (step_of c.args.pending_events.now c.args.kind c.args.word) _ c.args.value c.requires.may))
