use Rattle.robust.proofs.AccessCommon.{step_of}
use Rattle.table_runs.proofs.Keeps.{loads}
use Rattle.robust.proofs.access.table.load_named.Goals as goal

pub load-requires : goal.load-requires
load-requires g c = (c.requires.table, c.requires.word, rw (← c.requires.step) (loads _ _ _ _ _ (step_of c.args.pending_events.now c.args.kind c.args.word) _ c.requires.may))
