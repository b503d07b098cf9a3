use Rattle.robust.proofs.AccessCommon.{step_of}
use Rattle.table_runs.proofs.Keeps.{stores_kept}
use Rattle.robust.proofs.access.table.store_named.Goals as goal

pub store-requires : goal.store-requires
store-requires g c = (c.requires.table, c.requires.word, rw (← c.requires.step) (stores_kept _ _ _ _ _ (step_of c.args.pending_events.now c.args.kind c.args.word) _ _ c.requires.may))
