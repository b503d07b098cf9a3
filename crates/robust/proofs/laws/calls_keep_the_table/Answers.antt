use Rattle.table_runs.proofs.Tabled.{calls_keep_the_table}
use Rattle.robust.proofs.laws.calls_keep_the_table.Goals as goal

pub returns : goal.returns
returns c = calls_keep_the_table
