use Rattle.table_runs.proofs.Running.{run_by_look}
use Rattle.robust.proofs.call.call_driver.CallDriver.glance.Goals as goal

pub invariant_of-self : goal.invariant_of-self
invariant_of-self c = run_by_look c.self.inside.port c.glance.new.self c.args.word c.glance.result c.self.inside.process c.glance.ensures c.self.invariant
