use Rattle.std.proofs.Common.{rules}
use Rattle.one_lock.proofs.lab.crew.fn.work_all.scope.Goals as goal

pub returns : goal.returns
returns g c =
    let started = c.in_ok-threads.ensures in
    let ends = c.join_all.ensures.ends c.captures.spec started.spec in
    search (rules, started, ends)
