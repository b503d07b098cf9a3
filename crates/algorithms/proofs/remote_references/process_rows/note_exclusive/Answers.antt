use Rattle.std.proofs.Common.{◌≡◌}
use Rattle.algorithms.specs.remote_references.Copies.{stores_or_swaps}
use Rattle.algorithms.proofs.remote_references.Rows.{exclusive_elsewhere, exclusive_rows}
use Rattle.algorithms.proofs.remote_references.process_rows.note_exclusive.Goals as goal

pub returns-in-Some-clause-rows : goal.returns-in-Some-clause-rows
returns-in-Some-clause-rows c = λ holds before.
    let placed = c.in-Some.ensures.some in
    let here = before c.args.access.address placed.1 in
    let asked : c.stores_or_swaps.result ≡ stores_or_swaps c.args.access = c.stores_or_swaps.ensures in
    rw placed.0 (exclusive_rows c.args.rows.now c.args.p c.exclusive_after.result c.args.access holds placed.1 before
    (rw (← asked) (c.exclusive_after.ensures (holds c.args.access.address) (rw (← placed.0) at here))))

pub returns-in-None-clause-rows : goal.returns-in-None-clause-rows
returns-in-None-clause-rows c = λ holds before. exclusive_elsewhere c.args.rows.now c.args.p c.args.access holds c.in-None.ensures.none before
