use Rattle.std.proofs.Common.{◌<◌, ℕ, [], List, map, All, length, slice_index_or, subst, sym, arith}
use Rattle.judge.proofs.Common.{length-map, HasBits, is_named}
use Rattle.judge.proofs.Numbers.{set_here}
use Rattle.judge.proofs.Sets.{RowsHold-more}
use Rattle.judge.proofs.rows.rows_of.Goals as goal

pub row_of-requires : goal.row_of-requires
row_of-requires c =
    let here = set_here (λ names. names.items) c.args.sets.now c.loop-names.names-index c.names-item.result c.deref.result.now [] c.loop-names-test.true c.names-item.is c.deref.ensures.value in
    let within : c.loop-names.names-index < length (map {B = List ℕ} (λ names. names.items) c.args.sets.now) = omega (arith, c.loop-names-test.true, length-map {B = List ℕ} c.args.sets.now (λ names. names.items)) in
    subst (All (λ q. q < 64)) here (c.requires c.loop-names.names-index [] within)

pub loop-names-preserved : goal.loop-names-preserved
loop-names-preserved c =
    let here = set_here (λ names. names.items) c.args.sets.now c.loop-names.names-index c.names-item.result c.deref.result.now [] c.loop-names-test.true c.names-item.is c.deref.ensures.value in
    RowsHold-more c.loop-names.rows.items c.push.new.self.items c.loop-names.names-index c.row_of.result
    (λ p. is_named (slice_index_or (map (λ names. names.items) c.args.sets.now) p [])) c.in_ok-push.ensures.items
    (subst (λ names. HasBits c.row_of.result 64 (is_named names)) (sym here) c.row_of.ensures) c.loop-names.invariant
