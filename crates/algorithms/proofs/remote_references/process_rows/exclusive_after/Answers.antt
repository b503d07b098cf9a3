use Rattle.std.proofs.Common.{◌∙◌}
use Rattle.std.proofs.lemmas.Nat.Bits.{bit_at_and}
use Rattle.algorithms.proofs.remote_references.Bits.{exclusive_loaded, exclusive_stored}
use Rattle.algorithms.proofs.remote_references.process_rows.exclusive_after.Goals as goal

pub returns-then-stores : goal.returns-then-stores
returns-then-stores c = λ holds bits q l. exclusive_stored c.args.stores _ (holds q) _ c.if-stores.true (c.row_of_one-one.ensures q l)

pub returns-else-stores : goal.returns-else-stores
returns-else-stores c = λ holds bits q l.
    bit_at_and c.args.row c.row_of_one-one.result q ∙ exclusive_loaded c.args.stores _ (holds q) _ _ c.if-stores.false (c.row_of_one-one.ensures q l) (bits q l)
