use Rattle.std.proofs.Common.{arith, rules}
use Rattle.std.proofs.lemmas.Grind.{common_steps}
use Rattle.algorithms.proofs.remote_references.CopyEvents.{none_held}
use Rattle.algorithms.proofs.remote_references.copies.Copies.new.Goals as goal

pub returns : goal.returns
returns c =
    none_held c.args.declarations c.in_ok-held.held.items c.in_ok-exclusive.exclusive.items
    (first_of (search rules, grind (arith, common_steps))) (first_of (search rules, grind (arith, common_steps)))
