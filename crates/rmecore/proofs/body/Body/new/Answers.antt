use Rattle.std.proofs.Common.{arith}
use Rattle.rmecore.proofs.Bodies.{IsBody-of_words}
use Rattle.rmecore.proofs.body.Body.new.Goals as goal

pub invariant_of-result : goal.invariant_of-result
invariant_of-result c =
    let e = c.copy_from_slice.ensures.after in
    rw e (IsBody-of_words c.args.words.now (omega arith) (omega arith))
