use Rattle.algorithm_texts.specs.Letters.{filled_up}
use Rattle.algorithm_texts.proofs.tokens.LineWord.of.Goals as goal

pub invariant_of-result : goal.invariant_of-result
invariant_of-result c = filled_up 32 c.args.bytes.now c.copy_from_slice.new.self c.copy_from_slice.ensures.after c.if-size-gt-LONGEST_NAME.false c.requires
