use Rattle.algorithm_texts.specs.Parts.{part_of}
use Rattle.algorithm_texts.specs.Operands.{names_of}
use Rattle.algorithm_texts.proofs.Stacked.{value_made, value_refused, no_value_said}
use Rattle.algorithm_texts.proofs.values.value.Goals as goal

pub returns-in-Ok-clause-ok : goal.returns-in-Ok-clause-ok
returns-in-Ok-clause-ok c = value_made c.args.algorithm.now (names_of c.args.algorithm.now) _ c.args.tokens.now (part_of c.in-Ok.operand) c.value.result c.in-Ok.ensures.part c.value.ensures

pub returns-in-Ok-clause-err : goal.returns-in-Ok-clause-err
returns-in-Ok-clause-err c = value_refused c.args.algorithm.now (names_of c.args.algorithm.now) _ c.args.tokens.now (part_of c.in-Ok.operand) c.value.result c.in-Ok.ensures.part c.value.ensures

pub returns-in-Err-clause-err : goal.returns-in-Err-clause-err
returns-in-Err-clause-err c = no_value_said c.args.algorithm.now (names_of c.args.algorithm.now) c.args.tokens.now c.in-Err.fault _ c.in-Err.ensures.part
