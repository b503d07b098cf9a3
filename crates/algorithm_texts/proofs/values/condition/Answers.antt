use Rattle.algorithm_texts.specs.Parts.{part_of}
use Rattle.algorithm_texts.specs.Operands.{names_of}
use Rattle.algorithm_texts.proofs.Stacked.{condition_made, condition_refused, no_condition_said}
use Rattle.algorithm_texts.proofs.values.condition.Goals as goal

pub returns-in-Ok-clause-ok : goal.returns-in-Ok-clause-ok
returns-in-Ok-clause-ok c = condition_made c.args.algorithm.now (names_of c.args.algorithm.now) _ c.args.tokens.now (part_of c.in-Ok.operand) c.condition.result c.in-Ok.ensures.part c.condition.ensures

pub returns-in-Ok-clause-err : goal.returns-in-Ok-clause-err
returns-in-Ok-clause-err c = condition_refused c.args.algorithm.now (names_of c.args.algorithm.now) _ c.args.tokens.now (part_of c.in-Ok.operand) c.condition.result c.in-Ok.ensures.part c.condition.ensures

pub returns-in-Err-clause-err : goal.returns-in-Err-clause-err
returns-in-Err-clause-err c = no_condition_said c.args.algorithm.now (names_of c.args.algorithm.now) c.args.tokens.now c.in-Err.fault _ c.in-Err.ensures.part
