use Rattle.std.proofs.Common.{◌∙◌, [], ◌∷◌, ap, sym, subst}
use Rattle.std.proofs.lemmas.Result.{err_from_is_err_and}
use Rattle.algorithms.specs.declared.fault.ReadFault.{ReadFault}
use Rattle.algorithm_texts.specs.LineFaults.{promises_list_fault}
use Rattle.algorithm_texts.specs.Operands.{RefusesAs}
use Rattle.algorithm_texts.specs.PromiseLines.{SaysMore, promise_parts, promises_said, with_promises}
use Rattle.algorithm_texts.proofs.PromiseLists.{fault_after, last_part, part_made, part_refused}
use Rattle.algorithm_texts.proofs.promises.add_promises.Goals as goal

pub loop-part-preserved : goal.loop-part-preserved
loop-part-preserved c =
    let p = promises_said c.loop-part.said in
    let q = promises_said c.add_promise.new.said in
    let part = c.in-Some.part.now in
    let rest = promise_parts c.in-Some.following.now in
    record {
      made = c.loop-part.invariant.made ∙ ap (with_promises p) c.in-Some.ensures.parts ∙ part_made p q part rest c.in_ok-add_promise.ensures;
      fault = c.loop-part.invariant.fault ∙ ap (promises_list_fault p) c.in-Some.ensures.parts ∙ fault_after p q part rest c.in_ok-add_promise.ensures;
    }
