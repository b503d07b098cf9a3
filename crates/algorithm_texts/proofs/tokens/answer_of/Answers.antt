use Rattle.std.proofs.Common.{eqb, length, ap, sym, ◌∙◌, inl, inr, Ok, Err, rules}
use Rattle.std.proofs.lemmas.Iterator.Consumers.{YieldsList-turn, YieldsList-end}
use Rattle.std.proofs.lemmas.Iterator.Splits.{YieldsList-from_slice_split}
use Rattle.std.specs.List.{slice_split}
use Rattle.std.specs.Slice.Iter.{split_rest, split_done, split_callee}
use borrow.Author.Tests.{tests}
use Rattle.algorithm_texts.specs.Tokens.{answer_from}
use Rattle.algorithm_texts.proofs.Replies.{nothing_said, part_refused}
use Rattle.algorithm_texts.proofs.tokens.answer_of.Goals as goal

pub loop-part-init : goal.loop-part-init
loop-part-init c = nothing_said ∙ ap (λ bs. Ok bs) (sym c.new-answer.ensures.items)

pub returns-in-Err-clause-err : goal.returns-in-Err-clause-err
returns-in-Err-clause-err c =
    let t = YieldsList-turn (YieldsList-from_slice_split _ (λ b. eqb b 32) c.args.bytes.now (ap split_rest c.into_iter-part-iterator.ensures.into_iter_gives ∙ c.split-part-items.ensures.rest)
    (ap split_done c.into_iter-part-iterator.ensures.into_iter_gives ∙ c.split-part-items.ensures.done) (ap split_callee c.into_iter-part-iterator.ensures.into_iter_gives ∙ c.split-part-items.ensures.closure)
    (λ x b q k. search (rules, tests))) c.loop-part.yielded _ c.loop-part.yielded_by _ _ c.in-Some.part c.in-Some.is c.next.ensures.steps in
    elim c.in-Err.ensures.err [
      | inl memory ↦ inl memory
      | inr h ↦ inr (part_refused (slice_split (λ b. eqb b 32) c.args.bytes.now) (length c.loop-part.yielded) c.in-Some.part.now t.0 t.1 h.1 h.2 ∙ ap (λ f. Err f) (sym h.0))
    ]

pub returns-clause-ok : goal.returns-clause-ok
returns-clause-ok c =
    let t = YieldsList-end (YieldsList-from_slice_split _ (λ b. eqb b 32) c.args.bytes.now (ap split_rest c.into_iter-part-iterator.ensures.into_iter_gives ∙ c.split-part-items.ensures.rest)
    (ap split_done c.into_iter-part-iterator.ensures.into_iter_gives ∙ c.split-part-items.ensures.done) (ap split_callee c.into_iter-part-iterator.ensures.into_iter_gives ∙ c.split-part-items.ensures.closure)
    (λ x b q k. search (rules, tests))) c.loop-part.yielded _ c.loop-part.yielded_by _ _ c.in-None.is c.next.ensures.steps in
    ap answer_from (sym t.0) ∙ c.loop-part.invariant
