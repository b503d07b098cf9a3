use Rattle.std.proofs.Common.{inr, sym, ap, ◌∙◌, arith}
use Rattle.rmeworld.proofs.ImageCommon.{err_from_is_err_and, view, own_data}
use Rattle.rmeworld.proofs.ImageForms.{not_all}
use Rattle.rmeworld.proofs.Mapped.{mapped_on}
use Rattle.rmeworld.proofs.image.form.owns.Goals as goal

pub returns-in_err-own_words-clause-err : goal.returns-in_err-own_words-clause-err
returns-in_err-own_words-clause-err c =
    let p = err_from_is_err_and c.from_residual-in_err-own_words.result c.from_residual-in_err-own_words.ensures.1 in
    rw (p.1, p.2) (inr (
      c.in_err-own_words.ensures.err.0,
      not_all own_data c.args.value.now c.in-Some.items.now.items c.deref-item-items.result.now c.loop-item.item-index c.item-item.result
          c.in-Some.ensures c.deref-item-items.ensures.value (omega arith) c.item-item.is c.in_err-own_words.ensures.err.1,
    ))

pub loop-item-preserved : goal.loop-item-preserved
loop-item-preserved c =
    let i = c.loop-item.invariant in
    let here = sym c.in_ok-own_words.ensures.ok ∙ ap view c.item-item.is in
    record {
      same = sym (mapped_on own_data view c.loop-item.owns.items _ c.deref-item-items.result.now c.loop-item.item-index c.item-item.result c.in_ok-own_words.field-0 (sym i.same) c.push_reserved.ensures.items c.loop-item-test.true here);
      count = omega (arith, c.push_reserved.ensures.len, i.count);
      room = omega (arith, c.push_reserved.ensures.capacity, i.room);
    }
