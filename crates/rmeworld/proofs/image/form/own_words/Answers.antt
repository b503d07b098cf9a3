use Rattle.std.proofs.Common.{[], ◌∷◌, refl, arith}
use Rattle.rmeworld.proofs.ImageCommon.{err_from_is_err_and, whole_data}
use Rattle.rmeworld.proofs.ImageForms.{not_all, not_many}
use Rattle.rmeworld.proofs.image.form.own_words.Goals as goal

pub returns-in_default-as_slice-clause-err : goal.returns-in_default-as_slice-clause-err
returns-in_default-as_slice-clause-err c = (
  refl,
  λ x is.
      absurd (omega (arith, c.as_slice.ensures.len, not_many whole_data c.args.value.now c.in-Some.items.now.items (x.choosing ∷ x.number ∷ x.inside ∷ []) c.in-Some.ensures is)),
)

pub returns-in_default-as_slice-2-clause-err : goal.returns-in_default-as_slice-2-clause-err
returns-in_default-as_slice-2-clause-err c = (
  refl,
  λ x is.
      absurd (omega (arith, c.as_slice.ensures.len, not_many whole_data c.args.value.now c.in-Some.items.now.items (x.choosing ∷ x.number ∷ x.inside ∷ []) c.in-Some.ensures is)),
)

pub returns-in_err-whole_number-clause-err : goal.returns-in_err-whole_number-clause-err
returns-in_err-whole_number-clause-err c =
    let p = err_from_is_err_and c.from_residual.result c.from_residual.ensures.1 in
    rw (p.1, p.2) (
      c.in_err-whole_number.ensures.err.0,
      λ x is.
          not_all whole_data c.args.value.now c.in-Some.items.now.items c.as_slice.result.now 0 c.choosing-item.result c.in-Some.ensures c.as_slice.ensures.value (omega arith) c.choosing-item.is
          c.in_err-whole_number.ensures.err.1 (x.choosing ∷ x.number ∷ x.inside ∷ []) is,
    )

pub returns-in_err-whole_number-2-clause-err : goal.returns-in_err-whole_number-2-clause-err
returns-in_err-whole_number-2-clause-err c =
    let p = err_from_is_err_and c.from_residual-in_err-whole_number-2.result c.from_residual-in_err-whole_number-2.ensures.1 in
    rw (p.1, p.2) (
      c.in_err-whole_number-2.ensures.err.0,
      λ x is.
          not_all whole_data c.args.value.now c.in-Some.items.now.items c.as_slice.result.now 1 c.number-item.result c.in-Some.ensures c.as_slice.ensures.value (omega arith) c.number-item.is
          c.in_err-whole_number-2.ensures.err.1 (x.choosing ∷ x.number ∷ x.inside ∷ []) is,
    )

pub returns-in_err-whole_number-3-clause-err : goal.returns-in_err-whole_number-3-clause-err
returns-in_err-whole_number-3-clause-err c =
    let p = err_from_is_err_and c.from_residual-in_err-whole_number-3.result c.from_residual-in_err-whole_number-3.ensures.1 in
    rw (p.1, p.2) (
      c.in_err-whole_number-3.ensures.err.0,
      λ x is.
          not_all whole_data c.args.value.now c.in-Some.items.now.items c.as_slice.result.now 2 c.inside-item.result c.in-Some.ensures c.as_slice.ensures.value (omega arith) c.inside-item.is
          c.in_err-whole_number-3.ensures.err.1 (x.choosing ∷ x.number ∷ x.inside ∷ []) is,
    )
