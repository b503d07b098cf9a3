use Rattle.std.proofs.Common.{inl, inr}
use Rattle.rmeworld.proofs.ImageCommon.{err_from_is_err_and}
use Rattle.rmeworld.proofs.ImageForms.{no_cap, no_cells, no_limit, no_lock, no_last}
use Rattle.rmeworld.proofs.image.form.take_image.Goals as goal

pub returns-in_err-cap-clause-err : goal.returns-in_err-cap-clause-err
returns-in_err-cap-clause-err c =
    let p = err_from_is_err_and c.from_residual.result c.from_residual.ensures.1 in
    rw (p.1, p.2) (inr (c.in_err-cap.ensures.err.0, no_cap _ c.in_err-cap.ensures.err.1))

pub returns-in_err-cells-clause-err : goal.returns-in_err-cells-clause-err
returns-in_err-cells-clause-err c =
    let p = err_from_is_err_and c.from_residual-in_err-cells.result c.from_residual-in_err-cells.ensures.1 in
    rw (p.1, p.2) (elim c.in_err-cells.ensures.err [ inl memory ↦ inl memory | inr h ↦ inr (h.0, no_cells _ _ _ c.in_ok-cap.ensures.ok h.1) ])

pub returns-in_err-limit-clause-err : goal.returns-in_err-limit-clause-err
returns-in_err-limit-clause-err c =
    let p = err_from_is_err_and c.from_residual-in_err-limit.result c.from_residual-in_err-limit.ensures.1 in
    rw (p.1, p.2) (inr (c.in_err-limit.ensures.err.0, no_limit _ _ _ _ _ c.in_ok-cap.ensures.ok c.in_ok-cells.ensures.ok c.in_err-limit.ensures.err.1))

pub returns-in_err-lock-clause-err : goal.returns-in_err-lock-clause-err
returns-in_err-lock-clause-err c =
    let p = err_from_is_err_and c.from_residual-in_err-lock.result c.from_residual-in_err-lock.ensures.1 in
    rw (p.1, p.2) (elim c.in_err-lock.ensures.err [ inl memory ↦ inl memory | inr h ↦ inr (h.0, no_lock _ _ _ _ _ _ _ c.in_ok-cap.ensures.ok c.in_ok-cells.ensures.ok c.in_ok-limit.ensures.ok h.1) ])

pub returns-in_err-version-clause-err : goal.returns-in_err-version-clause-err
returns-in_err-version-clause-err c =
    let p = err_from_is_err_and c.from_residual-in_err-version.result c.from_residual-in_err-version.ensures.1 in
    rw (p.1, p.2) (inr (c.in_err-version.ensures.err.0, no_last _ _ _ _ _ _ _ _ _ c.in_ok-cap.ensures.ok c.in_ok-cells.ensures.ok c.in_ok-limit.ensures.ok c.in_ok-lock.ensures.ok c.in_err-version.ensures.err.1))
