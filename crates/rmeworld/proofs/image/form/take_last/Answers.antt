use Rattle.std.proofs.Common.{codes, sym, ap, ◌∙◌}
use Rattle.rmeworld.proofs.ImageCommon.{err_from_is_err_and, member, whole_data, width_member}
use Rattle.rmeworld.proofs.ImageForms.{rest_of_members}
use Rattle.rmeworld.proofs.image.form.take_last.Goals as goal

pub returns-in_err-version-clause-err : goal.returns-in_err-version-clause-err
returns-in_err-version-clause-err c =
    let p = err_from_is_err_and c.from_residual.result c.from_residual.ensures.1 in
    rw (p.1, p.2) (c.in_err-version.ensures.err.0, λ version wide w e. c.in_err-version.ensures.err.1 version (width_member wide w) e)

pub returns-in_err-width-clause-err : goal.returns-in_err-width-clause-err
returns-in_err-width-clause-err c =
    let p = err_from_is_err_and c.from_residual-in_err-width.result c.from_residual-in_err-width.ensures.1 in
    rw (p.1, p.2) (c.in_err-width.ensures.err.0, λ version wide w e. c.in_err-width.ensures.err.1 wide w (ap rest_of_members (sym c.in_ok-version.ensures.ok ∙ e)))

pub returns-clause-ok : goal.returns-clause-ok
returns-clause-ok c = c.in_ok-version.ensures.ok ∙ ap (member (codes "version") (whole_data c.in_ok-version.version)) c.in_ok-width.ensures.ok
