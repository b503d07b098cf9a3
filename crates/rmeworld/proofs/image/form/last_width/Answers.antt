use Rattle.std.proofs.Common.{refl}
use Rattle.rmeworld.proofs.ImageCommon.{err_from_is_err_and}
use Rattle.rmeworld.proofs.ImageForms.{no_width, more_than_width}
use Rattle.rmeworld.proofs.image.form.last_width.Goals as goal

pub returns-in_err-width-clause-err : goal.returns-in_err-width-clause-err
returns-in_err-width-clause-err c =
    let p = err_from_is_err_and c.from_residual.result c.from_residual.ensures.1 in
    rw (p.1, p.2) (c.in_err-width.ensures.err.0, no_width c.args.members.now.entries c.if-is_empty.ensures.1 c.in_err-width.ensures.err.1)

pub returns-then-not-is_empty-clause-err : goal.returns-then-not-is_empty-clause-err
returns-then-not-is_empty-clause-err c =
    (refl, more_than_width c.args.members.now.entries c.take_whole.new.members.entries c.in_ok-width.width c.in_ok-width.ensures.ok c.if-not-is_empty.ensures.1)
