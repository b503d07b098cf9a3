use Rattle.std.proofs.Common.{refl, arith}
use Rattle.std.proofs.lemmas.Result.{err_from_is_err_and}
use Rattle.schedule.proofs.TextsCommon.{NoHeader, NoNewline}
use Rattle.schedule.proofs.Wholes.{text_at-empty, text_at-uncut, text_read, head_fails, items_fail}
use Rattle.schedule.proofs.texts.whole.read_all.Goals as goal

pub returns-in_default : goal.returns-in_default
returns-in_default g c = rw c.on_line-in_default.ensures (NoNewline, text_at-uncut _ _ c.args.text.now c.in_default.ensures.parts (grind arith), refl)

pub returns-in_err-items-in-Ok : goal.returns-in_err-items-in-Ok
returns-in_err-items-in-Ok g c =
    let p = err_from_is_err_and c.from_residual.result c.from_residual.ensures.1 in
    rw (p.1, p.2) (items_fail _ _ c.in_err-items-in-Ok.field-0.0 c.args.text.now c.in-Some.first.now c.in-Some.rest.now c.in-Ok.head c.in-Some.ensures.parts c.in-Ok.ensures.head (rw (← c.width.ensures) c.in_err-items-in-Ok.ensures))

pub returns-in_ok-items-in-Ok : goal.returns-in_ok-items-in-Ok
returns-in_ok-items-in-Ok g c =
    text_read _ _ c.args.text.now c.in-Some.first.now c.in-Some.rest.now c.in-Ok.head c.in_ok-items-in-Ok.items.items c.in-Some.ensures.parts c.in-Ok.ensures.head (rw (← c.width.ensures) c.in_ok-items-in-Ok.ensures)

pub returns-in-Err : goal.returns-in-Err
returns-in-Err g c =
    rw c.on_line-in-Err.ensures (c.in-Err.fault, head_fails _ _ c.args.text.now c.in-Some.first.now c.in-Some.rest.now c.in-Err.fault c.in-Some.ensures.parts c.in-Err.ensures.head, refl)

pub returns-then-is_empty : goal.returns-then-is_empty
returns-then-is_empty g c = rw c.on_line.ensures (NoHeader, text_at-empty _ _ c.args.text.now (grind arith), refl)
