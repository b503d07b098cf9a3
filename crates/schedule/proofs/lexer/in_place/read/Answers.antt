use Rattle.std.proofs.Common.{◌++◌, ◌∷◌, [], ◌∙◌, refl, sym, append_assoc, length, ap, length-append, arith}
use Rattle.schedule.proofs.LexerCommon.{NoHeader, NoNewline, line_at, head_at}
use Rattle.std.proofs.lemmas.Result.{err_from_is_err_and}
use Rattle.schedule.proofs.Wholes.{text_at-empty, text_at-uncut, text_read, head_fails, items_fail}
use Rattle.schedule.proofs.InPlace.{is_right, is_wrong, fails_so}
use Rattle.schedule.proofs.lexer.in_place.read.Goals as goal

pub returns-then-is_empty-clause-fault : goal.returns-then-is_empty-clause-fault
returns-then-is_empty-clause-fault c =
    rw c.on_line.ensures (NoHeader, is_wrong c.args.text.now _ (text_at-empty head_at (λ h. line_at h.width) c.args.text.now (grind arith)), refl)

pub returns-in_default-clause-fault : goal.returns-in_default-clause-fault
returns-in_default-clause-fault c =
    rw c.on_line-in_default.ensures (NoNewline, is_wrong c.args.text.now _ (text_at-uncut head_at (λ h. line_at h.width) c.args.text.now c.in_default.ensures.parts (grind arith)), refl)

pub returns-in_err-check_lines-in-Ok-clause-fault : goal.returns-in_err-check_lines-in-Ok-clause-fault
returns-in_err-check_lines-in-Ok-clause-fault c =
    let p = err_from_is_err_and c.from_residual.result c.from_residual.ensures.1 in
    rw (p.1, p.2) (fails_so c.in_err-check_lines-in-Ok.field-0.0 c.args.text.now (items_fail head_at (λ h. line_at h.width) c.in_err-check_lines-in-Ok.field-0.0 c.args.text.now c.in-Some.first.now c.in-Some.lines.now c.in-Ok.head c.in-Some.ensures.parts c.in-Ok.ensures.head c.in_err-check_lines-in-Ok.ensures.read))

pub returns-in_ok-check_lines-in-Ok-clause-lines : goal.returns-in_ok-check_lines-in-Ok-clause-lines
returns-in_ok-check_lines-in-Ok-clause-lines c =
    let lines = c.in_ok-check_lines-in-Ok.ensures.read in
    (lines.0, lines.1, is_right c.args.text.now _ (text_read head_at (λ h. line_at h.width) c.args.text.now c.in-Some.first.now c.in-Some.lines.now c.in-Ok.head lines.0 c.in-Some.ensures.parts c.in-Ok.ensures.head lines.1))

pub returns-in-Err-clause-fault : goal.returns-in-Err-clause-fault
returns-in-Err-clause-fault c =
    rw c.on_line-in-Err.ensures (c.in-Err.fault, is_wrong c.args.text.now _ (head_fails head_at (λ h. line_at h.width) c.args.text.now c.in-Some.first.now c.in-Some.lines.now c.in-Err.fault c.in-Some.ensures.parts c.in-Err.ensures.head), refl)

pub returns-in_ok-check_lines-in-Ok-clause-tail : goal.returns-in_ok-check_lines-in-Ok-clause-tail
returns-in_ok-check_lines-in-Ok-clause-tail c =
    (c.in-Some.first.now ++ 10 ∷ [], c.in-Some.ensures.whole ∙ sym (append_assoc c.in-Some.first.now (10 ∷ []) c.in-Some.lines.now))

pub returns-in_ok-check_lines-in-Ok-clause-shorter : goal.returns-in_ok-check_lines-in-Ok-clause-shorter
returns-in_ok-check_lines-in-Ok-clause-shorter c = omega (arith, ap length c.in-Some.ensures.whole ∙ length-append c.in-Some.first.now (10 ∷ c.in-Some.lines.now))
