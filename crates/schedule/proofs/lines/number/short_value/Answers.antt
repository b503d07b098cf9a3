use Rattle.std.proofs.Common.{◌≡◌, get_or, true, sym, ◌∙◌, arith}
use Rattle.std.proofs.lemmas.List.Folds.{list_all_at}
use Rattle.schedule.proofs.LinesCommon.{is_ascii_digit}
use Rattle.schedule.proofs.Numbers.{short_step}
use Rattle.schedule.proofs.lines.number.short_value.Goals as goal

pub overflow_mul-value : goal.overflow_mul-value
overflow_mul-value c =
    let digit : is_ascii_digit (get_or c.args.word.now c.loop-byte.byte-index 0) ≡ true = grind arith in
    let step = short_step c.args.word.now c.loop-byte.byte-index c.requires c.loop-byte-test.true c.loop-byte.invariant.0 digit in
    omega (arith, step.2, c.loop-byte.invariant.1)

pub overflow_add-value : goal.overflow_add-value
overflow_add-value c =
    let digit : is_ascii_digit (get_or c.args.word.now c.loop-byte.byte-index 0) ≡ true = grind arith in
    let step = short_step c.args.word.now c.loop-byte.byte-index c.requires c.loop-byte-test.true c.loop-byte.invariant.0 digit in
    grind (arith, step.2)

pub loop-byte-preserved : goal.loop-byte-preserved
loop-byte-preserved c =
    let digit : is_ascii_digit (get_or c.args.word.now c.loop-byte.byte-index 0) ≡ true = grind arith in
    let step = short_step c.args.word.now c.loop-byte.byte-index c.requires c.loop-byte-test.true c.loop-byte.invariant.0 digit in
    (step.0, grind (arith, step.1))

pub returns-then-not-is_ascii_digit-clause-other : goal.returns-then-not-is_ascii_digit-clause-other
returns-then-not-is_ascii_digit-clause-other c =
    list_all_at is_ascii_digit c.args.word.now c.loop-byte.byte-index 0 c.loop-byte-test.true (sym c.is_ascii_digit.ensures.value ∙ c.if-not-is_ascii_digit.true)
