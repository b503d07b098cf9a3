use Rattle.std.proofs.Common.{◌≡◌, ◌+◌, ◌<◌, ◌∷◌, [], ◌++◌, take, length, ◌∙◌, arith, slice_set}
use Rattle.schedule.proofs.LinesCommon.{common_steps, repeated_shape, numbers_at}
use Rattle.std.proofs.Math.ListN.{length-set}
use Rattle.std.proofs.lemmas.Result.{err_from_is_err_and}
use Rattle.schedule.proofs.LineForms.{goes_on, stops}
use Rattle.schedule.proofs.lines.words.LineWords.body.Goals as goal

pub loop-j-preserved : goal.loop-j-preserved
loop-j-preserved c =
    let lt : c.loop-j.j < length c.loop-j.words = omega (arith, c.requires) in
    let e : take (c.loop-j.j + 1) (slice_set c.loop-j.words c.loop-j.j c.in_ok-words.field-0) ≡ take c.loop-j.j c.loop-j.words ++ c.in_ok-words.field-0 ∷ [] = grind (arith, common_steps) in (
      rw (e, c.number.ensures.rest) (goes_on (take c.loop-j.j c.loop-j.words) c.args.width c.loop-j.j c.loop-j.self c.in_ok-words.field-0 (numbers_at (repeated_shape c.args.width) c.args.self.now) c.loop-j-test.true c.in_ok-words.ensures.number c.loop-j.invariant.0),
      length-set c.loop-j.words c.loop-j.j c.in_ok-words.field-0 ∙ c.loop-j.invariant.1,
    )

pub returns-in_err-words-clause-numbers : goal.returns-in_err-words-clause-numbers
returns-in_err-words-clause-numbers c =
    let p = err_from_is_err_and c.from_residual.result c.from_residual.ensures.1 in
    rw (p.1, p.2) (stops (take c.loop-j.j c.loop-j.words) c.args.width c.loop-j.j c.loop-j.self c.in_err-words.field-0.0 (numbers_at (repeated_shape c.args.width) c.args.self.now) c.loop-j-test.true c.in_err-words.ensures.number c.loop-j.invariant.0)
