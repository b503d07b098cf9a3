use Rattle.std.proofs.Common.{◌-◌, sym, ◌∙◌, arith}
use Rattle.algorithm_texts.proofs.OpenBlocks.{found_here}
use Rattle.algorithm_texts.proofs.block_lines.innermost_open.Goals as goal

pub returns-then-may_stay_open-clause-place : goal.returns-then-may_stay_open-clause-place
returns-then-may_stay_open-clause-place c =
    found_here c.args.lines.now (c.loop-place.place - 1) c.loop-place.place c.loop-place.ended _ (omega (arith, c.loop-place-test.true))
    (omega (arith, c.loop-place-test.true, c.loop-place.invariant.few)) c.loop-place.invariant.none c.loop-place.invariant.more c.if-ended-eq0.true
    (sym c.may_stay_open.ensures ∙ c.if-may_stay_open.true)
