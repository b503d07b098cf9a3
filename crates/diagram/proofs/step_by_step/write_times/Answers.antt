use Rattle.std.proofs.Common.{◌≡◌, ℕ, suc, ◌+◌, ◌-◌, Err, refl, sym, subst, ◌∙◌, arith}
use Rattle.diagram.proofs.Common.{replicate, err_from_is_err_and, WritesFront, Writes, WritesText, MarkedStepsState, marked_row_text, marked_rows_text, marked_steps_after, marked_steps_with}
use Rattle.diagram.proofs.Written.{nothing_yet, one_more_part, all_parts, stops_within}
use Rattle.diagram.proofs.step_by_step.write_times.Goals as goal

pub loop-init : goal.loop-init
loop-init g c =
    let all : c.args.times - 0 ≡ c.args.times = omega arith in
    rw all (nothing_yet (g.W.Sink.tape c.args.w.now) _, refl, refl)

pub returns-in_err-write_row : goal.returns-in_err-write_row
returns-in_err-write_row g c =
    let layout = c.args.layout.now in
    let row = c.args.row.now in
    let steps = c.loop.steps in
    let first = g.W.Sink.tape c.args.w.now in
    let mid = g.W.Sink.tape c.loop.w in
    let last = g.W.Sink.tape c.write_row.new.w in
    let left : ℕ = c.args.times - (c.loop.counter + 1) in
    let count : c.args.times - c.loop.counter ≡ suc left = omega (arith, c.loop-test.true) in
    let p = err_from_is_err_and c.from_residual.result c.from_residual.ensures.1 in
    let whole = marked_rows_text layout c.args.steps.now (replicate c.args.times row) in
    let front = subst (λ (n : ℕ). WritesFront first.taken mid.taken whole (marked_rows_text layout steps (replicate n row))) count c.loop.invariant.0 in
    let stopped = subst (λ (q : MarkedStepsState). WritesText {A = Unit {0}} mid last (marked_row_text layout q row) (Err c.in_err-write_row.field-0.0)) c.take.ensures c.in_err-write_row.ensures in
    rw (p.1, p.2)
    (stops_within first mid last whole (marked_row_text layout (marked_steps_with steps row) row) (marked_rows_text layout (marked_steps_with steps row) (replicate left row)) c.in_err-write_row.field-0.0 front c.loop.invariant.1 stopped, tt)

pub loop-preserved : goal.loop-preserved
loop-preserved g c =
    let layout = c.args.layout.now in
    let row = c.args.row.now in
    let steps = c.loop.steps in
    let first = g.W.Sink.tape c.args.w.now in
    let mid = g.W.Sink.tape c.loop.w in
    let last = g.W.Sink.tape c.write_row.new.w in
    let left : ℕ = c.args.times - (c.loop.counter + 1) in
    let count : c.args.times - c.loop.counter ≡ suc left = omega (arith, c.loop-test.true) in
    let whole = marked_rows_text layout c.args.steps.now (replicate c.args.times row) in
    let front = subst (λ (n : ℕ). WritesFront first.taken mid.taken whole (marked_rows_text layout steps (replicate n row))) count c.loop.invariant.0 in
    let written = subst (λ (q : MarkedStepsState). Writes mid last (marked_row_text layout q row)) c.take.ensures c.in_ok-write_row.ensures in
    let further = one_more_part first mid last whole (marked_row_text layout (marked_steps_with steps row) row) (marked_rows_text layout (marked_steps_with steps row) (replicate left row)) front written in
    let after_it = subst (λ (n : ℕ). marked_steps_after steps (replicate n row) ≡ marked_steps_after c.args.steps.now (replicate c.args.times row)) count c.loop.invariant.2 in (
      subst (λ (q : MarkedStepsState). WritesFront first.taken last.taken whole (marked_rows_text layout q (replicate left row))) (sym c.take.ensures) further,
      written.fine ∙ c.loop.invariant.1,
      subst (λ (q : MarkedStepsState). marked_steps_after q (replicate left row) ≡ marked_steps_after c.args.steps.now (replicate c.args.times row)) (sym c.take.ensures) after_it,
    )

pub returns : goal.returns
returns g c =
    let layout = c.args.layout.now in
    let row = c.args.row.now in
    let steps = c.loop.steps in
    let first = g.W.Sink.tape c.args.w.now in
    let mid = g.W.Sink.tape c.loop.w in
    let none : c.args.times - c.loop.counter ≡ 0 = omega (arith, c.loop-test.false) in
    let whole = marked_rows_text layout c.args.steps.now (replicate c.args.times row) in (
      all_parts first mid whole (subst (λ (n : ℕ). WritesFront first.taken mid.taken whole (marked_rows_text layout steps (replicate n row))) none c.loop.invariant.0) c.loop.invariant.1,
      subst (λ (n : ℕ). marked_steps_after steps (replicate n row) ≡ marked_steps_after c.args.steps.now (replicate c.args.times row)) none c.loop.invariant.2,
    )
