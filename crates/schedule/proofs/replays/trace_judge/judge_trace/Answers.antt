use Rattle.std.proofs.Common.{◌≡◌, ◌+◌, ◌<◌, ◌^◌, [], length, refl, ap, ◌∙◌, arith, inr, length-append}
use Rattle.schedule.proofs.ReplaysCommon.{err_from_is_err_and, parts_of, trace_answer}
use Rattle.schedule.proofs.Cutting.{lines-few}
use Rattle.schedule.proofs.Answering.{judges, is_of_text, stops, stops_known}
use Rattle.schedule.proofs.Heading.{whole_text}
use Rattle.schedule.proofs.replays.trace_judge.judge_trace.Goals as goal

pub returns-clause-judges : goal.returns-clause-judges
returns-clause-judges g c =
    let taken = c.in_ok-rest.ensures.taken [] c.new-trace_judge.ensures in
    let text = taken.0 in
    let lines = taken.3.0 in
    let parts = taken.3.1 in
    let size = ap length taken.1 ∙ length-append (g.S.Source.reading c.args.source.now).given text in
    let few : length lines + 3 < 2 ^ 64 = omega (arith, size, c.in_ok-rest.ensures.finite, lines-few text c.in_ok-rest.rest.items lines parts) in
    let answer : c.answer.result ≡ trace_answer (parts_of text) = c.answer.ensures lines taken.3.2 few ∙ rw (c.deref.ensures.value, parts) refl in
    judges _ _ text c.answer.result taken.1 c.in_ok-rest.ensures.ended c.in_ok-rest.ensures.fine answer (is_of_text (parts_of text) c.answer.result answer)

pub returns-clause-known : goal.returns-clause-known
returns-clause-known g c = λ known coming.
    let taken = c.in_ok-rest.ensures.taken [] c.new-trace_judge.ensures in
    let text = taken.0 in
    let lines = taken.3.0 in
    let parts = taken.3.1 in
    let size = ap length taken.1 ∙ length-append (g.S.Source.reading c.args.source.now).given text in
    let few : length lines + 3 < 2 ^ 64 = omega (arith, size, c.in_ok-rest.ensures.finite, lines-few text c.in_ok-rest.rest.items lines parts) in
    let answer : c.answer.result ≡ trace_answer (parts_of text) = c.answer.ensures lines taken.3.2 few ∙ rw (c.deref.ensures.value, parts) refl in
    inr (inr (answer ∙ ap (λ t. trace_answer (parts_of t)) (whole_text known text _ _ coming taken.2 c.in_ok-rest.ensures.none_left)))

pub returns-in_err-rest-clause-judges : goal.returns-in_err-rest-clause-judges
returns-in_err-rest-clause-judges g c =
    let p = err_from_is_err_and c.from_residual.result c.from_residual.ensures.1 in
    rw (p.1, p.2) (stops c.in_err-rest.field-0.0 _ _ c.in_err-rest.ensures.unended c.in_err-rest.ensures.fault)

pub returns-in_err-rest-clause-known : goal.returns-in_err-rest-clause-known
returns-in_err-rest-clause-known g c = λ known coming.
    let p = err_from_is_err_and c.from_residual.result c.from_residual.ensures.1 in
    rw (p.1, p.2) (stops_known c.in_err-rest.field-0.0 known c.in_err-rest.ensures.fault)
