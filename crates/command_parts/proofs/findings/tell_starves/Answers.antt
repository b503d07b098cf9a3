use Rattle.std.proofs.Common.{ℕ, List, ◌∙◌, subst}
use Rattle.std.proofs.lemmas.Result.{err_from_is_err_and}
use Rattle.command_parts.specs.Endings.{Prints}
use Rattle.schedule.specs.Schedules.{spelling}
use Rattle.command_parts.specs.Findings.{starves_line}
use Rattle.command_parts.proofs.Writing.{fails_wider, prints_further}
use Rattle.command_parts.proofs.findings.tell_starves.Goals as goal

pub returns-in_err-tell_schedule-clause-prints : goal.returns-in_err-tell_schedule-clause-prints
returns-in_err-tell_schedule-clause-prints g c =
    let p = err_from_is_err_and c.from_residual.result c.from_residual.ensures.1 in
    rw (p.1, p.2) (
    fails_wider (spelling c.args.schedule.now) (starves_line c.args.process c.args.cycle) (g.W.Sink.tape c.args.w.now) (g.W.Sink.tape c.tell_schedule.new.w) _
    c.in_err-tell_schedule.ensures.prints
    )

pub returns-clause-prints : goal.returns-clause-prints
returns-clause-prints g c =
    let mid = g.W.Sink.tape c.tell_schedule.new.w in
    let now = g.W.Sink.tape c.tell_text.new.w in
    prints_further 1 (spelling c.args.schedule.now) (starves_line c.args.process c.args.cycle) (g.W.Sink.tape c.args.w.now) mid now c.tell_text.result
    c.in_ok-tell_schedule.ensures.prints.1
    (subst (λ (text : List ℕ). Prints 1 text mid now c.tell_text.result) (c.as_bytes.ensures.value ∙ (c.deref.ensures.0 ∙ c.starves_line-line.ensures)) c.tell_text.ensures.prints)
    c.tell_text.ensures.failed
