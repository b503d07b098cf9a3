use Rattle.std.proofs.Common.{◌≡◌, ◌++◌, ◌∙◌, ℕ, length, ap, subst}
use Rattle.schedule.specs.Schedules.{Scheduled, spelling}
use Rattle.command_parts.specs.Endings.{Prints}
use Rattle.lock_commands.specs.Explores.{schedule_of}
use Rattle.command_parts.specs.Findings.{starves_line}
use Rattle.lock_commands.proofs.starvation.tell_lasso.Goals as goal

pub returns-clause-prints : goal.returns-clause-prints
returns-clause-prints g c =
    let lasso = c.args.lasso.now in
    let before = g.W.Sink.tape c.args.w.now in
    let now = g.W.Sink.tape c.tell_starves.new.w in
    let cycle = c.as_slice-cycle.ensures.value in
    let path : c.deref.result.now ≡ lasso.stem.items ++ lasso.cycle.items = c.deref.ensures.value ∙ c.in_ok-path.ensures in
    subst (λ (many : ℕ). Prints 1 (spelling (schedule_of c.args.args.now (lasso.stem.items ++ lasso.cycle.items)) ++ starves_line lasso.process many) before now c.tell_starves.result) (ap length cycle)
    (subst (λ (schedule : Scheduled). Prints 1 (spelling schedule ++ starves_line lasso.process (length c.as_slice-cycle.result.now)) before now c.tell_starves.result)
    (c.in_ok-schedule.ensures.schedule ∙ ap (schedule_of c.args.args.now) path) c.tell_starves.ensures.prints)
