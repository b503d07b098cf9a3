use Rattle.std.proofs.Common.{◌++◌, ◌∙◌, ℕ, List, subst}
use Rattle.schedule.specs.Schedules.{spelling}
use Rattle.command_parts.specs.Costs.{line_of_cost}
use Rattle.command_parts.specs.Endings.{Prints}
use Rattle.command_parts.proofs.costs.tell_cost.Goals as goal

pub returns-clause-prints : goal.returns-clause-prints
returns-clause-prints g c =
    let before = g.W.Sink.tape c.args.w.now in
    let now = g.W.Sink.tape c.tell_with_line.new.w in
    subst (λ (status : ℕ). Prints status (spelling c.args.schedule.now ++ line_of_cost c.args.kind c.args.cost.now) before now c.tell_with_line.result) c.status_of_cost.ensures.status
    (subst (λ (line : List ℕ). Prints c.status_of_cost.result (spelling c.args.schedule.now ++ line) before now c.tell_with_line.result)
    (c.as_bytes.ensures.value ∙ (c.deref.ensures.0 ∙ c.line_of_cost-line.ensures)) c.tell_with_line.ensures.prints)
