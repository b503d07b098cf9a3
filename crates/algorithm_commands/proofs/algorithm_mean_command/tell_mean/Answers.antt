use Rattle.std.proofs.Common.{inl, subst}
use Rattle.algorithm_hunts.specs.declared.random_rounds.CostTotals.{CostTotals}
use Rattle.algorithm_commands.specs.AlgorithmMeanCosts.{mean_line}
use Rattle.command_parts.specs.Endings.{Prints}
use Rattle.algorithm_commands.proofs.AlgorithmMeanCosts.{not_counted}
use Rattle.algorithm_commands.proofs.algorithm_mean_command.tell_mean.Goals as goal

pub returns-in-Ok-clause-ends : goal.returns-in-Ok-clause-ends
returns-in-Ok-clause-ends g c =
    let totals = rw c.in-Ok.is at c.algorithm_cost_totals-counted.ensures.totals in
    inl (record {
      sizes = rw c.in-Ok.is at c.algorithm_cost_totals-counted.ensures.accepted;
      prints = subst (λ (t : CostTotals). Prints 0 (mean_line t) (g.W.Sink.tape c.args.w.now) (g.W.Sink.tape c.tell_totals.new.w) c.tell_totals.result) totals c.tell_totals.ensures.prints;
    })

pub returns-in-Err-clause-ends : goal.returns-in-Err-clause-ends
returns-in-Err-clause-ends g c =
    let counted = c.algorithm_cost_totals-counted.ensures in
    rw c.hunt_fault.ensures (
    not_counted c.args.algorithm c.args.args.now (g.W.Sink.tape c.args.w.now) c.algorithm_cost_totals-counted.result c.in-Err.fault
    c.in-Err.is counted.rounds counted.steps counted.refused
    )
