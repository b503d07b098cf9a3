use Rattle.std.proofs.Common.{◌≡◌, ◌++◌, subst, None, Err, refl, inl, inr, ap, ◌∙◌, sym, rules}
use Rattle.algorithm_explorer.specs.RemoteCosts.{IsCostOfSearch}
use Rattle.algorithm_explorer.specs.Spaces.{AlgorithmSearch, search_of, size_refusal}
use Rattle.passages.specs.declared.question.CostQuestion.{CostQuestion}
use Rattle.cli.specs.declared.arguments.args.CostArgs.{CostArgs}
use Rattle.schedule.specs.Schedules.{Scheduled, spelling}
use Rattle.command_parts.specs.Costs.{line_of_cost, path_of_cost, status_of_cost}
use Rattle.command_parts.specs.Endings.{Prints}
use Rattle.algorithm_commands.specs.AlgorithmExplores.{asked_search, schedule_of}
use Rattle.algorithm_commands.proofs.AlgorithmExplores.{no_size}
use Rattle.algorithm_commands.proofs.AlgorithmCosts.{ends_cost}
use Rattle.algorithm_commands.proofs.algorithm_cost_command.tell_costs.Goals as goal

pub returns-in_ok-schedule-in-Ok-clause-ends : goal.returns-in_ok-schedule-in-Ok-clause-ends
returns-in_ok-schedule-in-Ok-clause-ends g c =
    let o : CostArgs = c.args.args.now in
    let cost = c.in-Ok.cost in
    let is = rw c.in-Ok.is at c.algorithm_cost-found.ensures.cost in
    let sizes = subst (λ (s : AlgorithmSearch). size_refusal s ≡ None) c.in_ok-search.ensures (rw c.in-Ok.is at c.algorithm_cost-found.ensures.accepted) in
    let path : c.deref.result.now ≡ path_of_cost cost = c.deref.ensures.value ∙ c.in_ok-path-in-Ok.ensures in
    ends_cost c.args.algorithm o _ _ c.tell_cost.result sizes cost
    (subst (λ (q : CostQuestion). IsCostOfSearch (asked_search c.args.algorithm o.search) q cost) c.question_of.ensures
    (subst (λ (s : AlgorithmSearch). IsCostOfSearch s c.question_of.result cost) c.in_ok-search.ensures is))
    (subst (λ (s : Scheduled). Prints (status_of_cost cost) (spelling s ++ line_of_cost o.kind cost) (g.W.Sink.tape c.args.w.now) (g.W.Sink.tape c.tell_cost.new.w) c.tell_cost.result)
    (c.in_ok-schedule-in-Ok.ensures.schedule ∙ ap (schedule_of o.search) path) c.tell_cost.ensures.prints)

pub returns-in-Err-Refused-clause-ends : goal.returns-in-Err-Refused-clause-ends
returns-in-Err-Refused-clause-ends g c =
    inr (inl (
      refl,
      no_size c.args.algorithm c.args.args.now.search (search_of c.in_ok-search.search) c.in-Err-Refused.field-0-0 _ c.in_ok-search.ensures
          ((c.algorithm_cost-found.ensures.refused c.in-Err-Refused.field-0-0).0 (search rules)),
    ))
