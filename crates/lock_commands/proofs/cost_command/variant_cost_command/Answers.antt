use Rattle.std.proofs.Common.{◌≡◌, ◌++◌, ◌∙◌, List, ap, inl, subst}
use Rattle.redomail.specs.declared.layout.Layout.{Layout}
use Rattle.rmeworld.specs.declared.call.Call.{Call}
use Rattle.schedule.specs.Schedules.{Scheduled, spelling}
use Rattle.crashlab.specs.declared.space.crash_counts.CrashCounts.{CrashCounts}
use Rattle.crashlab.specs.space.Spaces.{first_search_state}
use Rattle.passages.specs.declared.question.CostQuestion.{CostQuestion}
use Rattle.crashlab.specs.declared.space.moves.Move.{Move}
use Rattle.passages.specs.PassageCosts.{IsCostFrom}
use Rattle.passages.specs.PassageSpaces.{variant_schedules}
use Rattle.passages.specs.declared.question.PassageCost.{PassageCost}
use Rattle.cli.specs.declared.arguments.args.VariantCostArgs.{VariantCostArgs}
use Rattle.command_parts.specs.Costs.{line_of_cost, path_of_cost, status_of_cost}
use Rattle.command_parts.specs.Endings.{Prints}
use Rattle.lock_commands.specs.Explores.{calls_of, crash_counts, layout_of, schedule_of}
use Rattle.lock_commands.specs.VariantCosts.{question_of, start_of}
use Rattle.lock_commands.proofs.cost_command.variant_cost_command.Goals as goal

-- what is found of the question, the sizes, the crashes and the calls that the command asks for
asked : (args : VariantCostArgs) (cost : PassageCost Move) (question : CostQuestion) (layout : Layout) (counts : CrashCounts) (calls : List Call)
    → question ≡ question_of args → layout ≡ layout_of args.search → counts ≡ crash_counts args.search → calls ≡ calls_of args.search
    → IsCostFrom variant_schedules question (first_search_state args.search.variant layout args.search.limit counts calls) cost → IsCostFrom variant_schedules (question_of args) (start_of args) cost
asked args cost question layout counts calls asked_for sizes crashes listed is =
    subst (λ k. IsCostFrom variant_schedules k (start_of args) cost) asked_for
    (subst (λ l. IsCostFrom variant_schedules question (first_search_state args.search.variant l args.search.limit (crash_counts args.search) (calls_of args.search)) cost) sizes
    (subst (λ c. IsCostFrom variant_schedules question (first_search_state args.search.variant layout args.search.limit c (calls_of args.search)) cost) crashes
    (subst (λ cs. IsCostFrom variant_schedules question (first_search_state args.search.variant layout args.search.limit counts cs) cost) listed is)))

pub returns-in-Ok-clause-ends : goal.returns-in-Ok-clause-ends
returns-in-Ok-clause-ends g c =
    let args = c.args.args.now in
    let cost = c.in-Ok.cost in
    let is = rw c.in-Ok.is at c.variant_cost-found.ensures.cost in
    let path : c.deref-in-Ok.result.now ≡ path_of_cost cost = c.deref-in-Ok.ensures.value ∙ c.in_ok-path-in-Ok.ensures in
    inl (record {
      cost = cost;
      is = asked args cost c.question_of.result c.in_ok-layout.layout c.counts_of.result c.deref.result.now c.question_of.ensures c.in_ok-layout.ensures.layout c.counts_of.ensures (c.deref.ensures.value ∙ c.in_ok-calls.ensures.listed) is;
      prints = subst (λ (s : Scheduled). Prints (status_of_cost cost) (spelling s ++ line_of_cost args.kind cost) (g.W.Sink.tape c.args.w.now) (g.W.Sink.tape c.tell_cost.new.w) c.tell_cost.result)
          (c.in_ok-schedule-in-Ok.ensures.schedule ∙ ap (schedule_of args.search) path) c.tell_cost.ensures.prints;
    })
