use Rattle.std.proofs.Common.{◌+◌, length, ◌∙◌, inl, inr, subst}
use Rattle.explorer.specs.Fairness.{IsLassoOf, IsLeastLasso, IsNeverStarving}
use Rattle.explorer.specs.Paths.{IsNumberOfStates}
use Rattle.crashlab.specs.space.Spaces.{first_search_state}
use Rattle.crashlab.specs.space.Starvation.{world_rules, fairness}
use Rattle.cli.specs.declared.arguments.args.ExploreArgs.{ExploreArgs}
use Rattle.lock_commands.specs.Explores.{calls_of, crash_counts, layout_of}
use Rattle.lock_commands.proofs.starvation.tell_starving.Goals as goal

pub returns-in-Ok-Starving-clause-ends : goal.returns-in-Ok-Starving-clause-ends
returns-in-Ok-Starving-clause-ends g c =
    let o : ExploreArgs = c.args.args.now in
    let calls = c.deref.ensures.value ∙ c.in_ok-calls.ensures.listed in
    let found = rw c.in-Ok-Starving.field-0-is at (rw c.in-Ok-Starving.is at c.starving_schedule-found.ensures.starving) in
    let least = rw c.in-Ok-Starving.field-0-is at (rw c.in-Ok-Starving.is at c.starving_schedule-found.ensures.shortest) in
    let stem = c.in-Ok-Starving.lasso.stem.items in
    let cycle = c.in-Ok-Starving.lasso.cycle.items in
    inl (record {
      process = c.in-Ok-Starving.lasso.process;
      stem = stem;
      cycle = cycle;
      lasso = subst (λ any. IsLassoOf world_rules fairness any (first_search_state o.variant (layout_of o) o.limit (crash_counts o) (calls_of o)) c.in-Ok-Starving.lasso.process stem cycle) c.is_any.ensures
          (subst (λ calls. IsLassoOf world_rules fairness c.is_any.result (first_search_state o.variant (layout_of o) o.limit (crash_counts o) calls) c.in-Ok-Starving.lasso.process stem cycle) calls (subst (λ counts. IsLassoOf world_rules fairness c.is_any.result (first_search_state o.variant (layout_of o) o.limit counts c.deref.result.now) c.in-Ok-Starving.lasso.process stem cycle) c.counts_of.ensures (subst (λ layout. IsLassoOf world_rules fairness c.is_any.result (first_search_state o.variant layout o.limit c.counts_of.result c.deref.result.now) c.in-Ok-Starving.lasso.process stem cycle) c.in_ok-layout.ensures.layout found)));
      least = subst (λ any. IsLeastLasso world_rules fairness any (first_search_state o.variant (layout_of o) o.limit (crash_counts o) (calls_of o)) (length stem + length cycle)) c.is_any.ensures
          (subst (λ calls. IsLeastLasso world_rules fairness c.is_any.result (first_search_state o.variant (layout_of o) o.limit (crash_counts o) calls) (length stem + length cycle)) calls (subst (λ counts. IsLeastLasso world_rules fairness c.is_any.result (first_search_state o.variant (layout_of o) o.limit counts c.deref.result.now) (length stem + length cycle)) c.counts_of.ensures (subst (λ layout. IsLeastLasso world_rules fairness c.is_any.result (first_search_state o.variant layout o.limit c.counts_of.result c.deref.result.now) (length stem + length cycle)) c.in_ok-layout.ensures.layout least)));
      prints = c.tell_lasso.ensures.prints;
    })

pub returns-in-Ok-NeverStarving-clause-ends : goal.returns-in-Ok-NeverStarving-clause-ends
returns-in-Ok-NeverStarving-clause-ends g c =
    let o : ExploreArgs = c.args.args.now in
    let calls = c.deref.ensures.value ∙ c.in_ok-calls.ensures.listed in
    let never = rw c.in-Ok-NeverStarving.field-0-is at (rw c.in-Ok-NeverStarving.is at c.starving_schedule-found.ensures.never) in
    let number = rw c.in-Ok-NeverStarving.field-0-is at (rw c.in-Ok-NeverStarving.is at c.starving_schedule-found.ensures.states) in
    inr (inl (record {
      never = subst (λ any. IsNeverStarving world_rules fairness any (first_search_state o.variant (layout_of o) o.limit (crash_counts o) (calls_of o))) c.is_any.ensures
          (subst (λ calls. IsNeverStarving world_rules fairness c.is_any.result (first_search_state o.variant (layout_of o) o.limit (crash_counts o) calls)) calls (subst (λ counts. IsNeverStarving world_rules fairness c.is_any.result (first_search_state o.variant (layout_of o) o.limit counts c.deref.result.now)) c.counts_of.ensures (subst (λ layout. IsNeverStarving world_rules fairness c.is_any.result (first_search_state o.variant layout o.limit c.counts_of.result c.deref.result.now)) c.in_ok-layout.ensures.layout never)));
      states = c.in-Ok-NeverStarving.states;
      number = subst (λ calls. IsNumberOfStates world_rules (first_search_state o.variant (layout_of o) o.limit (crash_counts o) calls) c.in-Ok-NeverStarving.states) calls (subst (λ counts. IsNumberOfStates world_rules (first_search_state o.variant (layout_of o) o.limit counts c.deref.result.now) c.in-Ok-NeverStarving.states) c.counts_of.ensures (subst (λ layout. IsNumberOfStates world_rules (first_search_state o.variant layout o.limit c.counts_of.result c.deref.result.now) c.in-Ok-NeverStarving.states) c.in_ok-layout.ensures.layout number));
      prints = c.tell_never_starving.ensures.prints;
    }))
