use Rattle.std.proofs.Common.{◌≡◌, Ok, subst, None, Err, refl, inl, inr, ap, ◌∙◌, sym, rules}
use Rattle.explorer.specs.declared.found.StarvingOutcome.TheVariants.{Starving, NeverStarving}
use Rattle.algorithm_explorer.specs.Spaces.{AlgorithmSearch, search_of, size_refusal}
use Rattle.algorithm_explorer.specs.Starvation.{StarvingAnswers}
use Rattle.cli.specs.declared.arguments.args.AlgorithmExploreArgs.{AlgorithmExploreArgs}
use Rattle.algorithm_commands.specs.AlgorithmExplores.{asked_search}
use Rattle.algorithm_commands.proofs.AlgorithmExplores.{no_size}
use Rattle.algorithm_commands.proofs.AlgorithmStarving.{ends_lasso, ends_never}
use Rattle.algorithm_commands.proofs.algorithm_starvation.tell_starving.Goals as goal

pub returns-in-Ok-Starving-clause-ends : goal.returns-in-Ok-Starving-clause-ends
returns-in-Ok-Starving-clause-ends g c =
    let o : AlgorithmExploreArgs = c.args.args.now in
    let answers = rw c.in-Ok-Starving.field-0-is at (rw c.in-Ok-Starving.is at c.starving_algorithm_schedule-found.ensures.answers) in
    let found = Ok (Starving c.in-Ok-Starving.lasso) in
    ends_lasso c.args.algorithm o c.args.cycles _ _ c.tell_lasso.result c.in-Ok-Starving.lasso
    (subst (λ any. StarvingAnswers (asked_search c.args.algorithm o) any o.states found) c.is_any.ensures
    (subst (λ (s : AlgorithmSearch). StarvingAnswers s c.is_any.result o.states found) c.in_ok-search.ensures answers))
    c.tell_lasso.ensures.prints

pub returns-in-Ok-NeverStarving-clause-ends : goal.returns-in-Ok-NeverStarving-clause-ends
returns-in-Ok-NeverStarving-clause-ends g c =
    let o : AlgorithmExploreArgs = c.args.args.now in
    let answers = rw c.in-Ok-NeverStarving.field-0-is at (rw c.in-Ok-NeverStarving.is at c.starving_algorithm_schedule-found.ensures.answers) in
    let sizes = subst (λ (s : AlgorithmSearch). size_refusal s ≡ None) c.in_ok-search.ensures (rw c.in-Ok-NeverStarving.is at c.starving_algorithm_schedule-found.ensures.accepted) in
    let found = Ok (NeverStarving c.in-Ok-NeverStarving.states) in
    ends_never c.args.algorithm o c.args.cycles _ _ c.tell_never_starving.result c.in-Ok-NeverStarving.states sizes
    (subst (λ any. StarvingAnswers (asked_search c.args.algorithm o) any o.states found) c.is_any.ensures
    (subst (λ (s : AlgorithmSearch). StarvingAnswers s c.is_any.result o.states found) c.in_ok-search.ensures answers))
    c.tell_never_starving.ensures.prints

pub returns-in-Err-Refused-clause-ends : goal.returns-in-Err-Refused-clause-ends
returns-in-Err-Refused-clause-ends g c =
    inr (inr (inl (
      refl,
      no_size c.args.algorithm c.args.args.now (search_of c.in_ok-search.search) c.in-Err-Refused.field-0-0 _ c.in_ok-search.ensures
          ((c.starving_algorithm_schedule-found.ensures.refused c.in-Err-Refused.field-0-0).0 (search rules)),
    )))
