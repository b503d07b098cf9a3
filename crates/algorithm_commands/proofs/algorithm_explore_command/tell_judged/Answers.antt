use Rattle.std.proofs.Common.{◌≡◌, Ok, subst, None, Err, refl, inl, inr, ap, ◌∙◌, sym, rules}
use Rattle.algorithm_explorer.specs.SearchAnswers.{IsSearchResult}
use Rattle.algorithm_explorer.specs.Spaces.{AlgorithmSearch, search_of, size_refusal}
use Rattle.cli.specs.declared.arguments.args.AlgorithmExploreArgs.{AlgorithmExploreArgs}
use Rattle.algorithm_commands.proofs.AlgorithmExplores.{AnswersArgs, ends_path, ends_within, ends_all, no_size}
use Rattle.algorithm_commands.proofs.algorithm_explore_command.tell_judged.Goals as goal

pub returns-in-Path-clause-ends : goal.returns-in-Path-clause-ends
returns-in-Path-clause-ends g c =
    let o : AlgorithmExploreArgs = c.args.args.now in
    let left = c.in-Ok.found.left_out in
    let answers = rw c.in-Ok.is at c.shortest_algorithm_schedule_in_parallel-found.ensures.answers in
    let sizes = subst (λ (s : AlgorithmSearch). size_refusal s ≡ None) c.in_ok-search.ensures (rw c.in-Ok.is at c.shortest_algorithm_schedule_in_parallel-found.ensures.accepted) in
    ends_path c.args.algorithm o _ _ left c.tell_path.result sizes c.in-Path.path _ (rw c.in-Path.path-is at c.deref.ensures.value)
    (subst (λ outcome. AnswersArgs c.args.algorithm o outcome left) c.in-Path.is
    (subst (λ (s : AlgorithmSearch). IsSearchResult s o.moves o.states (Ok c.in-Ok.found)) c.in_ok-search.ensures answers))
    c.tell_path.ensures.prints

pub returns-in-NoneWithin-clause-ends : goal.returns-in-NoneWithin-clause-ends
returns-in-NoneWithin-clause-ends g c =
    let o : AlgorithmExploreArgs = c.args.args.now in
    let left = c.in-Ok.found.left_out in
    let answers = rw c.in-Ok.is at c.shortest_algorithm_schedule_in_parallel-found.ensures.answers in
    let sizes = subst (λ (s : AlgorithmSearch). size_refusal s ≡ None) c.in_ok-search.ensures (rw c.in-Ok.is at c.shortest_algorithm_schedule_in_parallel-found.ensures.accepted) in
    ends_within c.args.algorithm o _ _ left c.tell_within.result sizes
    (subst (λ outcome. AnswersArgs c.args.algorithm o outcome left) c.in-NoneWithin.is
    (subst (λ (s : AlgorithmSearch). IsSearchResult s o.moves o.states (Ok c.in-Ok.found)) c.in_ok-search.ensures answers))
    c.tell_within.ensures.prints

pub returns-in-Nowhere-clause-ends : goal.returns-in-Nowhere-clause-ends
returns-in-Nowhere-clause-ends g c =
    let o : AlgorithmExploreArgs = c.args.args.now in
    let left = c.in-Ok.found.left_out in
    let answers = rw c.in-Ok.is at c.shortest_algorithm_schedule_in_parallel-found.ensures.answers in
    let sizes = subst (λ (s : AlgorithmSearch). size_refusal s ≡ None) c.in_ok-search.ensures (rw c.in-Ok.is at c.shortest_algorithm_schedule_in_parallel-found.ensures.accepted) in
    ends_all c.args.algorithm o _ _ left c.tell_all_but.result sizes c.in-Nowhere.states
    (subst (λ outcome. AnswersArgs c.args.algorithm o outcome left) c.in-Nowhere.is
    (subst (λ (s : AlgorithmSearch). IsSearchResult s o.moves o.states (Ok c.in-Ok.found)) c.in_ok-search.ensures answers))
    c.tell_all_but.ensures.prints

pub returns-in-Err-Refused-clause-ends : goal.returns-in-Err-Refused-clause-ends
returns-in-Err-Refused-clause-ends g c =
    inr (inr (inr (inl (
      refl,
      no_size c.args.algorithm c.args.args.now (search_of c.in_ok-search.search) c.in-Err-Refused.field-0-0 _ c.in_ok-search.ensures
          ((c.shortest_algorithm_schedule_in_parallel-found.ensures.refused c.in-Err-Refused.field-0-0).0 (search rules)),
    ))))
