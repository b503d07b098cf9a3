use Rattle.std.proofs.Common.{◌≡◌, Ok, subst, None, Err, refl, inl, inr, ap, ◌∙◌, sym, rules}
use Rattle.explorer.specs.declared.found.SearchOutcome.TheVariants.{Path, NoneWithin, Nowhere}
use Rattle.algorithm_explorer.specs.SearchAnswers.{IsRangeResult}
use Rattle.algorithm_explorer.specs.Spaces.{AlgorithmSearch, search_of, size_refusal}
use Rattle.cli.specs.declared.arguments.args.AlgorithmExploreArgs.{AlgorithmExploreArgs}
use Rattle.algorithm_commands.proofs.AlgorithmExplores.{ranges_path, ranges_within, ranges_all, no_size}
use Rattle.algorithm_commands.proofs.algorithm_range.tell_in_range.Goals as goal

pub returns-in-Ok-Path-clause-ends : goal.returns-in-Ok-Path-clause-ends
returns-in-Ok-Path-clause-ends g c =
    let o : AlgorithmExploreArgs = c.args.args.now in
    let answers = rw c.in-Ok-Path.field-0-is at (rw c.in-Ok-Path.is at c.shortest_schedule_in_range-found.ensures.answers) in
    let sizes = subst (λ (s : AlgorithmSearch). size_refusal s ≡ None) c.in_ok-search.ensures (rw c.in-Ok-Path.is at c.shortest_schedule_in_range-found.ensures.accepted) in
    ranges_path c.args.algorithm o _ _ c.tell_path.result sizes c.in-Ok-Path.path _ c.deref.ensures.value
    (subst (λ (s : AlgorithmSearch). IsRangeResult s o.moves o.states (Ok (Path c.in-Ok-Path.path))) c.in_ok-search.ensures answers)
    c.tell_path.ensures.prints

pub returns-in-Ok-NoneWithin-clause-ends : goal.returns-in-Ok-NoneWithin-clause-ends
returns-in-Ok-NoneWithin-clause-ends g c =
    let o : AlgorithmExploreArgs = c.args.args.now in
    let answers = rw c.in-Ok-NoneWithin.field-0-is at (rw c.in-Ok-NoneWithin.is at c.shortest_schedule_in_range-found.ensures.answers) in
    let sizes = subst (λ (s : AlgorithmSearch). size_refusal s ≡ None) c.in_ok-search.ensures (rw c.in-Ok-NoneWithin.is at c.shortest_schedule_in_range-found.ensures.accepted) in
    ranges_within c.args.algorithm o _ _ c.tell_within.result sizes
    (subst (λ (s : AlgorithmSearch). IsRangeResult s o.moves o.states (Ok NoneWithin)) c.in_ok-search.ensures answers)
    c.tell_within.ensures.prints

pub returns-in-Ok-Nowhere-clause-ends : goal.returns-in-Ok-Nowhere-clause-ends
returns-in-Ok-Nowhere-clause-ends g c =
    let o : AlgorithmExploreArgs = c.args.args.now in
    let answers = rw c.in-Ok-Nowhere.field-0-is at (rw c.in-Ok-Nowhere.is at c.shortest_schedule_in_range-found.ensures.answers) in
    let sizes = subst (λ (s : AlgorithmSearch). size_refusal s ≡ None) c.in_ok-search.ensures (rw c.in-Ok-Nowhere.is at c.shortest_schedule_in_range-found.ensures.accepted) in
    ranges_all c.args.algorithm o _ _ c.tell_all.result sizes c.in-Ok-Nowhere.states
    (subst (λ (s : AlgorithmSearch). IsRangeResult s o.moves o.states (Ok (Nowhere c.in-Ok-Nowhere.states))) c.in_ok-search.ensures answers)
    c.tell_all.ensures.prints

pub returns-in-Err-Refused-clause-ends : goal.returns-in-Err-Refused-clause-ends
returns-in-Err-Refused-clause-ends g c =
    inr (inr (inr (inl (
      refl,
      no_size c.args.algorithm c.args.args.now (search_of c.in_ok-search.search) c.in-Err-Refused.field-0-0 _ c.in_ok-search.ensures
          ((c.shortest_schedule_in_range-found.ensures.refused c.in-Err-Refused.field-0-0).0 (search rules)),
    ))))
