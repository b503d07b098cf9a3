use Rattle.std.proofs.Common.{◌≡◌, Ok, subst, None, Err, refl, inl, inr, ap, ◌∙◌, sym, rules}
use Rattle.explorer.specs.declared.found.StuckOutcome.TheVariants.{Fault, Stuck, NeverStuck}
use Rattle.algorithm_explorer.specs.SearchAnswers.{IsStuckResult}
use Rattle.algorithm_explorer.specs.Spaces.{AlgorithmSearch, search_of, size_refusal}
use Rattle.cli.specs.declared.arguments.args.AlgorithmExploreArgs.{AlgorithmExploreArgs}
use Rattle.algorithm_commands.proofs.AlgorithmExplores.{no_size}
use Rattle.algorithm_commands.proofs.AlgorithmStuck.{ends_wrong, ends_stuck, ends_never}
use Rattle.algorithm_commands.proofs.algorithm_stuck.tell_stuck.Goals as goal

pub returns-in-Ok-Fault-clause-ends : goal.returns-in-Ok-Fault-clause-ends
returns-in-Ok-Fault-clause-ends g c =
    let o : AlgorithmExploreArgs = c.args.args.now in
    let answers = rw c.in-Ok-Fault.field-0-is at (rw c.in-Ok-Fault.is at c.stuck_algorithm_schedule-found.ensures.answers) in
    let sizes = subst (λ (s : AlgorithmSearch). size_refusal s ≡ None) c.in_ok-search.ensures (rw c.in-Ok-Fault.is at c.stuck_algorithm_schedule-found.ensures.accepted) in
    let found = Ok (Fault c.in-Ok-Fault.path) in
    ends_wrong c.args.algorithm o _ _ c.tell_path.result sizes c.in-Ok-Fault.path _ c.deref.ensures.value
    (subst (λ (s : AlgorithmSearch). IsStuckResult s o.states found) c.in_ok-search.ensures answers)
    c.tell_path.ensures.prints

pub returns-in-Ok-Stuck-clause-ends : goal.returns-in-Ok-Stuck-clause-ends
returns-in-Ok-Stuck-clause-ends g c =
    let o : AlgorithmExploreArgs = c.args.args.now in
    let answers = rw c.in-Ok-Stuck.field-0-is at (rw c.in-Ok-Stuck.is at c.stuck_algorithm_schedule-found.ensures.answers) in
    let sizes = subst (λ (s : AlgorithmSearch). size_refusal s ≡ None) c.in_ok-search.ensures (rw c.in-Ok-Stuck.is at c.stuck_algorithm_schedule-found.ensures.accepted) in
    let found = Ok (Stuck c.in-Ok-Stuck.path) in
    ends_stuck c.args.algorithm o _ _ c.tell_path-in-Ok-Stuck.result sizes c.in-Ok-Stuck.path _ c.deref-in-Ok-Stuck.ensures.value
    (subst (λ (s : AlgorithmSearch). IsStuckResult s o.states found) c.in_ok-search.ensures answers)
    c.tell_path-in-Ok-Stuck.ensures.prints

pub returns-in-Ok-NeverStuck-clause-ends : goal.returns-in-Ok-NeverStuck-clause-ends
returns-in-Ok-NeverStuck-clause-ends g c =
    let o : AlgorithmExploreArgs = c.args.args.now in
    let answers = rw c.in-Ok-NeverStuck.field-0-is at (rw c.in-Ok-NeverStuck.is at c.stuck_algorithm_schedule-found.ensures.answers) in
    let sizes = subst (λ (s : AlgorithmSearch). size_refusal s ≡ None) c.in_ok-search.ensures (rw c.in-Ok-NeverStuck.is at c.stuck_algorithm_schedule-found.ensures.accepted) in
    let found = Ok (NeverStuck c.in-Ok-NeverStuck.states) in
    ends_never c.args.algorithm o _ _ c.tell_never.result sizes c.in-Ok-NeverStuck.states
    (subst (λ (s : AlgorithmSearch). IsStuckResult s o.states found) c.in_ok-search.ensures answers)
    c.tell_never.ensures.prints

pub returns-in-Err-Refused-clause-ends : goal.returns-in-Err-Refused-clause-ends
returns-in-Err-Refused-clause-ends g c =
    inr (inr (inr (inl (
      refl,
      no_size c.args.algorithm c.args.args.now (search_of c.in_ok-search.search) c.in-Err-Refused.field-0-0 _ c.in_ok-search.ensures
          ((c.stuck_algorithm_schedule-found.ensures.refused c.in-Err-Refused.field-0-0).0 (search rules)),
    ))))
