use Rattle.std.proofs.Common.{◌∙◌, ℕ, Bool, false, IfOk, Err, Ok, option_copied, refl, sym, subst}
use Rattle.std.proofs.lemmas.Result.{err_from_is_err_and}
use Rattle.algorithms.specs.declared.first_values.InitializedAlgorithm.{InitializedAlgorithm}
use Rattle.algorithm_commands.specs.AlgorithmExplores.{GoesOnWhere, PromisesEnd}
use Rattle.command_parts.specs.Endings.{IsEnded}
use Rattle.algorithm_commands.proofs.AlgorithmTexts.{algorithm_read}
use Rattle.algorithm_commands.proofs.algorithm_explore_command.search_shortest.Goals as goal

-- the search has a fault
pub returns-in_err-first-clause-ends : goal.returns-in_err-first-clause-ends
returns-in_err-first-clause-ends g c =
    let p = err_from_is_err_and c.from_residual-in_err-first.result c.from_residual-in_err-first.ensures.1 in
    let now = g.W.Sink.tape c.tell_shortest.new.w in
    rw (p.1, p.2) (
    algorithm_read (option_copied c.args.text) (λ (a : InitializedAlgorithm). PromisesEnd a c.args.args.now (option_copied c.args.text) (g.W.Sink.tape c.args.w.now) now (Err c.in_err-first.field-0.0))
    _ _ (Err c.in_err-first.field-0.0) c.in_ok-algorithm.algorithm c.in_ok-algorithm.ensures.spells c.in_ok-algorithm.ensures.ends c.in_ok-algorithm.ensures.leads (record {
      mid = now;
      first = Err c.in_err-first.field-0.0;
      shortest = c.in_err-first.ensures.ends;
      progress = (refl, refl);
    })
    )

-- a process that starves is looked for
pub returns-then-searches_progress-clause-ends : goal.returns-then-searches_progress-clause-ends
returns-then-searches_progress-clause-ends g c =
    let file = option_copied c.args.text in
    let mid = g.W.Sink.tape c.tell_shortest.new.w in
    let now = g.W.Sink.tape c.search_starving.new.w in
    let first = c.in_ok-first.first in
    let goes_on = sym (sym c.searches_progress.ensures ∙ c.if-searches_progress.true) in
    algorithm_read file (λ (a : InitializedAlgorithm). PromisesEnd a c.args.args.now file (g.W.Sink.tape c.args.w.now) now c.search_starving.result)
    _ _ c.search_starving.result c.in_ok-algorithm.algorithm c.in_ok-algorithm.ensures.spells c.in_ok-algorithm.ensures.ends c.in_ok-algorithm.ensures.leads (record {
      mid = mid;
      first = Ok first;
      shortest = c.in_ok-first.ensures.ends;
      progress = subst (λ (b : Bool). GoesOnWhere b c.args.args.now file mid now first c.search_starving.result) goes_on c.search_starving.ensures.ends;
    })

pub returns-then-searches_progress-clause-ended : goal.returns-then-searches_progress-clause-ended
returns-then-searches_progress-clause-ended g c =
    subst (λ (n : ℕ). IfOk c.search_starving.result (IsEnded false n (g.W.Sink.tape c.search_starving.new.w).failures)) c.in_ok-first.ensures.ended.whole c.search_starving.ensures.ended

-- nothing more is looked for
pub returns-clause-ends : goal.returns-clause-ends
returns-clause-ends g c =
    let file = option_copied c.args.text in
    let mid = g.W.Sink.tape c.tell_shortest.new.w in
    let first = c.in_ok-first.first in
    let stays = sym (sym c.searches_progress.ensures ∙ c.if-searches_progress.false) in
    algorithm_read file (λ (a : InitializedAlgorithm). PromisesEnd a c.args.args.now file (g.W.Sink.tape c.args.w.now) mid (Ok first))
    _ _ (Ok first) c.in_ok-algorithm.algorithm c.in_ok-algorithm.ensures.spells c.in_ok-algorithm.ensures.ends c.in_ok-algorithm.ensures.leads (record {
      mid = mid;
      first = Ok first;
      shortest = c.in_ok-first.ensures.ends;
      progress = subst (λ (b : Bool). GoesOnWhere b c.args.args.now file mid mid first (Ok first)) stays (refl, refl);
    })
