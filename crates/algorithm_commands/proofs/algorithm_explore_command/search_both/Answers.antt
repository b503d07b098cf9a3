use Rattle.std.proofs.Common.{Err, Ok, refl}
use Rattle.std.proofs.lemmas.Result.{err_from_is_err_and}
use Rattle.algorithm_commands.proofs.algorithm_explore_command.search_both.Goals as goal

-- the second search has a fault
pub returns-in_err-second-clause-ends : goal.returns-in_err-second-clause-ends
returns-in_err-second-clause-ends g c =
    let p = err_from_is_err_and c.from_residual-in_err-second.result c.from_residual-in_err-second.ensures.1 in
    rw (p.1, p.2) (record {
      mid = g.W.Sink.tape c.search_stuck.new.w;
      first = Ok c.in_ok-first.first;
      stuck = c.in_ok-first.ensures.ends;
      starving = (Err c.in_err-second.field-0.0, c.in_err-second.ensures.ends, refl);
    })
