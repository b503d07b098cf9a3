use Rattle.std.proofs.lemmas.Result.{err_from_is_err_and}
use Rattle.command_parts.proofs.Holding.{given_more}
use Rattle.command_parts.proofs.conversation.next_line.Goals as goal

-- what was read last is lost
pub returns-in_err-extend_from_slice-in-Ok-clause-broken : goal.returns-in_err-extend_from_slice-in-Ok-clause-broken
returns-in_err-extend_from_slice-in-Ok-clause-broken g c =
    let p = err_from_is_err_and c.from_residual-in_err-extend_from_slice-in-Ok.result c.from_residual-in_err-extend_from_slice-in-Ok.ensures.1 in
    rw p.1 (given_more _ _ _ c.loop.invariant.0 _ c.in-Ok.ensures.given c.loop.invariant.1)
