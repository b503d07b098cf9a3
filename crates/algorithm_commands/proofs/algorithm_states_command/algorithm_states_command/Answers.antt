use Rattle.std.proofs.Common.{refl, inl, inr}
use Rattle.std.proofs.lemmas.Result.{err_from_is_err_and}
use Rattle.algorithm_commands.proofs.algorithm_states_command.algorithm_states_command.Goals as goal

-- the text spells no algorithm
pub returns-in_err-algorithm-clause-ends : goal.returns-in_err-algorithm-clause-ends
returns-in_err-algorithm-clause-ends g c =
    let p = err_from_is_err_and c.from_residual.result c.from_residual.ensures.1 in
    rw (p.1, p.2) (inl ((record { taken = refl; fine = refl }, (_, refl, c.in_err-algorithm.ensures.unread)), refl))

pub returns-clause-ends : goal.returns-clause-ends
returns-clause-ends g c = inr (record {
  algorithm = c.in_ok-algorithm.algorithm;
  spells = c.in_ok-algorithm.ensures.spells;
  ends = c.in_ok-algorithm.ensures.ends;
  leads = c.in_ok-algorithm.ensures.leads;
  holds = rw c.text_of.ensures at c.states_of_algorithm.ensures.ends;
})
