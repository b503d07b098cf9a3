use Rattle.progress.proofs.Common.{at_rest, all_dead}
use Rattle.progress.proofs.Short.{kept_final, kept_rest, kept_image}
use Rattle.progress.proofs.Unspent.{numbers_unspent}
use Rattle.progress.proofs.laws.numbers_are_not_spent.Goals as goal

pub returns-clause-from_rest : goal.returns-clause-from_rest
returns-clause-from_rest c = λ n limit p events low run. numbers_unspent n limit p _ low (kept_final n limit at_rest events (kept_rest n) run)

pub returns-clause-later : goal.returns-clause-later
returns-clause-later c = λ n limit p words events low lawful run. numbers_unspent n limit p _ low (kept_final n limit (all_dead words) events (kept_image n limit words lawful) run)
