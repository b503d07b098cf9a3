use Rattle.rmecore.proofs.Common.{nobody, all_dead, start_of, at_rest}
use Rattle.rmecore.proofs.Phases.{tied_after, within}
use Rattle.rmecore.proofs.Runs.{at_first}
use Rattle.rmecore.proofs.Images.{at_image}
use Rattle.rmecore.proofs.laws.who_stands_inside_is_in.Goals as goal

pub returns-clause-from_rest : goal.returns-clause-from_rest
returns-clause-from_rest c = λ n limit p events below run at. within (tied_after n limit at_rest nobody events (at_first n) run) p below at

pub returns-clause-later : goal.returns-clause-later
returns-clause-later c = λ n limit p words events below lawful run at. within (tied_after n limit (all_dead words) (start_of words) events (at_image n limit words lawful) run) p below at
