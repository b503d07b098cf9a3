use Rattle.algorithm_lab.proofs.Runs.{plays_refused}
use Rattle.algorithm_lab.specs.Runs.{monitor_transitions}
use Rattle.algorithm_lab.proofs.line_play.hear_lines.Goals as goal

pub returns-in-Refused : goal.returns-in-Refused
returns-in-Refused g c = plays_refused monitor_transitions g.L.Listener.effects _ _ _ _ c.in-Err.line c.in-Err.stop c.in-Refused.refusal c.in-Refused.is c.in-Err.ensures
