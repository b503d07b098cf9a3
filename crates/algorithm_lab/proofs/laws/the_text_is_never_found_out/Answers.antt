use Rattle.algorithm_lab.proofs.BakeryRuns.{fine, replayed_fine}
use Rattle.algorithm_lab.proofs.laws.the_text_is_never_found_out.Goals as goal

pub returns-clause-judged : goal.returns-clause-judged
returns-clause-judged c = λ a n limit lines b. (fine a b n limit lines).0

pub returns-clause-replayed : goal.returns-clause-replayed
returns-clause-replayed c = λ a n limit lines before now answer b replays. replayed_fine a b n limit lines before now answer replays
