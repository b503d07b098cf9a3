use Rattle.rmecore.proofs.Common.{all_dead, start_of}
use Rattle.rmecore.proofs.Runs.{legal}
use Rattle.rmecore.proofs.Images.{at_image}
use Rattle.rmecore.proofs.Bounds.{final_lawful, image_bounded}
use Rattle.rmecore.proofs.laws.every_later_run_is_legal.Goals as goal

pub returns-clause-legal : goal.returns-clause-legal
returns-clause-legal c = λ n limit words events h run. legal n limit (all_dead words) (start_of words) events (at_image n limit words h) run

pub returns-clause-lawful : goal.returns-clause-lawful
returns-clause-lawful c = λ n limit words events h run.
    final_lawful limit n (all_dead words) (start_of words) events (at_image n limit words h) (image_bounded limit n words h) (λ p past. h.rows p) run
