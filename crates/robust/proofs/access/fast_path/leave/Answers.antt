use Rattle.std.proofs.Common.{◌∙◌}
use Rattle.robust.proofs.AccessCommon.{Rest, free_process_state}
use Rattle.robust.proofs.Straight.{has_left}
use Rattle.robust.proofs.access.fast_path.leave.Goals as goal

pub returns-clause-at : goal.returns-clause-at
returns-clause-at c = c.unmark.ensures.at ∙ (λ i. free_process_state Rest (c.drop_number.ensures.way.at i).mended)

pub returns-clause-ends : goal.returns-clause-ends
returns-clause-ends c =
    let d = c.drop_number.ensures.way in has_left c.args.port.now c.drop_number.new.port c.unmark.new.port 1 _ d.unanswered d.at c.unmark.ensures.advances
