use Rattle.std.proofs.Common.{sym, ◌∙◌}
use Rattle.schedule.proofs.Cuts.{cuts_at, cuts_nowhere}
use Rattle.schedule.proofs.lines.cut.cut_once.Goals as goal

pub returns-in_err-at-clause-parts : goal.returns-in_err-at-clause-parts
returns-in_err-at-clause-parts c = rw c.from_residual.ensures (cuts_nowhere c.args.byte c.args.bytes.now (sym c.place_of.ensures ∙ c.in_err-at.was))

pub returns-clause-parts : goal.returns-clause-parts
returns-clause-parts c = (cuts_at c.args.byte c.args.bytes.now c.in_ok-at.at (sym c.place_of.ensures ∙ c.in_ok-at.was)).parts

pub returns-clause-whole : goal.returns-clause-whole
returns-clause-whole c = (cuts_at c.args.byte c.args.bytes.now c.in_ok-at.at (sym c.place_of.ensures ∙ c.in_ok-at.was)).whole
