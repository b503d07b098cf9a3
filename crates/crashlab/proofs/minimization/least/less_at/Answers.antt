use Rattle.std.proofs.Common.{◌∷◌, [], IfOk, MatchOption, subst, sym}
use Rattle.crashlab.specs.minimization.Least.{IsSmaller, IsLowered, Loses, with_lines_at}
use Rattle.crashlab.proofs.minimization.Sizes.{without_line, with_lowered}
use Rattle.crashlab.proofs.minimization.Needed.{needed_after, needed_whole}
use Rattle.crashlab.proofs.minimization.least.less_at.Goals as goal

pub try_lines-requires-clause-shorter : goal.try_lines-requires-clause-shorter
try_lines-requires-clause-shorter g c = without_line c.args.schedule.now c.args.at c.requires

pub try_lines-requires-in-Some-lower_count-clause-shorter : goal.try_lines-requires-in-Some-lower_count-clause-shorter
try_lines-requires-in-Some-lower_count-clause-shorter g c =
    with_lowered c.args.schedule.now c.args.at c.in-Some-lower_count.line (subst (λ ls. IsLowered ls c.args.at c.in-Some-lower_count.line) c.lines.ensures c.in-Some-lower_count.ensures)

pub returns-in-Some-lower_count-clause-found : goal.returns-in-Some-lower_count-clause-found
returns-in-Some-lower_count-clause-found g c =
    needed_after (g.O.Oracle.is_wrong (g.O.Oracle.criterion_of c.args.oracle.now)) c.args.schedule.now c.args.at c.in-Some-lower_count.line c.try_lines-in-Some-lower_count.result
    (rw c.in_default.is at c.in_ok-found.ensures.found)
    (subst (λ ls. IsLowered ls c.args.at c.in-Some-lower_count.line) c.lines.ensures c.in-Some-lower_count.ensures)
    (subst (λ k. IfOk c.try_lines-in-Some-lower_count.result (λ found. MatchOption found (Loses (g.O.Oracle.is_wrong k) (with_lines_at c.args.at (c.in-Some-lower_count.line ∷ []) c.args.schedule.now)) (IsSmaller (g.O.Oracle.is_wrong k) c.args.schedule.now)))
    c.in_ok-found.ensures.same c.try_lines-in-Some-lower_count.ensures.found)

pub returns-in-None-clause-found : goal.returns-in-None-clause-found
returns-in-None-clause-found g c =
    needed_whole (g.O.Oracle.is_wrong (g.O.Oracle.criterion_of c.args.oracle.now)) c.args.schedule.now c.args.at (rw c.in_default.is at c.in_ok-found.ensures.found)
    (λ less low. c.in-None.ensures less (subst (λ ls. IsLowered ls c.args.at less) (sym c.lines.ensures) low))
