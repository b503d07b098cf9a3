use Rattle.std.proofs.Common.{sym, subst}
use Rattle.crashlab.proofs.Common.{EndsMove, with_line, line_by}
use Rattle.crashlab.proofs.hunts.Lines.{then_ends}
use Rattle.crashlab.proofs.hunts.round.make.Goals as goal

pub returns-in-Start-clause-ends : goal.returns-in-Start-clause-ends
returns-in-Start-clause-ends c =
    then_ends c.take_up.result
    (λ m ends. λ variant schedule played. subst (λ made. EndsMove variant (with_line schedule (line_by made)) c.take_up.new.world c.args.judge.now m) (sym c.in-Start.is) (ends variant schedule c.args.judge.now played))
    c.take_up.ensures.ends
