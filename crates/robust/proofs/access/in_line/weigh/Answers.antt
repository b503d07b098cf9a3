use Rattle.std.proofs.Common.{sym, ◌∙◌}
use Rattle.robust.proofs.Waits.{weighed, weigh_blocked}
use Rattle.robust.proofs.access.in_line.weigh.Goals as goal

pub returns-clause-passed : goal.returns-clause-passed
returns-clause-passed c = λ h. weighed c.args.port.now c.args.number c.args.j c.requires.other.0 c.requires.other.1 c.load-value.new.self _ c.load-value.result c.by-own.result c.by-own.ensures.is (sym c.passes.ensures ∙ h) c.requires.at c.load-value.ensures

pub returns-clause-stays : goal.returns-clause-stays
returns-clause-stays c = λ h. weigh_blocked c.args.port.now c.args.number c.args.j c.requires.other.0 c.requires.other.1 c.load-value.new.self _ c.load-value.result c.by-own.result c.by-own.ensures.is (sym c.passes.ensures ∙ h) c.requires.at c.load-value.ensures
