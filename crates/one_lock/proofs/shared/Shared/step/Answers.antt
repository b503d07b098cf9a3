use Rattle.one_lock.proofs.Turns.{step_reports}
use Rattle.one_lock.proofs.shared.Shared.step.Goals as goal

pub returns-clause-reports : goal.returns-clause-reports
returns-clause-reports g c =
    let before = c.args.self.now in
    let moved = c.advance.ensures in
    step_reports g.S.Sizes.named c.args.p c.args.opening before.world c.open.new.self.world c.advance.new.self.world before.total c.advance.result c.knows_execution.ensures.run c.knows_execution.ensures.sizes c.in_ok-open.ensures.opens c.in_ok-open.ensures.ok moved.accepted moved.world moved.happened moved.answer moved.blocked
