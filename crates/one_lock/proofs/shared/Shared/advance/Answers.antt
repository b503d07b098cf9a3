use Rattle.std.proofs.Common.{◌≡◌, ◌+◌, arith}
use Rattle.one_lock.proofs.Common.{world_event_of}
use Rattle.one_lock.proofs.Executions.{reported_more, still_sized}
use Rattle.one_lock.proofs.shared.Shared.advance.Goals as goal

pub invariant_of-self-2 : goal.invariant_of-self-2
invariant_of-self-2 g c =
    let n = c.self.inside.book.total in
    let total = c.add.ensures.total in
    let sum : 1 + n ≡ c.add.new.self.total = omega (arith, total) in
    (reported_more c.self.inside.world n c.add.new.self.total (world_event_of c.args.p c.in_ok-step.step.happened) c.advance.new.self sum c.in_ok-step.ensures.step c.self.invariant.0, still_sized g.S.Sizes.named c.self.inside.world (world_event_of c.args.p c.in_ok-step.step.happened) c.advance.new.self c.in_ok-step.ensures.step c.self.invariant.1)
