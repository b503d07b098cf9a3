use Rattle.std.proofs.Common.{◌≡◌, ◌+◌, arith}
use Rattle.one_lock.proofs.Common.{Begins}
use Rattle.one_lock.proofs.Executions.{reported_more, still_sized}
use Rattle.one_lock.proofs.shared.Shared.start.Goals as goal

pub invariant_of-self-2 : goal.invariant_of-self-2
invariant_of-self-2 g c =
    let n = c.self.inside.book.total in
    let sum : 0 + n ≡ n = omega arith in
    (reported_more c.self.inside.world n n (Begins c.args.p c.args.call) c.start.new.self sum c.in_ok-start.ensures.start c.self.invariant.0, still_sized g.S.Sizes.named c.self.inside.world (Begins c.args.p c.args.call) c.start.new.self c.in_ok-start.ensures.start c.self.invariant.1)
