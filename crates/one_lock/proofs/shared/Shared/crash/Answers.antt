use Rattle.std.proofs.Common.{◌≡◌, ◌+◌, arith}
use Rattle.one_lock.proofs.Common.{Falls}
use Rattle.one_lock.proofs.Executions.{reported_more, still_sized}
use Rattle.one_lock.proofs.shared.Shared.crash.Goals as goal

pub invariant_of-self-2 : goal.invariant_of-self-2
invariant_of-self-2 g c =
    let n = c.self.inside.book.total in
    let sum : 0 + n ≡ n = omega arith in
    (reported_more c.self.inside.world n n (Falls c.args.p) c.crash.new.self sum c.in_ok-crash.ensures.crash c.self.invariant.0, still_sized g.S.Sizes.named c.self.inside.world (Falls c.args.p) c.crash.new.self c.in_ok-crash.ensures.crash c.self.invariant.1)
