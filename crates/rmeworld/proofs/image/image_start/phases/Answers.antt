use Rattle.std.proofs.Common.{arith}
use Rattle.rmeworld.proofs.ImageCommon.{phase_by, zeros}
use Rattle.rmeworld.proofs.Mapped.{mapped_more}
use Rattle.rmeworld.proofs.image.image_start.phases.Goals as goal

pub loop-own-preserved : goal.loop-own-preserved
loop-own-preserved c =
    let i = c.loop-own.invariant in
    record {
      same = mapped_more phase_by c.loop-own.phases.items _ c.args.lock.now c.loop-own.own-index zeros c.phase.result i.same c.push_reserved.ensures.items c.loop-own-test.true c.phase.ensures;
      count = omega (arith, c.push_reserved.ensures.len, i.count);
      room = omega (arith, c.push_reserved.ensures.capacity, i.room);
    }
