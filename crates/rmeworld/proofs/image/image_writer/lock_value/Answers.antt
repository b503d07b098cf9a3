use Rattle.std.proofs.Common.{arith}
use Rattle.rmeworld.proofs.ImageCommon.{view, own_data, zeros}
use Rattle.rmeworld.proofs.Mapped.{mapped_on, listed}
use Rattle.rmeworld.proofs.image.image_writer.lock_value.Goals as goal

pub loop-own-preserved : goal.loop-own-preserved
loop-own-preserved c =
    let i = c.loop-own.invariant in
    record {
      same = mapped_on view own_data c.loop-own.items.items _ c.args.lock.now c.loop-own.own-index zeros c.in_ok-own_value.field-0 i.same c.push_reserved.ensures.items c.loop-own-test.true c.in_ok-own_value.ensures;
      count = omega (arith, c.push_reserved.ensures.len, i.count);
      room = omega (arith, c.push_reserved.ensures.capacity, i.room);
    }

pub returns : goal.returns
returns c = listed own_data c.loop-own.items c.args.lock.now c.loop-own.own-index c.loop-own.invariant.same c.loop-own-test.false
