use Rattle.std.proofs.Common.{arith}
use Rattle.rmeworld.proofs.ImageCommon.{view, whole_data}
use Rattle.rmeworld.proofs.Mapped.{mapped_on, listed}
use Rattle.rmeworld.proofs.image.image_writer.list_value.Goals as goal

pub loop-number-preserved : goal.loop-number-preserved
loop-number-preserved c =
    let i = c.loop-number.invariant in
    record {
      same = mapped_on view whole_data c.loop-number.items.items _ c.args.numbers.now c.loop-number.number-index 0 c.from.result i.same c.push_reserved.ensures.items c.loop-number-test.true c.from.ensures;
      count = omega (arith, c.push_reserved.ensures.len, i.count);
      room = omega (arith, c.push_reserved.ensures.capacity, i.room);
    }

pub returns : goal.returns
returns c = listed whole_data c.loop-number.items c.args.numbers.now c.loop-number.number-index c.loop-number.invariant.same c.loop-number-test.false
