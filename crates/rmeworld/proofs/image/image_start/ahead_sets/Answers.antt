use Rattle.std.proofs.Common.{arith}
use Rattle.rmeworld.proofs.ImageCommon.{start_of, own_at}
use Rattle.rmeworld.proofs.ImageStarts.{one_set}
use Rattle.rmeworld.proofs.image.image_start.ahead_sets.Goals as goal

pub loop-p-preserved : goal.loop-p-preserved
loop-p-preserved c =
    let i = c.loop-p.invariant in
    let more = one_set (λ names. names.items) (start_of (own_at c.args.lock.now)).ahead c.loop-p.sets.items c.in_ok-ahead_of.field-0 c.loop-p.p i.each i.ahead c.in_ok-ahead_of.ensures in
    record {
      each = omega (arith, c.push_reserved.ensures.len, i.each);
      room = omega (arith, c.push_reserved.ensures.capacity, i.room);
      ahead = rw c.push_reserved.ensures.items more;
    }
