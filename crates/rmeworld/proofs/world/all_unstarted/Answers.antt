use Rattle.std.proofs.Common.{refl, arith}
use Rattle.rmeworld.proofs.Common.{new_tally, zeros}
use Rattle.rmeworld.proofs.Mapped.{mapped_more}
use Rattle.rmeworld.proofs.world.all_unstarted.Goals as goal

pub loop-own-preserved : goal.loop-own-preserved
loop-own-preserved c =
    let i = c.loop-own.invariant in
    record {
      same = mapped_more new_tally c.loop-own.tallies.items _ c.args.words.now c.loop-own.own-index zeros _ i.same c.push_reserved.ensures.items c.loop-own-test.true refl;
      count = omega (arith, c.push_reserved.ensures.len, i.count);
      room = omega (arith, c.push_reserved.ensures.capacity, i.room);
    }
