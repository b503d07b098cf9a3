use Rattle.std.proofs.Common.{◌≡◌, length, ap, ◌∙◌, arith}
use Rattle.rmeworld.proofs.Common.{resting, machine_after_crash, absent_machine}
use Rattle.rmeworld.proofs.IndexedLists.{each_more}
use Rattle.rmeworld.proofs.world.all_crashed.Goals as goal

pub loop-index-preserved : goal.loop-index-preserved
loop-index-preserved c =
    let i = c.loop-index.invariant in
    let so_far : length c.loop-index.processes.items ≡ c.loop-index.index = omega (arith, i.length) in
    let dead = c.crash.ensures ∙ ap machine_after_crash c.new-process.ensures in
    record {
      length = omega (arith, c.push_reserved.ensures.len, i.length);
      room = omega (arith, c.push_reserved.ensures.capacity, i.room);
      each = each_more c.loop-index.processes.items _ c.crash.new.self absent_machine (λ p. machine_after_crash (resting c.args.layout c.args.limit p)) c.loop-index.index so_far i.each c.push_reserved.ensures.items dead;
    }
