use Rattle.std.proofs.Common.{arith}
use Rattle.schedule.proofs.ReplaysCommon.{line_at}
use Rattle.schedule.proofs.InPlace.{shorter, reads_on, reads_nothing}
use Rattle.schedule.proofs.Fragments.{runs_first, runs_more, runs_end, runs_halt}
use Rattle.schedule.proofs.replays.play_in_place.play_text.Goals as goal

pub loop-rest-init : goal.loop-rest-init
loop-rest-init g c = record {
  room = omega arith;
  read = c.requires.read;
  played = λ lines e. (lines, e, runs_first g.M.Automaton.transitions g.L.Listener.effects 2 c.args.listener.now c.args.machine.now lines);
}

pub returns-in-Err : goal.returns-in-Err
returns-in-Err g c lines e =
    let so_far = c.loop-rest.invariant.played lines e in
    let one = c.in-Err.ensures.err in
    let left = reads_on (line_at c.args.width) c.loop-rest.number c.loop-rest.rest.now one.1 one.0 so_far.0 one.2 so_far.1 in
    runs_halt g.M.Automaton.transitions g.L.Listener.effects _ _ _ _ _ _ _ one.0 _ _ c.in-Err.stop so_far.2 left.1 one.3

pub loop-rest-smaller : goal.loop-rest-smaller
loop-rest-smaller g c = let one = c.in-Ok.ensures.ok in omega (arith, shorter (line_at c.args.width) c.loop-rest.rest.now c.in-Ok.after.now one.0 one.1)

pub loop-rest-preserved : goal.loop-rest-preserved
loop-rest-preserved g c =
    let one = c.in-Ok.ensures.ok in
    let item = line_at c.args.width in
    let known = c.loop-rest.invariant.read in
    let more = reads_on item c.loop-rest.number c.loop-rest.rest.now c.in-Ok.after.now one.0 known.0 one.1 known.1 in
    record {
      room = omega (arith, c.loop-rest.invariant.room, shorter item c.loop-rest.rest.now c.in-Ok.after.now one.0 one.1);
      read = (more.0, more.2);
      played = λ lines e.
          let so_far = c.loop-rest.invariant.played lines e in
          let left = reads_on item c.loop-rest.number c.loop-rest.rest.now c.in-Ok.after.now one.0 so_far.0 one.1 so_far.1 in
          (left.0, left.2, runs_more g.M.Automaton.transitions g.L.Listener.effects _ _ _ _ _ _ _ one.0 _ _ so_far.2 left.1 one.2);
    }

pub returns : goal.returns
returns g c lines e =
    let so_far = c.loop-rest.invariant.played lines e in
    runs_end g.M.Automaton.transitions g.L.Listener.effects _ _ _ _ _ _ so_far.2 (reads_nothing (line_at c.args.width) c.loop-rest.number c.loop-rest.rest.now so_far.0 (grind arith) so_far.1)
