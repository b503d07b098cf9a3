use Rattle.std.proofs.Common.{refl, arith}
use Rattle.schedule.proofs.LexerCommon.{line_at}
use Rattle.schedule.proofs.InPlace.{shorter, goes_first, goes_on, goes_wrong, goes_to_end}
use Rattle.schedule.proofs.lexer.in_place.check_lines.Goals as goal

pub loop-rest-init : goal.loop-rest-init
loop-rest-init c = record { so_far = goes_first (line_at c.args.width) c.args.first c.args.text.now; room = omega arith }

pub returns-in-Err-clause-read : goal.returns-in-Err-clause-read
returns-in-Err-clause-read c =
    rw c.on_line.ensures (c.in-Err.fault, goes_wrong (line_at c.args.width) _ c.loop-rest.number c.loop-rest.rest.now c.in-Err.fault (c.in-Err.ensures.fault c.loop-rest.number) c.loop-rest.invariant.so_far, refl)

pub loop-rest-smaller : goal.loop-rest-smaller
loop-rest-smaller c = let b = c.in-Ok.ensures.read in omega (arith, shorter (line_at c.args.width) c.loop-rest.rest.now c.in-Ok.after.now b.0 b.1)

pub loop-rest-preserved : goal.loop-rest-preserved
loop-rest-preserved c =
    let b = c.in-Ok.ensures.read in
    record {
      so_far = goes_on (line_at c.args.width) _ c.loop-rest.number c.loop-rest.rest.now c.in-Ok.after.now b.0 b.1 c.loop-rest.invariant.so_far;
      room = omega (arith, c.loop-rest.invariant.room, shorter (line_at c.args.width) c.loop-rest.rest.now c.in-Ok.after.now b.0 b.1);
    }

pub returns-clause-read : goal.returns-clause-read
returns-clause-read c = goes_to_end (line_at c.args.width) _ c.loop-rest.number c.loop-rest.rest.now (grind arith) c.loop-rest.invariant.so_far
