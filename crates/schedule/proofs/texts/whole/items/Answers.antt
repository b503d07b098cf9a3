use Rattle.std.proofs.Common.{◌∷◌, length, refl, ap, sym, ◌∙◌, arith, eqb-true, length-append}
use Rattle.schedule.proofs.TextsCommon.{NoNewline}
use Rattle.schedule.proofs.Items.{items_go_on, cut_fails, uncut_fails, items_stop, items_end}
use Rattle.schedule.proofs.texts.whole.items.Goals as goal

pub returns-in_default : goal.returns-in_default
returns-in_default g c =
    rw c.on_line.ensures (NoNewline, items_stop (g.T.Item.item_at c.args.width) c.loop-rest.items.items _ _ _ (uncut_fails (g.T.Item.item_at c.args.width) c.loop-rest.number c.loop-rest.rest.now c.in_default.ensures.parts (grind arith)) c.loop-rest.invariant.so_far, refl)

pub returns-in-Err : goal.returns-in-Err
returns-in-Err g c =
    rw c.on_line-in-Err.ensures (c.in-Err.fault, items_stop (g.T.Item.item_at c.args.width) c.loop-rest.items.items _ _ _ (cut_fails (g.T.Item.item_at c.args.width) c.loop-rest.number c.loop-rest.rest.now c.in-Some.line.now c.in-Some.after.now c.in-Err.fault c.in-Some.ensures.parts c.in-Err.ensures) c.loop-rest.invariant.so_far, refl)

pub loop-rest-preserved : goal.loop-rest-preserved
loop-rest-preserved g c = record {
  so_far = rw c.in_ok-push-in-Ok.ensures.items (items_go_on (g.T.Item.item_at c.args.width) c.loop-rest.items.items c.loop-rest.number c.loop-rest.rest.now c.in-Some.line.now c.in-Some.after.now c.in-Ok.item _ c.in-Some.ensures.parts c.in-Ok.ensures c.loop-rest.invariant.so_far);
  room = omega (arith, c.loop-rest.invariant.room, ap length c.in-Some.ensures.whole ∙ length-append c.in-Some.line.now (10 ∷ c.in-Some.after.now));
}

pub returns : goal.returns
returns g c = items_end (g.T.Item.item_at c.args.width) c.loop-rest.items.items c.loop-rest.number c.loop-rest.rest.now _ (eqb-true _ _ (sym c.loop-rest-test.ensures)) c.loop-rest.invariant.so_far
