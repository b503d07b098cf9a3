use Rattle.std.proofs.Common.{◌≡◌, ◌+◌, ◌≤◌, length}
use Rattle.schedule.proofs.TextsCommon.{parts_of, items_at}
use Rattle.schedule.proofs.Items.{with_items}
use Rattle.schedule.proofs.texts.whole.items.Given as goal

abbrev pub invariant-loop-rest : goal.invariant-loop-rest
invariant-loop-rest g l = record {
  so_far : with_items (g.T.Item.item_at l.width) l.items.items (items_at (g.T.Item.item_at l.width) l.number (parts_of l.rest)) ≡ items_at (g.T.Item.item_at l.width) l.first (parts_of l.text);
  room : l.number + length l.rest ≤ l.first + length l.text;
}

abbrev pub decreases-loop-rest : goal.decreases-loop-rest
decreases-loop-rest g l = length l.rest
