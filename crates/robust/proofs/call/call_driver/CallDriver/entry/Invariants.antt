use Rattle.std.proofs.Common.{◌≡◌, ℕ, ◌+◌, ◌<◌, length}
use Rattle.robust.proofs.CallCommon.{slice_index, place_at, cells_of, row_words, Glances}
use Rattle.robust.proofs.call.call_driver.CallDriver.entry.Given as goal

abbrev pub invariant-loop-k : goal.invariant-loop-k
invariant-loop-k l = record {
  looked : Glances l.fn.self (row_words (place_at l.fn.self.seat_view.setup.layout l.fn.a) l.k) l.self;
  long : length l.words ≡ 10;
  read : ((j : ℕ) → j < l.k → slice_index l.words j ≡ cells_of l.fn.self.seat_view.setup l.fn.self.seat_view.seen (place_at l.fn.self.seat_view.setup.layout l.fn.a + j));
}
