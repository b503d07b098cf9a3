use Rattle.std.proofs.Common.{◌≡◌, ◌-◌, ◌≤◌, drop}
use Rattle.robust.proofs.CallCommon.{vec_len, vec_capacity, entries, cells_of, entry_words, Glances}
use Rattle.robust.proofs.call.call_driver.CallDriver.entries.Given as goal

abbrev pub invariant-loop-a : goal.invariant-loop-a
invariant-loop-a l = record {
  looked : Glances l.fn.self (entry_words l.fn.self.seat_view.setup.layout l.fn.place (l.a - l.fn.place)) l.self;
  len : vec_len l.messages ≡ l.a - l.fn.place;
  from : l.fn.place ≤ l.a;
  room : l.fn.count - l.fn.place ≤ vec_capacity l.messages;
  read : l.messages.items ≡ drop l.fn.place (entries l.fn.self.seat_view.setup.layout (cells_of l.fn.self.seat_view.setup l.fn.self.seat_view.seen) l.a);
}
