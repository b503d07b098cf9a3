use Rattle.std.proofs.Common.{◌≡◌, ◌++◌, take}
use Rattle.schedule.proofs.texts.wrapped.log_with.Given as goal

abbrev pub invariant-loop-byte : goal.invariant-loop-byte
invariant-loop-byte l = l.all.items ≡ l.fn.log.items ++ take l.byte-index l.bytes
