use Rattle.std.proofs.Common.{◌≡◌, ◌++◌, take}
use Rattle.schedule.proofs.lexer.tokens.after_bytes.Given as goal

abbrev pub invariant-loop-byte : goal.invariant-loop-byte
invariant-loop-byte l = l.text ≡ take l.byte-index l.bytes ++ l.rest
