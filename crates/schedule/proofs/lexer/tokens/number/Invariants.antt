use Rattle.std.proofs.Common.{◌≡◌, ◌<◌, ◌++◌, length}
use Rattle.schedule.proofs.LexerCommon.{decimal}
use Rattle.schedule.proofs.lexer.tokens.number.Given as goal

abbrev pub invariant-loop-byte : goal.invariant-loop-byte
invariant-loop-byte l = record {
  text : l.fn.text ≡ decimal l.value ++ l.rest;
  some : 0 < l.value;
}

abbrev pub decreases-loop-byte : goal.decreases-loop-byte
decreases-loop-byte l = length l.rest
