use Rattle.std.proofs.Common.{◌≡◌, ◌++◌, take, length}
use Rattle.schedule.proofs.LexerCommon.{spaced_numbers}
use Rattle.schedule.proofs.lexer.tokens.numbers.Given as goal

abbrev pub invariant-loop-j : goal.invariant-loop-j
invariant-loop-j l = record {
  text : l.text ≡ spaced_numbers (take l.j l.words) ++ l.rest;
  all : length l.words ≡ 8;
}
