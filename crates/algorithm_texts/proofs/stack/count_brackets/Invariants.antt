use Rattle.std.proofs.Common.{◌≡◌, ◌≤◌, map, reverse, take}
use Rattle.algorithm_texts.specs.Stacks.{brackets}
use Rattle.algorithm_texts.specs.Operands.{waits_of}
use Rattle.algorithm_texts.proofs.stack.count_brackets.Given as goal

-- the brackets that are counted so far
abbrev pub invariant-loop-waiting : goal.invariant-loop-waiting
invariant-loop-waiting l = record {
  counted : l.count ≡ brackets (reverse (map waits_of (take l.waiting-index l.all)));
  few : l.count ≤ l.waiting-index;
}
