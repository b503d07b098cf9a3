use Rattle.std.proofs.Common.{◌≡◌, ◌≤◌, ◌+◌, drop}
use Rattle.algorithm_texts.specs.Fronts.{value_size, value_size_in}
use Rattle.algorithm_texts.proofs.parts.value_end.Given as goal

-- the value goes on with the tokens that are left
abbrev pub invariant-loop-token : goal.invariant-loop-token
invariant-loop-token l = record {
  size : value_size l.tokens ≡ l.size + value_size_in l.opened (drop l.token-index l.tokens);
  here : l.size ≡ l.token-index;
  few : l.opened ≤ l.token-index;
}
