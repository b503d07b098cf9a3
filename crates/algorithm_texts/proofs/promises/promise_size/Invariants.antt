use Rattle.std.proofs.Common.{◌≡◌, ◌≤◌, ◌+◌, drop}
use Rattle.algorithm_texts.specs.PromiseLines.{promise_size, promise_size_in}
use Rattle.algorithm_texts.proofs.promises.promise_size.Given as goal

-- the promise goes on with the tokens that are left
abbrev pub invariant-loop-token : goal.invariant-loop-token
invariant-loop-token l = record {
  size : promise_size l.tokens ≡ l.size + promise_size_in l.opened (drop l.token-index l.tokens);
  here : l.size ≡ l.token-index;
  few : l.opened ≤ l.token-index;
}
