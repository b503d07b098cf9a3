use Rattle.std.proofs.Common.{◌≡◌, map, take, string_bytes}
use Rattle.algorithm_texts.proofs.likeness.same_names.Given as goal

-- the names so far are the same
abbrev pub invariant-loop-name : goal.invariant-loop-name
invariant-loop-name l = record {
  here : l.place ≡ l.name-index;
  same : map (λ name. string_bytes name) (take l.name-index l.left) ≡ map (λ name. string_bytes name) (take l.name-index l.right);
}
