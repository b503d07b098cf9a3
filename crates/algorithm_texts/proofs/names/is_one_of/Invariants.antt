use Rattle.std.proofs.Common.{◌≡◌, false, take, bytes_eq}
use Rattle.std.specs.List.{list_any}
use Rattle.algorithm_texts.proofs.names.is_one_of.Given as goal

-- none of the words so far is it
abbrev pub invariant-loop-other : goal.invariant-loop-other
invariant-loop-other l = list_any (λ other. bytes_eq other.now l.word) (take l.other-index l.words) ≡ false
