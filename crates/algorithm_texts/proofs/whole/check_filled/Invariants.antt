use Rattle.std.proofs.Common.{◌≡◌, ◌<◌, take, drop}
use Rattle.std.specs.List.{All, find}
use Rattle.algorithm_texts.specs.TextFaults.{has_no_line}
use Rattle.algorithm_texts.proofs.whole.check_filled.Given as goal

-- the calls so far have lines, so the first that has none is among those that are left
abbrev pub invariant-loop-call : goal.invariant-loop-call
invariant-loop-call l = record {
  filled : All (λ call. call.«from» < call.to) (take l.call-index l.draft.calls.items);
  left : find has_no_line (drop l.call-index l.draft.calls.items) ≡ find has_no_line l.draft.calls.items;
}
