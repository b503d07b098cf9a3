use Rattle.std.proofs.Common.{◌≡◌, ◌≤◌, count_by, map, take}
use Rattle.algorithm_texts.specs.NameUses.{begins_call}
use Rattle.algorithm_texts.proofs.name_uses.calls_begun.Given as goal

-- the calls that are counted so far
abbrev pub invariant-loop-line : goal.invariant-loop-line
invariant-loop-line l = record {
  counted : l.begun ≡ count_by begins_call (map (λ line. line.now) (take l.line-index l.lines));
  few : l.begun ≤ l.line-index;
}
