use Rattle.std.proofs.Common.{◌≡◌, ◌≤◌, drop, map}
use Rattle.algorithm_texts.specs.NameUses.{named_in}
use Rattle.algorithm_texts.proofs.name_uses.is_named_in.Given as goal

-- none of the lines so far names it
abbrev pub invariant-loop-line : goal.invariant-loop-line
invariant-loop-line l = record {
  rest : named_in l.word l.call 0 (map (λ line. line.now) l.lines) ≡ named_in l.word l.call l.begun (map (λ line. line.now) (drop l.line-index l.lines));
  few : l.begun ≤ l.line-index;
}
