use Rattle.std.proofs.Common.{◌≡◌, ℕ, ◌<◌, map, drop}
use Rattle.std.specs.List.{list_any}
use Rattle.algorithm_texts.specs.Drafts.{line_of}
use Rattle.algorithm_texts.specs.TextFaults.{StaysAt}
use Rattle.algorithm_texts.specs.Usage.{may_withdraw}
use Rattle.algorithm_texts.proofs.whole.first_withdraw.Given as goal

-- one of the lines that are left may where one of all may, and none of those before
abbrev pub invariant-loop-line : goal.invariant-loop-line
invariant-loop-line l = record {
  any : list_any (λ line. may_withdraw line.form) (map line_of (drop l.line-index l.lines)) ≡ list_any (λ line. may_withdraw line.form) (map line_of l.lines);
  none : (k : ℕ) → k < l.line-index → StaysAt (map line_of l.lines) k;
}
