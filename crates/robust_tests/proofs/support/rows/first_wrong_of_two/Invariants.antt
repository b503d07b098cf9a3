use Rattle.std.proofs.Common.{◌≡◌}
use Rattle.robust_tests.proofs.support.rows.first_wrong_of_two.Given as goal

-- the members so far are the same
abbrev pub invariant-loop-at : goal.invariant-loop-at
invariant-loop-at g l = record {
  one : g.M.Tested.place l.one ≡ g.M.Tested.place l.initial.one;
  other : g.M.Tested.place l.other ≡ g.M.Tested.place l.initial.other;
}
