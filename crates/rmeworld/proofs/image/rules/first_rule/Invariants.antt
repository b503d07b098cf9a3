use Rattle.std.proofs.Common.{◌-◌, ◌≤◌}
use Rattle.rmeworld.proofs.Common.{KeepsRules}
use Rattle.rmeworld.proofs.image.rules.first_rule.Given as goal

-- the rules before this one are kept
abbrev pub invariant-loop-rule : goal.invariant-loop-rule
invariant-loop-rule l = KeepsRules (l.rule - 1) l.image × (2 ≤ l.rule)
