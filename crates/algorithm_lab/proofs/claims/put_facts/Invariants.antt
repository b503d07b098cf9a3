use Rattle.std.proofs.Common.{◌≡◌, drop}
use Rattle.algorithm_lab.specs.Claims.{with_facts}
use Rattle.algorithm_lab.proofs.claims.put_facts.Given as goal

-- the facts that are left, from the next name on, give the names that all of them do
abbrev pub invariant-loop-fact : goal.invariant-loop-fact
invariant-loop-fact l = with_facts l.world l.phases l.at l.initial.names l.facts ≡ with_facts l.world l.phases l.next l.names (drop l.fact-index l.facts)
