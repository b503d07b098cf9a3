use Rattle.table_runs.specs.GatheredRuns.{OneArena}
use Rattle.robust_tests.proofs.scarce_memory.gather_at_last.Given as goal

abbrev pub invariant-loop : goal.invariant-loop
invariant-loop g l = record { arena : OneArena l.members.items }
