use Rattle.std.proofs.Common.{◌≤◌, ◌+◌, subst, arith}
use Rattle.progress.proofs.WaitFree.{steps_left, rereads_left, leaves, before_line, rereading, leaving, recovering}
use Rattle.progress.specs.WaitFree.{steps_of}
use Rattle.progress.proofs.laws.doorway_exit_and_recovery_are_wait_free.Goals as goal

pub returns-clause-doorway : goal.returns-clause-doorway
returns-clause-doorway c = λ n limit p w below at es run all. let h = subst (λ s. steps_of p es + 1 ≤ steps_left n s) at (leaves n limit p below (before_line n limit p below) w es run all) in omega arith

pub returns-clause-reentry : goal.returns-clause-reentry
returns-clause-reentry c = λ n limit p w below at es run all. let h = subst (λ s. steps_of p es + 1 ≤ rereads_left s) at (leaves n limit p below (rereading n limit p below) w es run all) in omega arith

pub returns-clause-exit : goal.returns-clause-exit
returns-clause-exit c = λ n limit p w below at es run all. let h = subst (λ s. steps_of p es + 1 ≤ steps_left n s) at (leaves n limit p below (leaving n limit p below) w es run all) in omega arith

pub returns-clause-recovery : goal.returns-clause-recovery
returns-clause-recovery c = λ n limit p w below at es run all. let h = subst (λ s. steps_of p es + 1 ≤ steps_left n s) at (leaves n limit p below (recovering n limit p below) w es run all) in omega arith
