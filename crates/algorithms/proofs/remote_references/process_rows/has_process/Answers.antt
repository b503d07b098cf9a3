use Rattle.std.proofs.Common.{arith}
use Rattle.std.proofs.lemmas.Nat.Bits.{shr_and_one}
use Rattle.algorithms.proofs.remote_references.Bits.{tested}
use Rattle.algorithms.proofs.remote_references.process_rows.has_process.Goals as goal

pub returns-then-p-lt-PROCESSES : goal.returns-then-p-lt-PROCESSES
returns-then-p-lt-PROCESSES c = λ holds bits l. rw (shr_and_one c.args.row c.args.p) (tested (holds c.args.p) _ (bits c.args.p l))

pub returns-else-p-lt-PROCESSES : goal.returns-else-p-lt-PROCESSES
returns-else-p-lt-PROCESSES c = λ holds bits l. absurd (omega (arith, c.if-p-lt-PROCESSES.false, l))
