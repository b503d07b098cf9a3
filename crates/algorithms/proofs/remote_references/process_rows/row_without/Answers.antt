use Rattle.std.proofs.Common.{◌∙◌, arith}
use Rattle.algorithms.proofs.remote_references.Bits.{apart_bit, without_bit}
use Rattle.algorithms.proofs.remote_references.process_rows.row_without.Goals as goal

pub returns-then-p-lt-PROCESSES : goal.returns-then-p-lt-PROCESSES
returns-then-p-lt-PROCESSES c = λ holds bits q l. without_bit c.args.row c.args.p q (holds q) c.if-p-lt-PROCESSES.true l (bits q l)

pub returns-else-p-lt-PROCESSES : goal.returns-else-p-lt-PROCESSES
returns-else-p-lt-PROCESSES c = λ holds bits q l. bits q l ∙ apart_bit c.args.p q (holds q) (λ e. omega (arith, c.if-p-lt-PROCESSES.false, e, l))
