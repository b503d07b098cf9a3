use Rattle.std.proofs.Common.{◌∙◌, ap, sym, arith, ne_eqb}
use Rattle.std.proofs.lemmas.Nat.{one_shl}
use Rattle.std.proofs.lemmas.Nat.Bits.{bit_at-zero}
use Rattle.algorithms.specs.remote_references.CopyRows.{bit_of}
use Rattle.algorithms.proofs.remote_references.Bits.{one_bit}
use Rattle.algorithms.proofs.remote_references.process_rows.row_of_one.Goals as goal

pub returns-then-p-lt-PROCESSES : goal.returns-then-p-lt-PROCESSES
returns-then-p-lt-PROCESSES c = λ q l. rw (one_shl c.args.p 64 c.if-p-lt-PROCESSES.true) (one_bit c.args.p q)

pub returns-else-p-lt-PROCESSES : goal.returns-else-p-lt-PROCESSES
returns-else-p-lt-PROCESSES c = λ q l. bit_at-zero q ∙ ap bit_of (sym (ne_eqb c.args.p q (λ e. omega (arith, c.if-p-lt-PROCESSES.false, e, l))))
