use Rattle.std.proofs.Common.{◌∙◌, sym, arith}
use Rattle.judge.proofs.RowWords.{mod-row_word, low-pow, all-mod}
use Rattle.judge.proofs.rows.only_first.Goals as goal

pub returns-then-procs-lt64 : goal.returns-then-procs-lt64
returns-then-procs-lt64 c = λ f bits. let e = low-pow c.args.procs c.if-procs-lt64.true in rw e (mod-row_word c.args.row c.args.procs f bits)

pub returns-else-procs-lt64 : goal.returns-else-procs-lt64
returns-else-procs-lt64 c = λ f bits. sym (all-mod c.args.row c.args.procs (omega arith) c.if-procs-lt64.false) ∙ mod-row_word c.args.row c.args.procs f bits
