use Rattle.std.proofs.Common.{sym, subst}
use Rattle.algorithm_texts.specs.TextLines.{RefusesLines}
use Rattle.algorithm_texts.specs.LineFaults.{head_fault}
use Rattle.algorithm_texts.specs.TextDrafts.{read_head}
use Rattle.algorithm_texts.proofs.FormFaults.{stops_at}
use Rattle.algorithm_texts.proofs.RefusedLines.{refuses_at}
use Rattle.algorithm_texts.proofs.drafts.head_of.Goals as goal

pub returns-in-Err-clause-err : goal.returns-in-Err-clause-err
returns-in-Err-clause-err c =
    subst (λ f. RefusesLines f (read_head c.args.line.now.tokens.all.items)) (sym c.at.ensures)
    (refuses_at c.args.line.now.number c.in-Err.fault (read_head c.args.line.now.tokens.all.items) (head_fault c.args.line.now.tokens.all.items) c.in-Err.ensures)

pub returns-in-Err-clause-at : goal.returns-in-Err-clause-at
returns-in-Err-clause-at c =
    stops_at c.args.line.now.number c.in-Err.fault (head_fault c.args.line.now.tokens.all.items) c.at.result (read_head c.args.line.now.tokens.all.items) c.at.ensures c.in-Err.ensures
