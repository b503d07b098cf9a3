use Rattle.std.proofs.Common.{Some, sym, subst}
use Rattle.algorithm_texts.specs.LineFaults.{promises_fault}
use Rattle.algorithm_texts.specs.TextDrafts.{read_promises}
use Rattle.algorithm_texts.specs.TextLines.{RefusesLines, second_said}
use Rattle.algorithm_texts.proofs.FormFaults.{stops_at}
use Rattle.algorithm_texts.proofs.RefusedLines.{refuses_at}
use Rattle.algorithm_texts.proofs.TextBeginnings.{says_nothing}
use Rattle.algorithm_texts.proofs.drafts.promises_of.Goals as goal

pub returns-in-Err-clause-at : goal.returns-in-Err-clause-at
returns-in-Err-clause-at c =
    stops_at c.args.line.now.number c.in-Err.fault (promises_fault c.args.line.now.tokens.all.items) c.at.result (read_promises c.args.line.now.tokens.all.items) c.at.ensures c.in-Err.ensures

pub returns-in-Err-clause-err : goal.returns-in-Err-clause-err
returns-in-Err-clause-err c =
    let line = c.args.line.now in
    subst (λ f. RefusesLines f (second_said (Some line))) (sym c.at.ensures)
    (says_nothing line _ (refuses_at line.number c.in-Err.fault (read_promises line.tokens.all.items) (promises_fault line.tokens.all.items) c.in-Err.ensures))
