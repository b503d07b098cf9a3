use Rattle.std.proofs.Common.{sym, subst, arith}
use Rattle.algorithm_texts.specs.TextFaults.{IsFaultOfTokens, OrMemory}
use Rattle.algorithm_texts.specs.TextLines.{SaysTokens, IsRefusalOf}
use Rattle.algorithm_texts.proofs.RefusedLines.{says_none}
use Rattle.algorithm_texts.proofs.FirstFaults.{tokens_fault}
use Rattle.algorithm_texts.proofs.drafts.read_tokens.Goals as goal

pub returns-in-Err-clause-err : goal.returns-in-Err-clause-err
returns-in-Err-clause-err c =
    subst (λ f. IsRefusalOf f (SaysTokens c.args.number c.args.line.now)) (sym c.at-in-Err.ensures) (says_none c.args.number c.args.line.now c.in-Err.fault c.in-Err.ensures.err)

pub returns-in-Err-clause-first : goal.returns-in-Err-clause-first
returns-in-Err-clause-first c =
    subst (λ f. OrMemory f (IsFaultOfTokens c.args.number c.args.line.now f)) (sym c.at-in-Err.ensures)
    (tokens_fault c.args.number c.args.line.now c.in-Err.fault (omega arith) (omega arith) c.in-Err.ensures.err)
