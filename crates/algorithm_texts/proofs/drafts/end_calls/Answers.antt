use Rattle.std.proofs.Common.{sym, subst}
use Rattle.algorithms.specs.declared.fault.ReadFault.TheVariants.{BadBlock}
use Rattle.algorithm_texts.specs.Drafts.{draft_view}
use Rattle.algorithm_texts.specs.LineDrafts.{Drafts}
use Rattle.algorithm_texts.specs.TextLines.{RefusesLines}
use Rattle.algorithm_texts.specs.TextDrafts.{end_call}
use Rattle.algorithm_texts.proofs.FormFaults.{stops_at}
use Rattle.algorithm_texts.proofs.RefusedLines.{refuses_at}
use Rattle.algorithm_texts.proofs.drafts.end_calls.Goals as goal

pub returns-in-Err-clause-err : goal.returns-in-Err-clause-err
returns-in-Err-clause-err c =
    let o = end_call c.args.draft.now.number (draft_view c.args.draft.now) in
    subst (λ f. RefusesLines f o) (sym c.at.ensures)
    (refuses_at c.args.draft.now.number c.in-Err.fault o BadBlock (subst (λ r. Drafts (draft_view c.end_call.new.self) r o BadBlock) c.in-Err.is c.end_call.ensures))

pub returns-in-Err-clause-first : goal.returns-in-Err-clause-first
returns-in-Err-clause-first c =
    let o = end_call c.args.draft.now.number (draft_view c.args.draft.now) in
    stops_at c.args.draft.now.number c.in-Err.fault BadBlock c.at.result o c.at.ensures
    (subst (λ r. Drafts (draft_view c.end_call.new.self) r o BadBlock) c.in-Err.is c.end_call.ensures)
