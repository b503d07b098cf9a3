use Rattle.std.proofs.Common.{inl, inr}
use Rattle.std.proofs.lemmas.Result.{err_from_is_err_and}
use Rattle.algorithm_texts.specs.Drafts.{draft_view}
use Rattle.algorithm_texts.proofs.DraftFaults.{unread_fault}
use Rattle.algorithm_texts.proofs.ProgramTrees.{spelled_draft}
use Rattle.algorithm_texts.proofs.OneDraft.{unspelled, unfit}
use Rattle.algorithm_texts.proofs.whole.fitting_draft.Goals as goal

pub returns-clause-ok : goal.returns-clause-ok
returns-clause-ok c =
    let read = c.in_ok-draft.ensures.ok in
    spelled_draft c.args.text.now (draft_view c.in_ok-draft.draft) (draft_view c.check_calls.new.draft) read.0 read.1 read.2 c.in_ok-check_calls.ensures.finished c.in_ok-check_calls.ensures.fit

pub returns-in_err-draft-clause-err : goal.returns-in_err-draft-clause-err
returns-in_err-draft-clause-err c =
    let p = err_from_is_err_and c.from_residual.result c.from_residual.ensures.1 in
    rw (p.1, p.2) (unspelled c.args.text.now c.in_err-draft.field-0.0 c.in_err-draft.ensures.err)

pub returns-in_err-check_calls-clause-err : goal.returns-in_err-check_calls-clause-err
returns-in_err-check_calls-clause-err c =
    let p = err_from_is_err_and c.from_residual-in_err-check_calls.result c.from_residual-in_err-check_calls.ensures.1 in
    let read = c.in_ok-draft.ensures.ok in
    rw (p.1, p.2) (inr (unfit c.args.text.now read.0 (draft_view c.in_ok-draft.draft) read.1 read.2 c.in_err-check_calls.ensures.err))

pub returns-in_err-draft-clause-first : goal.returns-in_err-draft-clause-first
returns-in_err-draft-clause-first c =
    let p = err_from_is_err_and c.from_residual.result c.from_residual.ensures.1 in
    rw (p.1, p.2) (unread_fault c.args.text.now c.in_err-draft.field-0.0 c.in_err-draft.ensures.first)

pub returns-in_err-check_calls-clause-first : goal.returns-in_err-check_calls-clause-first
returns-in_err-check_calls-clause-first c =
    let p = err_from_is_err_and c.from_residual-in_err-check_calls.result c.from_residual-in_err-check_calls.ensures.1 in
    let read = c.in_ok-draft.ensures.ok in
    rw (p.1, p.2) (inr (inr (inr (draft_view c.in_ok-draft.draft, (read.0, read.1, read.2), inl c.in_err-check_calls.ensures.first))))
