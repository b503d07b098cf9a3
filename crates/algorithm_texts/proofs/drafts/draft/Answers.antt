use Rattle.std.proofs.Common.{◌≡◌, Some, None, slice_get, inr, rules}
use Rattle.std.proofs.lemmas.Result.{err_from_is_err_and}
use Rattle.algorithm_texts.specs.Drafts.{draft_view}
use Rattle.algorithm_texts.specs.PromiseLines.{promises_said}
use Rattle.algorithm_texts.proofs.FormFaults.{draft_begins, first_missing, first_stops, head_then}
use Rattle.algorithm_texts.proofs.TextBeginnings.{text_begun, no_first, head_refuses, promises_refuse}
use Rattle.algorithm_texts.proofs.drafts.draft.Goals as goal

pub returns-in-Ok-clause-ok : goal.returns-in-Ok-clause-ok
returns-in-Ok-clause-ok c =
    let first : slice_get c.args.lines.now 0 ≡ Some c.in-Some.first.now = first_of (search rules, cc) in
    let h = c.in_ok-algorithm.ensures.ok in
    text_begun c.args.lines.now c.in-Some.first.now h.0 (promises_said c.in-Ok.said) c.in-Ok.number (draft_view c.new_draft.result) first h.1 c.in-Ok.ensures.ok (c.new_draft.ensures h.0 h.2)

pub returns-in-None-clause-err : goal.returns-in-None-clause-err
returns-in-None-clause-err c =
    let none : slice_get c.args.lines.now 0 ≡ None = first_of (search rules, cc) in
    inr (no_first c.args.lines.now none)

pub returns-in_err-algorithm-clause-err : goal.returns-in_err-algorithm-clause-err
returns-in_err-algorithm-clause-err c =
    let p = err_from_is_err_and c.from_residual.result c.from_residual.ensures.1 in
    let first : slice_get c.args.lines.now 0 ≡ Some c.in-Some.first.now = first_of (search rules, cc) in
    rw (p.1, p.2) (head_refuses c.args.lines.now c.in-Some.first.now c.in_err-algorithm.field-0.0 first c.in_err-algorithm.ensures.err)

pub returns-in-Err-clause-err : goal.returns-in-Err-clause-err
returns-in-Err-clause-err c =
    let first : slice_get c.args.lines.now 0 ≡ Some c.in-Some.first.now = first_of (search rules, cc) in
    promises_refuse c.args.lines.now c.in-Some.first.now c.in-Err.fault first c.in-Err.ensures.err

pub returns-in-Ok-clause-begins : goal.returns-in-Ok-clause-begins
returns-in-Ok-clause-begins c =
    let first : slice_get c.args.lines.now 0 ≡ Some c.in-Some.first.now = first_of (search rules, cc) in
    let h = c.in_ok-algorithm.ensures.ok in
    draft_begins c.args.lines.now c.in-Some.first.now h.0 (promises_said c.in-Ok.said) c.in-Ok.number (draft_view c.new_draft.result) first h.1 c.in-Ok.ensures.ok (c.new_draft.ensures h.0 h.2)

pub returns-in-None-clause-first : goal.returns-in-None-clause-first
returns-in-None-clause-first c =
    let none : slice_get c.args.lines.now 0 ≡ None = first_of (search rules, cc) in
    first_missing c.args.lines.now c.at.result none c.at.ensures

pub returns-in_err-algorithm-clause-first : goal.returns-in_err-algorithm-clause-first
returns-in_err-algorithm-clause-first c =
    let p = err_from_is_err_and c.from_residual.result c.from_residual.ensures.1 in
    let first : slice_get c.args.lines.now 0 ≡ Some c.in-Some.first.now = first_of (search rules, cc) in
    rw (p.1, p.2) (first_stops c.args.lines.now c.in-Some.first.now c.in_err-algorithm.field-0.0 first c.in_err-algorithm.ensures.at)

pub returns-in-Err-clause-first : goal.returns-in-Err-clause-first
returns-in-Err-clause-first c =
    let first : slice_get c.args.lines.now 0 ≡ Some c.in-Some.first.now = first_of (search rules, cc) in
    let h = c.in_ok-algorithm.ensures.ok in
    head_then c.args.lines.now c.in-Some.first.now h.0 c.in-Err.fault first h.1 c.in-Err.ensures.first
