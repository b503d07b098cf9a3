use Rattle.std.proofs.Common.{◌≡◌, ◌⊎◌, map, drop, slice_get, sym, ap, ◌∙◌, subst, inl, inr}
use Rattle.std.specs.List.{drop-map}
use Rattle.std.proofs.lemmas.Result.{err_from_is_err_and}
use Rattle.algorithm_texts.specs.Drafts.{draft_view}
use Rattle.algorithm_texts.specs.TextDrafts.{read_lines, read_text}
use Rattle.algorithm_texts.specs.TextFaults.{BeginsDraft, IsFaultOfForms, IsFaultOfHead, IsFaultOfLater, IsFaultOfLines, OrMemory}
use Rattle.algorithm_texts.specs.TextLines.{RefusesLines, spoken_of}
use Rattle.algorithm_texts.proofs.RunFaults.{or_memory, part_or_memory}
use Rattle.algorithm_texts.proofs.OneDraft.{unsaid, unread}
use Rattle.algorithm_texts.proofs.drafts.forms.Goals as goal

pub returns-in_err-lines-clause-err : goal.returns-in_err-lines-clause-err
returns-in_err-lines-clause-err c =
    let p = err_from_is_err_and c.from_residual.result c.from_residual.ensures.1 in
    rw (p.1, p.2) (unsaid c.args.text.now c.in_err-lines.field-0.0 c.in_err-lines.ensures.err)

pub returns-in_err-draft-clause-err : goal.returns-in_err-draft-clause-err
returns-in_err-draft-clause-err c =
    let p = err_from_is_err_and c.from_residual-in_err-draft.result c.from_residual-in_err-draft.ensures.1 in
    let fault = c.in_err-draft.field-0.0 in
    let none = subst (λ xs. RefusesLines fault (read_text (map spoken_of xs))) c.as_slice.ensures.value c.in_err-draft.ensures.err in
    rw (p.1, p.2) (unread c.args.text.now (map spoken_of c.in_ok-lines.lines.items) fault c.in_ok-lines.ensures.ok none)

pub returns-in_err-read_all-clause-err : goal.returns-in_err-read_all-clause-err
returns-in_err-read_all-clause-err c =
    let p = err_from_is_err_and c.from_residual-in_err-read_all.result c.from_residual-in_err-read_all.ensures.1 in
    let fault = c.in_err-read_all.field-0.0 in
    let lines = c.in_ok-lines.lines.items in
    let draft = draft_view c.in_ok-draft.draft in
    let rest : map spoken_of c.after_head.result.now ≡ drop 2 (map spoken_of lines) =
    ap (map spoken_of) (c.after_head.ensures ∙ ap (drop 2) c.as_slice-2.ensures.value) ∙ sym (drop-map spoken_of 2 lines) in
    let reads = subst (λ xs. read_text (map spoken_of xs) ≡ read_lines draft (drop 2 (map spoken_of xs))) c.as_slice.ensures.value c.in_ok-draft.ensures.ok in
    let none = subst (λ ss. RefusesLines fault (read_lines draft ss)) rest c.in_err-read_all.ensures.err in
    rw (p.1, p.2)
    (unread c.args.text.now (map spoken_of lines) fault c.in_ok-lines.ensures.ok (subst (λ o. RefusesLines fault o) (sym reads) none))

pub returns-in_err-lines-clause-first : goal.returns-in_err-lines-clause-first
returns-in_err-lines-clause-first c =
    part_or_memory c.from_residual.result c.in_err-lines.field-0.0 (IsFaultOfLines c.args.text.now) (λ fault. IsFaultOfLines c.args.text.now fault ⊎ IsFaultOfLater c.args.text.now fault)
    c.from_residual.ensures.1 (λ h. inl h) c.in_err-lines.ensures.first

pub returns-in_err-draft-clause-first : goal.returns-in_err-draft-clause-first
returns-in_err-draft-clause-first c =
    let p = err_from_is_err_and c.from_residual-in_err-draft.result c.from_residual-in_err-draft.ensures.1 in
    let fault = c.in_err-draft.field-0.0 in
    let spoken = map spoken_of c.in_ok-lines.lines.items in
    let head = subst (λ xs. OrMemory fault (IsFaultOfHead (slice_get (map spoken_of xs) 0) (slice_get (map spoken_of xs) 1) fault)) c.as_slice.ensures.value c.in_err-draft.ensures.first in
    rw (p.1, p.2)
    (or_memory fault (IsFaultOfHead (slice_get spoken 0) (slice_get spoken 1) fault) (IsFaultOfLines c.args.text.now fault ⊎ IsFaultOfLater c.args.text.now fault)
    (λ h. inr (spoken, c.in_ok-lines.ensures.ok, inl h)) head)

pub returns-in_err-read_all-clause-first : goal.returns-in_err-read_all-clause-first
returns-in_err-read_all-clause-first c =
    let p = err_from_is_err_and c.from_residual-in_err-read_all.result c.from_residual-in_err-read_all.ensures.1 in
    let fault = c.in_err-read_all.field-0.0 in
    let lines = c.in_ok-lines.lines.items in
    let draft = draft_view c.in_ok-draft.draft in
    let rest : map spoken_of c.after_head.result.now ≡ drop 2 (map spoken_of lines) =
    ap (map spoken_of) (c.after_head.ensures ∙ ap (drop 2) c.as_slice-2.ensures.value) ∙ sym (drop-map spoken_of 2 lines) in
    let begins = subst (λ xs. BeginsDraft (map spoken_of xs) draft) c.as_slice.ensures.value c.in_ok-draft.ensures.begins in
    let stops = subst (λ ss. OrMemory fault (IsFaultOfForms draft ss fault)) rest c.in_err-read_all.ensures.first in
    rw (p.1, p.2)
    (or_memory fault (IsFaultOfForms draft (drop 2 (map spoken_of lines)) fault) (IsFaultOfLines c.args.text.now fault ⊎ IsFaultOfLater c.args.text.now fault)
    (λ h. inr (map spoken_of lines, c.in_ok-lines.ensures.ok, inr (draft, begins, h))) stops)
