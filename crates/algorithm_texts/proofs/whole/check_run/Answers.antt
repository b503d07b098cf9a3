use Rattle.std.proofs.Common.{inl, sym, ◌∙◌, subst}
use Rattle.algorithm_texts.specs.Drafts.{draft_view}
use Rattle.algorithm_texts.specs.Marks.{MarksReached}
use Rattle.algorithm_texts.specs.Runs.{KindRuns, RunsFit}
use Rattle.algorithm_texts.specs.TextFaults.{IsFaultOfKindRuns, IsFaultOfRuns}
use Rattle.algorithm_texts.proofs.Fits.{one_runs, none_runs}
use Rattle.algorithm_texts.proofs.RunChecks.{kind_marks, kind_comes, none_comes, part_refused}
use Rattle.algorithm_texts.proofs.RunFaults.{part_or_memory}
use Rattle.algorithm_texts.proofs.whole.check_run.Goals as goal

pub returns-in_ok-reached-in-Some-clause-runs : goal.returns-in_ok-reached-in-Some-clause-runs
returns-in_ok-reached-in-Some-clause-runs c = one_runs (draft_view c.args.draft.now) c.args.call c.in-Some.read (sym c.call_of.ensures ∙ c.in-Some.is) c.in_ok-reached-in-Some.ensures.ok

pub returns-in_ok-reached-in-Some-clause-marked : goal.returns-in_ok-reached-in-Some-clause-marked
returns-in_ok-reached-in-Some-clause-marked c =
    let d = draft_view c.args.draft.now in
    kind_marks d c.args.call c.in-Some.read c.as_slice.result.now c.mark_all.new.marks (sym c.call_of.ensures ∙ c.in-Some.is)
    (subst (λ ms. MarksReached d c.in-Some.read ms) (sym c.as_slice.ensures.value) c.in_ok-reached-in-Some.ensures.marks)
    (c.in_ok-reached-in-Some.ensures.ok).stays (c.mark_all.ensures.size ∙ c.requires) c.mark_all.ensures.marked

pub returns-in_ok-reached-in-Some-clause-comes : goal.returns-in_ok-reached-in-Some-clause-comes
returns-in_ok-reached-in-Some-clause-comes c =
    let d = draft_view c.args.draft.now in
    kind_comes d c.args.call c.in-Some.read c.as_slice.result.now c.args.marks.now c.mark_all.new.marks (sym c.call_of.ensures ∙ c.in-Some.is)
    (subst (λ ms. MarksReached d c.in-Some.read ms) (sym c.as_slice.ensures.value) c.in_ok-reached-in-Some.ensures.marks)
    c.mark_all.ensures.comes

pub returns-in-None-clause-runs : goal.returns-in-None-clause-runs
returns-in-None-clause-runs c = none_runs (draft_view c.args.draft.now) c.args.call (sym c.call_of.ensures ∙ c.in-None.is)

pub returns-in-None-clause-marked : goal.returns-in-None-clause-marked
returns-in-None-clause-marked c = λ at h. absurd (none_comes (draft_view c.args.draft.now) c.args.call at (sym c.call_of.ensures ∙ c.in-None.is) h)

pub returns-in-None-clause-comes : goal.returns-in-None-clause-comes
returns-in-None-clause-comes c = λ at h. inl h

pub returns-in_err-reached-in-Some-clause-err : goal.returns-in_err-reached-in-Some-clause-err
returns-in_err-reached-in-Some-clause-err c =
    let d = draft_view c.args.draft.now in
    part_refused c.from_residual.result c.in_err-reached-in-Some.field-0.0 (RunsFit d c.in-Some.read) (KindRuns d c.args.call) c.from_residual.ensures.1
    (λ runs. runs c.in-Some.read (sym c.call_of.ensures ∙ c.in-Some.is)) c.in_err-reached-in-Some.ensures.err

pub returns-in_err-reached-in-Some-clause-first : goal.returns-in_err-reached-in-Some-clause-first
returns-in_err-reached-in-Some-clause-first c =
    let d = draft_view c.args.draft.now in
    part_or_memory c.from_residual.result c.in_err-reached-in-Some.field-0.0 (IsFaultOfRuns d c.in-Some.read) (λ fault. IsFaultOfKindRuns d fault c.args.call) c.from_residual.ensures.1
    (λ h. (c.in-Some.read, sym c.call_of.ensures ∙ c.in-Some.is, h)) c.in_err-reached-in-Some.ensures.first
