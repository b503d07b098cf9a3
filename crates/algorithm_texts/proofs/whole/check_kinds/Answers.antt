use Rattle.std.proofs.Common.{◌≡◌, ◌⊎◌, ℕ, true, inl, inr}
use Rattle.std.proofs.lemmas.Result.{on_ok_weaker, IfErr-weaker}
use Rattle.algorithms.specs.declared.algorithm.AlgorithmCall.TheVariants.{Lock, Unlock, Recover, Withdraw}
use Rattle.algorithm_texts.specs.Drafts.{draft_view}
use Rattle.algorithm_texts.specs.FinishedDrafts.{is_in}
use Rattle.algorithm_texts.specs.Runs.{AllRuns, KindComesTo, KindRuns}
use Rattle.algorithm_texts.specs.TextFaults.{IsFaultOfAllRuns, IsFaultOfKindRuns, OrMemory}
use Rattle.algorithm_texts.specs.TextLines.{IsRefusalOf}
use Rattle.algorithm_texts.proofs.Fits.{all_run, on_both}
use Rattle.algorithm_texts.proofs.RunChecks.{marks_of_all, refused_part, part_refused}
use Rattle.algorithm_texts.proofs.RunFaults.{or_memory, part_or_memory}
use Rattle.algorithm_texts.proofs.whole.check_kinds.Goals as goal

pub returns-clause-runs : goal.returns-clause-runs
returns-clause-runs c =
    on_ok_weaker c.check_run-4.result
    (λ withdraw. all_run (draft_view c.args.draft.now) c.in_ok-check_run.ensures.runs c.in_ok-check_run-2.ensures.runs c.in_ok-check_run-3.ensures.runs withdraw)
    c.check_run-4.ensures.runs

pub returns-clause-marks : goal.returns-clause-marks
returns-clause-marks c =
    let a = c.in_ok-check_run.ensures in
    let b = c.in_ok-check_run-2.ensures in
    let e = c.in_ok-check_run-3.ensures in
    let d = draft_view c.args.draft.now in
    let before = c.check_run-3.new.marks in
    let last = c.check_run-4.new.marks in
    on_both c.check_run-4.result
    (λ kept (rest : ((at : ℕ) → KindComesTo d Withdraw at → is_in last at ≡ true) × ((at : ℕ) → is_in last at ≡ true → (is_in before at ≡ true) ⊎ KindComesTo d Withdraw at)).
    marks_of_all (draft_view c.args.draft.now) c.args.marks.now c.check_run.new.marks c.check_run-2.new.marks c.check_run-3.new.marks c.check_run-4.new.marks c.requires.none
    b.kept e.kept kept a.marked b.marked e.marked rest.0 a.comes b.comes e.comes rest.1)
    c.check_run-4.ensures.kept (on_both c.check_run-4.result (λ marked comes. (marked, comes)) c.check_run-4.ensures.marked c.check_run-4.ensures.comes)

pub returns-clause-err : goal.returns-clause-err
returns-clause-err c =
    let d = draft_view c.args.draft.now in
    IfErr-weaker c.check_run-4.result (λ fault. IsRefusalOf fault (KindRuns d Withdraw)) (λ fault. IsRefusalOf fault (AllRuns d))
    (λ fault. refused_part fault (KindRuns d Withdraw) (AllRuns d) (λ all. all Withdraw)) c.check_run-4.ensures.err

pub returns-in_err-check_run-clause-err : goal.returns-in_err-check_run-clause-err
returns-in_err-check_run-clause-err c =
    let d = draft_view c.args.draft.now in
    part_refused c.from_residual.result c.in_err-check_run.field-0.0 (KindRuns d Lock) (AllRuns d) c.from_residual.ensures.1 (λ all. all Lock) c.in_err-check_run.ensures.err

pub returns-in_err-check_run-2-clause-err : goal.returns-in_err-check_run-2-clause-err
returns-in_err-check_run-2-clause-err c =
    let d = draft_view c.args.draft.now in
    part_refused c.from_residual-in_err-check_run-2.result c.in_err-check_run-2.field-0.0 (KindRuns d Unlock) (AllRuns d) c.from_residual-in_err-check_run-2.ensures.1 (λ all. all Unlock) c.in_err-check_run-2.ensures.err

pub returns-in_err-check_run-3-clause-err : goal.returns-in_err-check_run-3-clause-err
returns-in_err-check_run-3-clause-err c =
    let d = draft_view c.args.draft.now in
    part_refused c.from_residual-in_err-check_run-3.result c.in_err-check_run-3.field-0.0 (KindRuns d Recover) (AllRuns d) c.from_residual-in_err-check_run-3.ensures.1 (λ all. all Recover) c.in_err-check_run-3.ensures.err

pub returns-clause-first : goal.returns-clause-first
returns-clause-first c =
    let d = draft_view c.args.draft.now in
    IfErr-weaker c.check_run-4.result (λ fault. OrMemory fault (IsFaultOfKindRuns d fault Withdraw)) (λ fault. OrMemory fault (IsFaultOfAllRuns d fault))
    (λ fault. or_memory fault (IsFaultOfKindRuns d fault Withdraw) (IsFaultOfAllRuns d fault)
    (λ h. inr (c.in_ok-check_run.ensures.runs, inr (c.in_ok-check_run-2.ensures.runs, inr (c.in_ok-check_run-3.ensures.runs, inl h))))) c.check_run-4.ensures.first

pub returns-in_err-check_run-clause-first : goal.returns-in_err-check_run-clause-first
returns-in_err-check_run-clause-first c =
    let d = draft_view c.args.draft.now in
    part_or_memory c.from_residual.result c.in_err-check_run.field-0.0 (λ fault. IsFaultOfKindRuns d fault Lock) (IsFaultOfAllRuns d) c.from_residual.ensures.1 (λ h. inl h)
    c.in_err-check_run.ensures.first

pub returns-in_err-check_run-2-clause-first : goal.returns-in_err-check_run-2-clause-first
returns-in_err-check_run-2-clause-first c =
    let d = draft_view c.args.draft.now in
    part_or_memory c.from_residual-in_err-check_run-2.result c.in_err-check_run-2.field-0.0 (λ fault. IsFaultOfKindRuns d fault Unlock) (IsFaultOfAllRuns d) c.from_residual-in_err-check_run-2.ensures.1 (λ h. inr (c.in_ok-check_run.ensures.runs, inl h))
    c.in_err-check_run-2.ensures.first

pub returns-in_err-check_run-3-clause-first : goal.returns-in_err-check_run-3-clause-first
returns-in_err-check_run-3-clause-first c =
    let d = draft_view c.args.draft.now in
    part_or_memory c.from_residual-in_err-check_run-3.result c.in_err-check_run-3.field-0.0 (λ fault. IsFaultOfKindRuns d fault Recover) (IsFaultOfAllRuns d) c.from_residual-in_err-check_run-3.ensures.1 (λ h. inr (c.in_ok-check_run.ensures.runs, inr (c.in_ok-check_run-2.ensures.runs, inl h)))
    c.in_err-check_run-3.ensures.first
