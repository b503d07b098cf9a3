use Rattle.std.proofs.Common.{◌≡◌, ◌⊎◌, List, ap, inl, inr}
use Rattle.std.proofs.lemmas.Result.{on_ok_weaker, IfErr-weaker}
use Rattle.algorithms.specs.Faults.{fault_of}
use Rattle.algorithms.specs.declared.fault.ReadFault.TheVariants.{Endless}
use Rattle.algorithm_texts.specs.Drafts.{PlacedLine, draft_view}
use Rattle.algorithm_texts.specs.Runs.{AllRuns}
use Rattle.algorithm_texts.specs.TextFaults.{IsFaultOfAllRuns, IsFaultOfWays, OrMemory}
use Rattle.algorithm_texts.specs.TextLines.{IsRefusalOf}
use Rattle.algorithm_texts.specs.UnreachedLines.{EndUnreached}
use Rattle.algorithm_texts.proofs.Falls.{local_lines_end, accesses_lead_on}
use Rattle.algorithm_texts.proofs.Fits.{on_both}
use Rattle.algorithm_texts.proofs.RunChecks.{part_refused}
use Rattle.algorithm_texts.proofs.RunFaults.{both_errs, part_or_memory}
use Rattle.algorithm_texts.proofs.whole.check_flow.Goals as goal

pub returns-clause-runs : goal.returns-clause-runs
returns-clause-runs c = on_ok_weaker c.end_ways.result (λ h. c.in_ok-marks.ensures.runs) c.end_ways.ensures.lines

pub returns-clause-ends : goal.returns-clause-ends
returns-clause-ends c =
    on_both c.end_ways.result
    (λ lines kept. local_lines_end (draft_view c.args.draft.now) c.end_ways.new.draft.algorithm c.in_ok-marks.ensures.runs lines (ap (λ d. d.head.least) kept))
    c.end_ways.ensures.lines c.end_ways.ensures.kept

pub returns-clause-leads : goal.returns-clause-leads
returns-clause-leads c =
    on_both c.end_ways.result
    (λ lines kept. accesses_lead_on (draft_view c.args.draft.now) c.end_ways.new.draft.algorithm c.in_ok-marks.ensures.runs lines (ap (λ d. d.head.least) kept))
    c.end_ways.ensures.lines c.end_ways.ensures.kept

pub returns-clause-err : goal.returns-clause-err
returns-clause-err c =
    let d = draft_view c.args.draft.now in
    IfErr-weaker c.end_ways.result (λ fault. (lines : List PlacedLine) → EndUnreached d lines → ⊥)
    (λ fault. IsRefusalOf fault (AllRuns d × ((lines : List PlacedLine) × EndUnreached d lines)))
    (λ fault none. inr (λ h. none h.1.0 h.1.1)) c.end_ways.ensures.err

pub returns-in_err-marks-clause-err : goal.returns-in_err-marks-clause-err
returns-in_err-marks-clause-err c =
    let d = draft_view c.args.draft.now in
    part_refused c.from_residual.result c.in_err-marks.field-0.0 (AllRuns d) (AllRuns d × ((lines : List PlacedLine) × EndUnreached d lines)) c.from_residual.ensures.1
    (λ h. h.0) c.in_err-marks.ensures.err

pub returns-clause-first : goal.returns-clause-first
returns-clause-first c =
    let d = draft_view c.args.draft.now in
    both_errs c.end_ways.result (λ fault. fault ≡ fault_of d.number Endless) (λ fault. OrMemory fault (IsFaultOfAllRuns d fault ⊎ (AllRuns d × IsFaultOfWays d fault)))
    (λ fault none named. inr (inr (c.in_ok-marks.ensures.runs, (none, named)))) c.end_ways.ensures.err c.end_ways.ensures.named

pub returns-in_err-marks-clause-first : goal.returns-in_err-marks-clause-first
returns-in_err-marks-clause-first c =
    let d = draft_view c.args.draft.now in
    part_or_memory c.from_residual.result c.in_err-marks.field-0.0 (IsFaultOfAllRuns d) (λ fault. IsFaultOfAllRuns d fault ⊎ (AllRuns d × IsFaultOfWays d fault)) c.from_residual.ensures.1
    (λ h. inl h) c.in_err-marks.ensures.first
