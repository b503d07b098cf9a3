use Rattle.std.proofs.Common.{◌+◌, map, drop, ap, ◌∙◌}
use Rattle.algorithm_texts.specs.Drafts.{draft_view}
use Rattle.algorithm_texts.specs.TextDrafts.{read_lines}
use Rattle.algorithm_texts.specs.TextFaults.{IsFaultOfForms, OrMemory}
use Rattle.algorithm_texts.specs.TextLines.{spoken_of}
use Rattle.algorithm_texts.proofs.FormFaults.{forms_on, forms_stop, next_line}
use Rattle.algorithm_texts.proofs.RunFaults.{err_named}
use Rattle.algorithm_texts.proofs.drafts.read_all.Goals as goal

pub loop-line-preserved : goal.loop-line-preserved
loop-line-preserved c =
    let lines = c.args.lines.now in
    let i = c.loop-line.line-index in
    let line = c.line-item.result in
    let d = draft_view c.loop-line.draft in
    record {
      made = c.loop-line.invariant.made
          ∙ ap (λ ss. read_lines d ss) (next_line lines i line c.loop-line-test.true c.line-item.is)
          ∙ c.in_ok-read_line.ensures.ok (map spoken_of (drop (i + 1) lines));
      faults = λ fault. forms_on lines i line (draft_view c.args.draft.now) d (draft_view c.read_line.new.draft) fault c.loop-line-test.true c.line-item.is c.in_ok-read_line.ensures.made
          (c.loop-line.invariant.faults fault);
    }

pub returns-in_err-read_line-clause-first : goal.returns-in_err-read_line-clause-first
returns-in_err-read_line-clause-first c =
    let lines = c.args.lines.now in
    let d = draft_view c.args.draft.now in
    let fault = c.in_err-read_line.field-0.0 in
    err_named c.from_residual.result fault (λ f. OrMemory f (IsFaultOfForms d (map spoken_of lines) f)) c.from_residual.ensures.1
    (forms_stop lines c.loop-line.line-index c.line-item.result d (draft_view c.loop-line.draft) fault c.loop-line-test.true c.line-item.is (c.loop-line.invariant.faults fault)
    c.in_err-read_line.ensures.first)
