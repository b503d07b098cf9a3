use Rattle.std.proofs.Common.{length}
use Rattle.algorithm_texts.specs.Drafts.{draft_view}
use Rattle.algorithm_texts.specs.Lawful.{LineFits}
use Rattle.algorithm_texts.specs.TextFaults.{IsFaultOfLine}
use Rattle.algorithm_texts.specs.Usage.{uses}
use Rattle.algorithm_texts.proofs.RefusedCalls.{on_err, within}
use Rattle.algorithm_texts.proofs.RunFaults.{err_named, from_first}
use Rattle.algorithm_texts.proofs.RunMarks.{below_next, all_within}
use Rattle.algorithm_texts.proofs.lines.Draft.check_lines.Goals as goal

pub loop-place-preserved : goal.loop-place-preserved
loop-place-preserved c =
    let d = draft_view c.args.self.now in
    below_next (λ at. LineFits (uses d.lines) d.head.promises d.lasting (length d.names) c.args.call at) c.args.call.«from» c.loop-place.place c.loop-place.invariant c.in_ok-check_line.ensures.ok

pub returns-clause-ok : goal.returns-clause-ok
returns-clause-ok c =
    let d = draft_view c.args.self.now in
    all_within (λ at. LineFits (uses d.lines) d.head.promises d.lasting (length d.names) c.args.call at) c.args.call c.loop-place.place c.loop-place.invariant c.loop-place-test.false

pub returns-in_err-check_line-clause-err : goal.returns-in_err-check_line-clause-err
returns-in_err-check_line-clause-err c =
    on_err c.from_residual.result (λ h. c.in_err-check_line.ensures.err (h c.loop-place.place (within c.args.call c.loop-place.place c.loop-place.auto.place c.loop-place-test.true)))

pub returns-in_err-check_line-clause-first : goal.returns-in_err-check_line-clause-first
returns-in_err-check_line-clause-first c =
    let d = draft_view c.args.self.now in
    let named = c.in_err-check_line.ensures.named in
    err_named c.from_residual.result c.in_err-check_line.field-0.0 (IsFaultOfLine d c.args.call) c.from_residual.ensures.1
    (record {
      at = c.loop-place.place;
      first = record {
        fails = λ h. c.in_err-check_line.ensures.err (h (within c.args.call c.loop-place.place c.loop-place.auto.place c.loop-place-test.true));
        before = λ k less inside. c.loop-place.invariant k (from_first c.args.call k inside) less;
      };
      kind = named.0;
      unfit = named.1;
      named = named.2;
    })
