use Rattle.std.proofs.Common.{sym, subst, ◌∙◌, inl, inr}
use Rattle.std.proofs.lemmas.Option.{same_Some, none-some}
use Rattle.std.proofs.lemmas.Result.{on_ok_weaker, on_err_weaker, IfErr-weaker}
use Rattle.algorithm_texts.specs.Drafts.{draft_view}
use Rattle.algorithm_texts.specs.Lawful.{LinesFit}
use Rattle.algorithm_texts.specs.TextFaults.{IsFaultOfCall, IsFaultOfLine}
use Rattle.algorithm_texts.proofs.Fits.{call_redirects}
use Rattle.algorithm_texts.proofs.RefusedCalls.{on_err, labels_before, labels_after}
use Rattle.algorithm_texts.proofs.RunFaults.{err_named}
use Rattle.algorithm_texts.proofs.RedirectFaults.{call_found, line_fault_before}
use Rattle.algorithm_texts.proofs.lines.Draft.check_call.Goals as goal

pub returns-clause-led : goal.returns-clause-led
returns-clause-led c = on_ok_weaker c.check_lines.result (λ h. c.in_ok-lead_jumps.ensures.ok) c.check_lines.ensures.ok

pub returns-clause-fits : goal.returns-clause-fits
returns-clause-fits c =
    let labels = labels_after (draft_view c.args.self.now) (draft_view c.lead_jumps.new.self) c.args.call c.in_ok-lead_jumps.ensures.ok c.in_ok-check_labels.ensures.ok in
    on_ok_weaker c.check_lines.result (λ h. record { labels = labels; lines = h }) c.check_lines.ensures.ok

pub returns-clause-err : goal.returns-clause-err
returns-clause-err c =
    on_err_weaker c.check_lines.result
    (λ f d e h. f (λ at inside. (subst (λ x. LinesFit x c.args.call) (same_Some d (draft_view c.lead_jumps.new.self) (sym e ∙ c.in_ok-lead_jumps.ensures.ok)) h).lines at inside))
    c.check_lines.ensures.err

pub returns-in_err-check_labels-clause-err : goal.returns-in_err-check_labels-clause-err
returns-in_err-check_labels-clause-err c =
    on_err c.from_residual.result (λ d e h. c.in_err-check_labels.ensures.err (labels_before (draft_view c.args.self.now) d c.args.call e h))

pub returns-in_err-lead_jumps-clause-err : goal.returns-in_err-lead_jumps-clause-err
returns-in_err-lead_jumps-clause-err c =
    on_err c.from_residual-in_err-lead_jumps.result (λ d e h. none-some d (sym c.in_err-lead_jumps.ensures.err ∙ e))

pub returns-clause-first : goal.returns-clause-first
returns-clause-first c =
    let d = draft_view c.args.self.now in
    let now = draft_view c.lead_jumps.new.self in
    IfErr-weaker c.check_lines.result (λ fault. IsFaultOfLine now c.args.call fault) (λ fault. IsFaultOfCall d c.args.call fault)
    (λ fault h. inr (
      c.in_ok-check_labels.ensures.ok,
      inr (
        call_found d now c.args.call c.in_ok-lead_jumps.ensures.ok,
        line_fault_before d now c.args.call fault (call_redirects d now c.args.call c.in_ok-lead_jumps.ensures.ok) h,
      ),
    ))
    c.check_lines.ensures.first

pub returns-in_err-check_labels-clause-first : goal.returns-in_err-check_labels-clause-first
returns-in_err-check_labels-clause-first c =
    err_named c.from_residual.result c.in_err-check_labels.field-0.0 (IsFaultOfCall (draft_view c.args.self.now) c.args.call) c.from_residual.ensures.1
    (inl c.in_err-check_labels.ensures.first)

pub returns-in_err-lead_jumps-clause-first : goal.returns-in_err-lead_jumps-clause-first
returns-in_err-lead_jumps-clause-first c =
    err_named c.from_residual-in_err-lead_jumps.result c.in_err-lead_jumps.field-0.0 (IsFaultOfCall (draft_view c.args.self.now) c.args.call) c.from_residual-in_err-lead_jumps.ensures.1
    (inr (c.in_ok-check_labels.ensures.ok, inl c.in_err-lead_jumps.ensures.first))
