use Rattle.std.proofs.Common.{◌≡◌, true, sym, ◌∙◌, subst, inl, inr}
use Rattle.std.proofs.lemmas.Bool.{both_ways}
use Rattle.std.proofs.lemmas.Option.{same_Some}
use Rattle.std.proofs.lemmas.Result.{on_ok_weaker, on_err_weaker}
use Rattle.algorithm_texts.specs.Drafts.{draft_view, form_of, form_with_place}
use Rattle.algorithm_texts.specs.Usage.{fits}
use Rattle.algorithm_texts.specs.TextFaults.{IsUnfit, unfit_kind}
use Rattle.algorithm_texts.proofs.CallFaults.{kind_same}
use Rattle.algorithm_texts.proofs.RefusedCalls.{on_err}
use Rattle.algorithm_texts.proofs.RunFaults.{both_errs, err_named}
use Rattle.algorithm_texts.proofs.Uses.{fits_same}
use Rattle.algorithm_texts.proofs.lines.Draft.check_form.Goals as goal

pub returns-clause-ok : goal.returns-clause-ok
returns-clause-ok c =
    let promises = c.args.self.now.algorithm.promises in
    let form = form_of c.args.form.now in
    on_ok_weaker c.check_deed.result (λ h. record {
      known = c.in_ok-check_read.ensures.ok;
      free = c.in_ok-check_loops.ensures.ok;
      deed = λ other e. subst (λ x. fits promises c.args.call.call x ≡ true) (same_Some (form_with_place 0 form) other (sym c.requires.there ∙ e)) (fits_same promises c.args.call.call form ∙ h);
    }) c.check_deed.ensures.ok

pub returns-clause-err : goal.returns-clause-err
returns-clause-err c =
    let promises = c.args.self.now.algorithm.promises in
    let form = form_of c.args.form.now in
    on_err_weaker c.check_deed.result
    (λ f h. both_ways (fits promises c.args.call.call form) f (sym (fits_same promises c.args.call.call form) ∙ h.deed (form_with_place 0 form) c.requires.there)) c.check_deed.ensures.err

pub returns-in_err-check_read-clause-err : goal.returns-in_err-check_read-clause-err
returns-in_err-check_read-clause-err c = on_err c.from_residual.result (λ h. c.in_err-check_read.ensures.err h.known)

pub returns-in_err-check_loops-clause-err : goal.returns-in_err-check_loops-clause-err
returns-in_err-check_loops-clause-err c = on_err c.from_residual-in_err-check_loops.result (λ h. c.in_err-check_loops.ensures.err h.free)

pub returns-clause-named : goal.returns-clause-named
returns-clause-named c =
    let promises = c.args.self.now.algorithm.promises in
    let form = form_of c.args.form.now in
    both_errs c.check_deed.result (λ fault. fault ≡ unfit_kind form) (λ fault. IsUnfit (draft_view c.args.self.now) c.args.call c.args.place fault)
    (λ fault unfit named. inr (inr (
      c.in_ok-check_read.ensures.ok,
      c.in_ok-check_loops.ensures.ok,
      (form_with_place 0 form, c.requires.there, fits_same promises c.args.call.call form ∙ unfit, named ∙ sym (kind_same form)),
    ))) c.check_deed.ensures.err c.check_deed.ensures.named

pub returns-in_err-check_read-clause-named : goal.returns-in_err-check_read-clause-named
returns-in_err-check_read-clause-named c =
    err_named c.from_residual.result c.in_err-check_read.field-0.0 (IsUnfit (draft_view c.args.self.now) c.args.call c.args.place) c.from_residual.ensures.1
    (inl (c.in_err-check_read.ensures.err, c.in_err-check_read.ensures.named))

pub returns-in_err-check_loops-clause-named : goal.returns-in_err-check_loops-clause-named
returns-in_err-check_loops-clause-named c =
    err_named c.from_residual-in_err-check_loops.result c.in_err-check_loops.field-0.0 (IsUnfit (draft_view c.args.self.now) c.args.call c.args.place) c.from_residual-in_err-check_loops.ensures.1
    (inr (inl (c.in_ok-check_read.ensures.ok, c.in_err-check_loops.ensures.err, c.in_err-check_loops.ensures.named)))
