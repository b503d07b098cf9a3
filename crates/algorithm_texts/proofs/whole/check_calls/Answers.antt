use Rattle.std.proofs.Common.{sym, ap, ◌∙◌, inl, inr}
use Rattle.std.proofs.lemmas.Option.{none-some}
use Rattle.std.proofs.lemmas.Result.{on_ok_weaker, on_err_weaker, IfErr-weaker}
use Rattle.algorithms.specs.declared.algorithm.AlgorithmCall.TheVariants.{Lock, Unlock, Recover, Withdraw}
use Rattle.algorithm_texts.specs.Drafts.{draft_view}
use Rattle.algorithm_texts.specs.Parts.{◌>>=◌}
use Rattle.algorithm_texts.specs.FinishedDrafts.{kind_led, with_entries}
use Rattle.algorithm_texts.specs.TextFaults.{IsFaultOfAllCalls, IsFaultOfWithdraw}
use Rattle.algorithm_texts.proofs.DraftFaults.{kinds_fault, kinds_fit, of_lock, of_unlock, of_recover, of_withdraw, withdraw_found, withdraws_fault}
use Rattle.algorithm_texts.proofs.Fits.{all_fit}
use Rattle.algorithm_texts.proofs.RefusedCalls.{on_err, after_unlock, after_lock, after_entries, after_step, kind_before, before_unlocked, before_locked, step_refused, filled_after, filled_before, withdraw_refused}
use Rattle.algorithm_texts.proofs.RunFaults.{err_named}
use Rattle.algorithm_texts.proofs.whole.check_calls.Goals as goal

pub returns-clause-fit : goal.returns-clause-fit
returns-clause-fit c =
    let begun = draft_view c.set_entries.new.draft in
    let lock = draft_view c.check_call.new.draft in
    let unlock = draft_view c.check_call-2.new.draft in
    let recover = draft_view c.check_call-3.new.draft in
    let last = draft_view c.check_call-4.new.draft in
    on_ok_weaker c.check_withdraw.result
    (λ h. record {
      filled = filled_after (draft_view c.args.draft.now) begun lock unlock recover last c.in_ok-set_entries.ensures.ok c.in_ok-check_call.ensures.led c.in_ok-check_call-2.ensures.led
          c.in_ok-check_call-3.ensures.led c.in_ok-check_call-4.ensures.led c.in_ok-check_filled.ensures.ok;
      lines = all_fit begun lock unlock recover last c.in_ok-check_call.ensures.led c.in_ok-check_call-2.ensures.led c.in_ok-check_call-3.ensures.led c.in_ok-check_call-4.ensures.led
          c.in_ok-check_call.ensures.fits c.in_ok-check_call-2.ensures.fits c.in_ok-check_call-3.ensures.fits c.in_ok-check_call-4.ensures.fits;
      withdraw = h;
    })
    c.check_withdraw.ensures.ok

pub returns-clause-err : goal.returns-clause-err
returns-clause-err c =
    let begun = draft_view c.set_entries.new.draft in
    let lock = draft_view c.check_call.new.draft in
    let unlock = draft_view c.check_call-2.new.draft in
    let recover = draft_view c.check_call-3.new.draft in
    let last = draft_view c.check_call-4.new.draft in
    on_err_weaker c.check_withdraw.result
    (λ f d e. withdraw_refused recover last d c.in_ok-check_call-4.ensures.led
    (after_step (kind_led Recover unlock) (kind_led Withdraw) recover d c.in_ok-check_call-3.ensures.led
    (after_step (kind_led Unlock lock) after_unlock unlock d c.in_ok-check_call-2.ensures.led
    (after_step (kind_led Lock begun) after_lock lock d c.in_ok-check_call.ensures.led
    (after_step (with_entries (draft_view c.args.draft.now)) after_entries begun d c.in_ok-set_entries.ensures.ok e))))
    f) c.check_withdraw.ensures.err

pub returns-in_err-check_filled-clause-err : goal.returns-in_err-check_filled-clause-err
returns-in_err-check_filled-clause-err c =
    on_err c.from_residual.result (λ d e h. c.in_err-check_filled.ensures.err (filled_before (draft_view c.args.draft.now) d e h))

pub returns-in_err-set_entries-clause-err : goal.returns-in_err-set_entries-clause-err
returns-in_err-set_entries-clause-err c =
    on_err c.from_residual-in_err-set_entries.result (λ d e h. none-some d (sym (ap (λ o. o >>= after_entries) c.in_err-set_entries.ensures.err) ∙ e))

pub returns-in_err-check_call-clause-err : goal.returns-in_err-check_call-clause-err
returns-in_err-check_call-clause-err c =
    let begun = draft_view c.set_entries.new.draft in
    on_err c.from_residual-in_err-check_call.result
    (λ d e h. step_refused Lock begun d after_lock (λ x. before_locked Lock x d) c.in_err-check_call.ensures.err
    (after_step (with_entries (draft_view c.args.draft.now)) after_entries begun d c.in_ok-set_entries.ensures.ok e) (h.lines Lock))

pub returns-in_err-check_call-2-clause-err : goal.returns-in_err-check_call-2-clause-err
returns-in_err-check_call-2-clause-err c =
    let begun = draft_view c.set_entries.new.draft in
    let lock = draft_view c.check_call.new.draft in
    on_err c.from_residual-in_err-check_call-2.result
    (λ d e h. step_refused Unlock lock d after_unlock (λ x. before_unlocked Unlock x d) c.in_err-check_call-2.ensures.err
    (after_step (kind_led Lock begun) after_lock lock d c.in_ok-check_call.ensures.led
    (after_step (with_entries (draft_view c.args.draft.now)) after_entries begun d c.in_ok-set_entries.ensures.ok e)) (h.lines Unlock))

pub returns-in_err-check_call-3-clause-err : goal.returns-in_err-check_call-3-clause-err
returns-in_err-check_call-3-clause-err c =
    let begun = draft_view c.set_entries.new.draft in
    let lock = draft_view c.check_call.new.draft in
    let unlock = draft_view c.check_call-2.new.draft in
    on_err c.from_residual-in_err-check_call-3.result
    (λ d e h. step_refused Recover unlock d (kind_led Withdraw) (λ x. kind_before Recover Withdraw x d) c.in_err-check_call-3.ensures.err
    (after_step (kind_led Unlock lock) after_unlock unlock d c.in_ok-check_call-2.ensures.led
    (after_step (kind_led Lock begun) after_lock lock d c.in_ok-check_call.ensures.led
    (after_step (with_entries (draft_view c.args.draft.now)) after_entries begun d c.in_ok-set_entries.ensures.ok e))) (h.lines Recover))

pub returns-in_err-check_call-4-clause-err : goal.returns-in_err-check_call-4-clause-err
returns-in_err-check_call-4-clause-err c =
    let begun = draft_view c.set_entries.new.draft in
    let lock = draft_view c.check_call.new.draft in
    let unlock = draft_view c.check_call-2.new.draft in
    let recover = draft_view c.check_call-3.new.draft in
    on_err c.from_residual-in_err-check_call-4.result
    (λ d e h. c.in_err-check_call-4.ensures.err d
    (after_step (kind_led Recover unlock) (kind_led Withdraw) recover d c.in_ok-check_call-3.ensures.led
    (after_step (kind_led Unlock lock) after_unlock unlock d c.in_ok-check_call-2.ensures.led
    (after_step (kind_led Lock begun) after_lock lock d c.in_ok-check_call.ensures.led
    (after_step (with_entries (draft_view c.args.draft.now)) after_entries begun d c.in_ok-set_entries.ensures.ok e)))) (h.lines Withdraw))

pub returns-in_err-check_filled-clause-first : goal.returns-in_err-check_filled-clause-first
returns-in_err-check_filled-clause-first c =
    err_named c.from_residual.result c.in_err-check_filled.field-0.0 (IsFaultOfAllCalls (draft_view c.args.draft.now)) c.from_residual.ensures.1 (inl c.in_err-check_filled.ensures.first)

pub returns-in_err-set_entries-clause-first : goal.returns-in_err-set_entries-clause-first
returns-in_err-set_entries-clause-first c =
    err_named c.from_residual-in_err-set_entries.result c.in_err-set_entries.field-0.0 (IsFaultOfAllCalls (draft_view c.args.draft.now)) c.from_residual-in_err-set_entries.ensures.1
    (inr (c.in_ok-check_filled.ensures.ok, inl c.in_err-set_entries.ensures.named))

pub returns-in_err-check_call-clause-first : goal.returns-in_err-check_call-clause-first
returns-in_err-check_call-clause-first c =
    let d = draft_view c.args.draft.now in
    let begun = draft_view c.set_entries.new.draft in
    let fault = c.in_err-check_call.field-0.0 in
    err_named c.from_residual-in_err-check_call.result fault (IsFaultOfAllCalls d) c.from_residual-in_err-check_call.ensures.1
    (kinds_fault d begun fault c.in_ok-check_filled.ensures.ok c.in_ok-set_entries.ensures.ok (of_lock d begun fault c.in_ok-set_entries.ensures.ok c.in_err-check_call.ensures.first))

pub returns-in_err-check_call-2-clause-first : goal.returns-in_err-check_call-2-clause-first
returns-in_err-check_call-2-clause-first c =
    let d = draft_view c.args.draft.now in
    let begun = draft_view c.set_entries.new.draft in
    let lock = draft_view c.check_call.new.draft in
    let fault = c.in_err-check_call-2.field-0.0 in
    err_named c.from_residual-in_err-check_call-2.result fault (IsFaultOfAllCalls d) c.from_residual-in_err-check_call-2.ensures.1
    (kinds_fault d begun fault c.in_ok-check_filled.ensures.ok c.in_ok-set_entries.ensures.ok
    (of_unlock d begun lock fault c.in_ok-set_entries.ensures.ok c.in_ok-check_call.ensures.led c.in_ok-check_call.ensures.fits c.in_err-check_call-2.ensures.first))

pub returns-in_err-check_call-3-clause-first : goal.returns-in_err-check_call-3-clause-first
returns-in_err-check_call-3-clause-first c =
    let d = draft_view c.args.draft.now in
    let begun = draft_view c.set_entries.new.draft in
    let lock = draft_view c.check_call.new.draft in
    let unlock = draft_view c.check_call-2.new.draft in
    let fault = c.in_err-check_call-3.field-0.0 in
    err_named c.from_residual-in_err-check_call-3.result fault (IsFaultOfAllCalls d) c.from_residual-in_err-check_call-3.ensures.1
    (kinds_fault d begun fault c.in_ok-check_filled.ensures.ok c.in_ok-set_entries.ensures.ok
    (of_recover d begun lock unlock fault c.in_ok-set_entries.ensures.ok c.in_ok-check_call.ensures.led c.in_ok-check_call-2.ensures.led c.in_ok-check_call.ensures.fits c.in_ok-check_call-2.ensures.fits c.in_err-check_call-3.ensures.first))

pub returns-in_err-check_call-4-clause-first : goal.returns-in_err-check_call-4-clause-first
returns-in_err-check_call-4-clause-first c =
    let d = draft_view c.args.draft.now in
    let begun = draft_view c.set_entries.new.draft in
    let lock = draft_view c.check_call.new.draft in
    let unlock = draft_view c.check_call-2.new.draft in
    let recover = draft_view c.check_call-3.new.draft in
    let fault = c.in_err-check_call-4.field-0.0 in
    err_named c.from_residual-in_err-check_call-4.result fault (IsFaultOfAllCalls d) c.from_residual-in_err-check_call-4.ensures.1
    (kinds_fault d begun fault c.in_ok-check_filled.ensures.ok c.in_ok-set_entries.ensures.ok
    (of_withdraw d begun lock unlock recover fault c.in_ok-set_entries.ensures.ok c.in_ok-check_call.ensures.led c.in_ok-check_call-2.ensures.led c.in_ok-check_call-3.ensures.led
    c.in_ok-check_call.ensures.fits c.in_ok-check_call-2.ensures.fits c.in_ok-check_call-3.ensures.fits c.in_err-check_call-4.ensures.first))

pub returns-clause-first : goal.returns-clause-first
returns-clause-first c =
    let d = draft_view c.args.draft.now in
    let begun = draft_view c.set_entries.new.draft in
    let lock = draft_view c.check_call.new.draft in
    let unlock = draft_view c.check_call-2.new.draft in
    let recover = draft_view c.check_call-3.new.draft in
    let last = draft_view c.check_call-4.new.draft in
    IfErr-weaker c.check_withdraw.result (λ fault. IsFaultOfWithdraw last fault) (λ fault. IsFaultOfAllCalls d fault)
    (λ fault h. withdraws_fault d begun fault c.in_ok-check_filled.ensures.ok c.in_ok-set_entries.ensures.ok
    (kinds_fit d begun lock unlock recover last c.in_ok-set_entries.ensures.ok c.in_ok-check_call.ensures.led c.in_ok-check_call-2.ensures.led c.in_ok-check_call-3.ensures.led c.in_ok-check_call-4.ensures.led
    c.in_ok-check_call.ensures.fits c.in_ok-check_call-2.ensures.fits c.in_ok-check_call-3.ensures.fits c.in_ok-check_call-4.ensures.fits)
    (withdraw_found d begun lock unlock recover last fault c.in_ok-set_entries.ensures.ok c.in_ok-check_call.ensures.led c.in_ok-check_call-2.ensures.led c.in_ok-check_call-3.ensures.led c.in_ok-check_call-4.ensures.led h))
    c.check_withdraw.ensures.first
