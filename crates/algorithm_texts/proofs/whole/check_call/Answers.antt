use Rattle.std.proofs.Common.{sym, ◌∙◌}
use Rattle.std.proofs.lemmas.Result.{on_err_weaker, IfErr-weaker}
use Rattle.algorithm_texts.specs.Drafts.{draft_view}
use Rattle.algorithm_texts.specs.TextFaults.{IsFaultOfCall, IsFaultOfKindCall}
use Rattle.algorithm_texts.proofs.Fits.{on_both, one_fits, none_fits}
use Rattle.algorithm_texts.proofs.RefusedCalls.{kind_refused}
use Rattle.algorithm_texts.proofs.whole.check_call.Goals as goal

pub returns-in-Some-clause-fits : goal.returns-in-Some-clause-fits
returns-in-Some-clause-fits c =
    on_both c.check_call.result (one_fits (draft_view c.args.draft.now) (draft_view c.check_call.new.self) c.args.call c.in-Some.read (sym c.call_of.ensures ∙ c.in-Some.is))
    c.check_call.ensures.led c.check_call.ensures.fits

pub returns-in-Some-clause-err : goal.returns-in-Some-clause-err
returns-in-Some-clause-err c =
    on_err_weaker c.check_call.result (λ f d. kind_refused (draft_view c.args.draft.now) d c.args.call c.in-Some.read (sym c.call_of.ensures ∙ c.in-Some.is) f) c.check_call.ensures.err

pub returns-in-None-clause-fits : goal.returns-in-None-clause-fits
returns-in-None-clause-fits c = none_fits (draft_view c.args.draft.now) c.args.call (sym c.call_of.ensures ∙ c.in-None.is)

pub returns-in-Some-clause-first : goal.returns-in-Some-clause-first
returns-in-Some-clause-first c =
    let d = draft_view c.args.draft.now in
    IfErr-weaker c.check_call.result (λ fault. IsFaultOfCall d c.in-Some.read fault) (λ fault. IsFaultOfKindCall d fault c.args.call)
    (λ fault h. (c.in-Some.read, sym c.call_of.ensures ∙ c.in-Some.is, h)) c.check_call.ensures.first
