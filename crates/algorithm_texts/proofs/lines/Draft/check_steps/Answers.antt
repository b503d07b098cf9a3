use Rattle.std.proofs.Common.{◌≡◌, ℕ, true, inr, sym, subst, arith}
use Rattle.algorithms.specs.declared.fault.ReadFault.TheVariants.{NoStep}
use Rattle.std.proofs.lemmas.Result.{on_ok_weaker, IfErr-weaker}
use Rattle.algorithm_texts.specs.Drafts.{draft_view}
use Rattle.algorithm_texts.specs.FinishedDrafts.{is_in}
use Rattle.algorithm_texts.specs.Marks.{SeenMarked}
use Rattle.algorithm_texts.specs.Runs.{StepFirstAt, StepsComeFirst, is_seen}
use Rattle.algorithm_texts.specs.TextFaults.{IsFaultAtFirst, OrMemory}
use Rattle.algorithm_texts.specs.TextLines.{IsRefusalOf}
use Rattle.algorithm_texts.proofs.RunChecks.{passes_line_at}
use Rattle.algorithm_texts.proofs.RunFaults.{step_first}
use Rattle.algorithm_texts.proofs.lines.Draft.check_steps.Goals as goal

pub returns-clause-ok : goal.returns-clause-ok
returns-clause-ok c =
    let d = draft_view c.args.self.now in
    on_ok_weaker c.check_silent.result
    (λ none at within seen h.
    let line = passes_line_at d is_seen at seen in
    none at (record {
      within = within;
      seen = seen;
      marked = subst (λ ms. is_in ms at ≡ true) (sym c.as_slice.ensures.value) (c.in_ok-silent.ensures.all at (omega (arith, line)) h);
    }))
    c.check_silent.ensures.ok

pub returns-clause-err : goal.returns-clause-err
returns-clause-err c =
    let d = draft_view c.args.self.now in
    IfErr-weaker c.check_silent.result (λ fault. (at : ℕ) × SeenMarked d c.args.call c.as_slice.result.now at) (λ fault. IsRefusalOf fault (StepsComeFirst d c.args.call))
    (λ fault w. inr (λ first. first w.0 w.1.within w.1.seen (c.in_ok-silent.ensures.comes w.0 (subst (λ ms. is_in ms w.0 ≡ true) c.as_slice.ensures.value w.1.marked))))
    c.check_silent.ensures.err

pub returns-clause-first : goal.returns-clause-first
returns-clause-first c =
    let d = draft_view c.args.self.now in
    IfErr-weaker c.check_silent.result (λ fault. IsFaultAtFirst d.lines NoStep (λ at. SeenMarked d c.args.call c.as_slice.result.now at → ⊥) fault)
    (λ fault. OrMemory fault (IsFaultAtFirst d.lines NoStep (StepFirstAt d c.args.call) fault))
    (λ fault f. inr (step_first d c.args.call c.as_slice.result.now fault
    (λ at h. c.in_ok-silent.ensures.comes at (subst (λ ms. is_in ms at ≡ true) c.as_slice.ensures.value h))
    (λ at within h. subst (λ ms. is_in ms at ≡ true) (sym c.as_slice.ensures.value) (c.in_ok-silent.ensures.all at within h)) f))
    c.check_silent.ensures.first
