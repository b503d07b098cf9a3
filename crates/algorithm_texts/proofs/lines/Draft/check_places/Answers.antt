use Rattle.std.proofs.Common.{inl, inr}
use Rattle.std.proofs.lemmas.Result.{on_ok_weaker, IfErr-weaker}
use Rattle.algorithms.specs.declared.fault.ReadFault.TheVariants.{Endless, NeverReached, NoStep, Unset}
use Rattle.algorithm_texts.specs.Drafts.{draft_view}
use Rattle.algorithm_texts.specs.Runs.{EachIsReached, LineReachedAt, NamesSetAt, NoneReturns, NotOnRound, RunsFit, RunsSet, RunsStay, StepFirstAt, StepsComeFirst}
use Rattle.algorithm_texts.specs.TextFaults.{IsFaultAtFirst, IsFaultOfEnd, IsFaultOfRuns, OrMemory}
use Rattle.algorithm_texts.specs.TextLines.{IsRefusalOf}
use Rattle.algorithm_texts.proofs.RunChecks.{refused_part, part_refused}
use Rattle.algorithm_texts.proofs.RunFaults.{or_memory, part_or_memory}
use Rattle.algorithm_texts.proofs.lines.Draft.check_places.Goals as goal

pub returns-clause-ok : goal.returns-clause-ok
returns-clause-ok c =
    on_ok_weaker c.check_steps.result
    (λ steps. record {
      reached = c.in_ok-check_reached.ensures.ok;
      stays = c.in_ok-check_end.ensures.ok;
      set = c.in_ok-check_set.ensures.ok;
      returns = c.in_ok-check_ends.ensures.ok;
      steps = steps;
    })
    c.check_steps.ensures.ok

pub returns-clause-err : goal.returns-clause-err
returns-clause-err c =
    let d = draft_view c.args.self.now in
    IfErr-weaker c.check_steps.result (λ fault. IsRefusalOf fault (StepsComeFirst d c.args.call)) (λ fault. IsRefusalOf fault (RunsFit d c.args.call))
    (λ fault. refused_part fault (StepsComeFirst d c.args.call) (RunsFit d c.args.call) (λ fits. fits.steps)) c.check_steps.ensures.err

pub returns-in_err-check_reached-clause-err : goal.returns-in_err-check_reached-clause-err
returns-in_err-check_reached-clause-err c =
    let d = draft_view c.args.self.now in
    part_refused c.from_residual.result c.in_err-check_reached.field-0.0 (EachIsReached d c.args.call) (RunsFit d c.args.call) c.from_residual.ensures.1 (λ fits. fits.reached) c.in_err-check_reached.ensures.err

pub returns-in_err-check_end-clause-err : goal.returns-in_err-check_end-clause-err
returns-in_err-check_end-clause-err c =
    let d = draft_view c.args.self.now in
    part_refused c.from_residual-in_err-check_end.result c.in_err-check_end.field-0.0 (RunsStay d c.args.call) (RunsFit d c.args.call) c.from_residual-in_err-check_end.ensures.1 (λ fits. fits.stays) c.in_err-check_end.ensures.err

pub returns-in_err-check_set-clause-err : goal.returns-in_err-check_set-clause-err
returns-in_err-check_set-clause-err c =
    let d = draft_view c.args.self.now in
    part_refused c.from_residual-in_err-check_set.result c.in_err-check_set.field-0.0 (RunsSet d c.args.call) (RunsFit d c.args.call) c.from_residual-in_err-check_set.ensures.1 (λ fits. fits.set) c.in_err-check_set.ensures.err

pub returns-in_err-check_ends-clause-err : goal.returns-in_err-check_ends-clause-err
returns-in_err-check_ends-clause-err c =
    let d = draft_view c.args.self.now in
    part_refused c.from_residual-in_err-check_ends.result c.in_err-check_ends.field-0.0 (NoneReturns d c.args.call) (RunsFit d c.args.call) c.from_residual-in_err-check_ends.ensures.1 (λ fits. fits.returns) c.in_err-check_ends.ensures.err

pub returns-clause-first : goal.returns-clause-first
returns-clause-first c =
    let d = draft_view c.args.self.now in
    IfErr-weaker c.check_steps.result (λ fault. OrMemory fault (IsFaultAtFirst d.lines NoStep (StepFirstAt d c.args.call) fault)) (λ fault. OrMemory fault (IsFaultOfRuns d c.args.call fault))
    (λ fault. or_memory fault (IsFaultAtFirst d.lines NoStep (StepFirstAt d c.args.call) fault) (IsFaultOfRuns d c.args.call fault)
    (λ h. inr (c.in_ok-check_reached.ensures.ok, inr (c.in_ok-check_end.ensures.ok, inr (c.in_ok-check_set.ensures.ok, inr (c.in_ok-check_ends.ensures.ok, h)))))) c.check_steps.ensures.first

pub returns-in_err-check_reached-clause-first : goal.returns-in_err-check_reached-clause-first
returns-in_err-check_reached-clause-first c =
    let d = draft_view c.args.self.now in
    part_or_memory c.from_residual.result c.in_err-check_reached.field-0.0 (IsFaultAtFirst d.lines NeverReached (LineReachedAt d c.args.call)) (IsFaultOfRuns d c.args.call)
    c.from_residual.ensures.1 (λ h. inl h) (inr c.in_err-check_reached.ensures.first)

pub returns-in_err-check_end-clause-first : goal.returns-in_err-check_end-clause-first
returns-in_err-check_end-clause-first c =
    let d = draft_view c.args.self.now in
    part_or_memory c.from_residual-in_err-check_end.result c.in_err-check_end.field-0.0 (IsFaultOfEnd d c.args.call) (IsFaultOfRuns d c.args.call)
    c.from_residual-in_err-check_end.ensures.1 (λ h. inr (c.in_ok-check_reached.ensures.ok, inl h)) (inr c.in_err-check_end.ensures.first)

pub returns-in_err-check_set-clause-first : goal.returns-in_err-check_set-clause-first
returns-in_err-check_set-clause-first c =
    let d = draft_view c.args.self.now in
    part_or_memory c.from_residual-in_err-check_set.result c.in_err-check_set.field-0.0 (IsFaultAtFirst d.lines Unset (NamesSetAt d c.args.call)) (IsFaultOfRuns d c.args.call)
    c.from_residual-in_err-check_set.ensures.1 (λ h. inr (c.in_ok-check_reached.ensures.ok, inr (c.in_ok-check_end.ensures.ok, inl h))) c.in_err-check_set.ensures.first

pub returns-in_err-check_ends-clause-first : goal.returns-in_err-check_ends-clause-first
returns-in_err-check_ends-clause-first c =
    let d = draft_view c.args.self.now in
    part_or_memory c.from_residual-in_err-check_ends.result c.in_err-check_ends.field-0.0 (IsFaultAtFirst d.lines Endless (NotOnRound d c.args.call)) (IsFaultOfRuns d c.args.call)
    c.from_residual-in_err-check_ends.ensures.1
    (λ h. inr (c.in_ok-check_reached.ensures.ok, inr (c.in_ok-check_end.ensures.ok, inr (c.in_ok-check_set.ensures.ok, inl h)))) c.in_err-check_ends.ensures.first
