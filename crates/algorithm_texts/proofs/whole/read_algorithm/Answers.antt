use Rattle.std.proofs.Common.{◌⊎◌, ◌∙◌, ap, inl, inr, subst}
use Rattle.std.proofs.lemmas.Result.{err_from_is_err_and}
use Rattle.algorithms.specs.declared.line.AlgorithmDeed.TheVariants.{Enter, Leave}
use Rattle.algorithm_texts.specs.Drafts.{Drafted, draft_view}
use Rattle.algorithm_texts.specs.Lawful.{NotesDeed}
use Rattle.algorithm_texts.specs.Runs.{AllRuns}
use Rattle.algorithm_texts.specs.UnreachedLines.{said_starts}
use Rattle.algorithm_texts.specs.TextFaults.{IsFaultOfAllRuns, IsFaultOfClaims, IsFaultOfText, IsFaultOfWays}
use Rattle.algorithm_texts.proofs.DraftFaults.{spelled_fault, flow_fault, deeds_fault}
use Rattle.algorithm_texts.proofs.LawfulRuns.{claims_refused, deeds_refused, flow_refused}
use Rattle.algorithm_texts.proofs.NotedLines.{noted_of}
use Rattle.algorithm_texts.proofs.OneDraft.{no_algorithm, one_draft}
use Rattle.algorithm_texts.proofs.ProgramTrees.{spelled}
use Rattle.algorithm_texts.proofs.RunFaults.{part_or_memory}
use Rattle.algorithm_texts.proofs.whole.read_algorithm.Goals as goal

pub returns-clause-spells : goal.returns-clause-spells
returns-clause-spells c =
    let flow = c.in_ok-check_flow.ensures in
    let deeds = c.in_ok-check_deeds.ensures in
    let ready = draft_view c.in_ok-draft.draft in
    let a = c.check_flow.new.draft.algorithm in
    let entries = ap (λ (d : Drafted). d.head.entries) flow.kept in
    let enters : NotesDeed ready ready.head.entries.lock Enter =
    subst (λ k. NotesDeed ready k Enter) (ap (λ es. es.lock) entries) (noted_of ready a a.entries.lock Enter flow.lines entries deeds.enters) in
    let leaves : NotesDeed ready ready.head.entries.unlock Leave =
    subst (λ k. NotesDeed ready k Leave) (ap (λ es. es.unlock) entries) (noted_of ready a a.entries.unlock Leave flow.lines entries deeds.leaves) in
    spelled c.args.text.now c.in_ok-draft.draft c.check_flow.new.draft c.first_values-first_values.result c.in_ok-label_places.label_places c.in_ok-draft.ensures.ok flow.runs enters leaves flow.lines flow.kept
    (c.first_values-first_values.ensures ∙ ap said_starts flow.kept) c.in_ok-label_places.ensures.ok

-- that claims have their labels changes no line
pub returns-clause-ends : goal.returns-clause-ends
returns-clause-ends c = record { each = c.in_ok-check_flow.ensures.ends.each }

pub returns-clause-leads : goal.returns-clause-leads
returns-clause-leads c = record { each = c.in_ok-check_flow.ensures.leads.each }

pub returns-clause-enters : goal.returns-clause-enters
returns-clause-enters c = let s = c.in_ok-check_deeds.ensures.enters in record { at = s.at; line = s.line; there = s.there; within = s.within; says = s.says }

pub returns-clause-leaves : goal.returns-clause-leaves
returns-clause-leaves c = let s = c.in_ok-check_deeds.ensures.leaves in record { at = s.at; line = s.line; there = s.there; within = s.within; says = s.says }

pub returns-in_err-label_places-clause-first : goal.returns-in_err-label_places-clause-first
returns-in_err-label_places-clause-first c =
    let d = draft_view c.in_ok-draft.draft in
    part_or_memory c.from_residual-in_err-label_places.result c.in_err-label_places.field-0.0 (λ fault. IsFaultOfClaims d fault) (IsFaultOfText c.args.text.now)
    c.from_residual-in_err-label_places.ensures.1 (λ h. spelled_fault c.args.text.now d c.in_err-label_places.field-0.0 c.in_ok-draft.ensures.ok (inl h)) c.in_err-label_places.ensures.first

pub returns-in_err-label_places-clause-refuses : goal.returns-in_err-label_places-clause-refuses
returns-in_err-label_places-clause-refuses c =
    let p = err_from_is_err_and c.from_residual-in_err-label_places.result c.from_residual-in_err-label_places.ensures.1 in
    let ready = draft_view c.in_ok-draft.draft in
    rw (p.1, p.2) (claims_refused c.args.text.now ready _ (one_draft c.args.text.now ready c.in_ok-draft.ensures.ok) c.in_err-label_places.ensures.err)

pub returns-in_err-draft-clause-first : goal.returns-in_err-draft-clause-first
returns-in_err-draft-clause-first c =
    let p = err_from_is_err_and c.from_residual.result c.from_residual.ensures.1 in
    rw (p.1, p.2) c.in_err-draft.ensures.first

pub returns-in_err-draft-clause-refuses : goal.returns-in_err-draft-clause-refuses
returns-in_err-draft-clause-refuses c =
    let p = err_from_is_err_and c.from_residual.result c.from_residual.ensures.1 in
    rw (p.1, p.2) (no_algorithm c.args.text.now _ c.in_err-draft.ensures.err)

pub returns-in_err-check_flow-clause-first : goal.returns-in_err-check_flow-clause-first
returns-in_err-check_flow-clause-first c =
    let d = draft_view c.in_ok-draft.draft in
    part_or_memory c.from_residual-in_err-check_flow.result c.in_err-check_flow.field-0.0 (λ fault. IsFaultOfAllRuns d fault ⊎ (AllRuns d × IsFaultOfWays d fault)) (IsFaultOfText c.args.text.now)
    c.from_residual-in_err-check_flow.ensures.1 (λ h. spelled_fault c.args.text.now d c.in_err-check_flow.field-0.0 c.in_ok-draft.ensures.ok (inr ((c.in_ok-label_places.label_places.items, c.in_ok-label_places.ensures.ok), flow_fault d c.in_err-check_flow.field-0.0 h))) c.in_err-check_flow.ensures.first

pub returns-in_err-check_flow-clause-refuses : goal.returns-in_err-check_flow-clause-refuses
returns-in_err-check_flow-clause-refuses c =
    let p = err_from_is_err_and c.from_residual-in_err-check_flow.result c.from_residual-in_err-check_flow.ensures.1 in
    let ready = draft_view c.in_ok-draft.draft in
    rw (p.1, p.2) (flow_refused c.args.text.now ready _ (one_draft c.args.text.now ready c.in_ok-draft.ensures.ok) c.in_err-check_flow.ensures.err)

pub returns-in_err-check_deeds-clause-first : goal.returns-in_err-check_deeds-clause-first
returns-in_err-check_deeds-clause-first c =
    let flow = c.in_ok-check_flow.ensures in
    let d = draft_view c.in_ok-draft.draft in
    part_or_memory c.from_residual-in_err-check_deeds.result c.in_err-check_deeds.field-0.0 (λ fault. IsFaultOfText c.args.text.now fault) (IsFaultOfText c.args.text.now)
    c.from_residual-in_err-check_deeds.ensures.1 (λ h. h)
    (inr (spelled_fault c.args.text.now d c.in_err-check_deeds.field-0.0 c.in_ok-draft.ensures.ok
    (inr (
      (c.in_ok-label_places.label_places.items, c.in_ok-label_places.ensures.ok),
      inr (flow.runs, inr (deeds_fault d c.check_flow.new.draft c.in_err-check_deeds.field-0.0 flow.lines flow.kept c.in_err-check_deeds.ensures.first)),
    ))))

pub returns-in_err-check_deeds-clause-refuses : goal.returns-in_err-check_deeds-clause-refuses
returns-in_err-check_deeds-clause-refuses c =
    let p = err_from_is_err_and c.from_residual-in_err-check_deeds.result c.from_residual-in_err-check_deeds.ensures.1 in
    let flow = c.in_ok-check_flow.ensures in
    let ready = draft_view c.in_ok-draft.draft in
    let a = c.check_flow.new.draft.algorithm in
    rw (p.1, p.2) (inr (λ w. deeds_refused c.args.text.now ready a (one_draft c.args.text.now ready c.in_ok-draft.ensures.ok) flow.lines
    (ap (λ (d : Drafted). d.head.entries) flow.kept) c.in_err-check_deeds.ensures.err w.0 w.1))
