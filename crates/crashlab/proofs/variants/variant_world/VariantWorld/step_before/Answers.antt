use Rattle.std.proofs.Common.{◌≡◌, length, refl, sym, ap, ◌∙◌, subst}
use Rattle.crashlab.proofs.Common.{own_at, refill, words_of, mail_by, or_else, the_deed, reading_of, IsDeedGiven, variant_next_access, variant_outcome, VariantState, variant_step_report, stepped_if, found_by, outcome_of}
use Rattle.crashlab.proofs.variants.Configurations.{machine_state_here, configured_stepped, in_words}
use Rattle.crashlab.proofs.variants.variant_world.VariantWorld.step_before.Goals as goal

pub load-found-requires : goal.load-found-requires
load-found-requires c =
    in_words _ c.args.p _ c.self.invariant c.index.ensures c.if-p-self.false _ c.in-Some.access _ c.next.ensures.within c.in-Some.is c.word.ensures _ (ap length c.deref.ensures.value ∙ c.self.invariant.words_each)

pub store-requires : goal.store-requires
store-requires c =
    in_words _ c.args.p _ c.self.invariant c.index.ensures c.if-p-self.false _ c.in-Some.access _ c.next.ensures.within c.in-Some.is refl _ (ap length c.deref_mut.ensures.value ∙ c.self.invariant.words_each)

pub invariant_of-self : goal.invariant_of-self
invariant_of-self c =
    configured_stepped _ _ _ c.args.p _ _ c.load-found.result c.self.invariant c.index_mut.ensures.value c.if-p-self.false c.feed-outcome.ensures.exact
    (ap length (refill _ _ _ (c.store.auto.words ∙ c.deref_mut.ensures.len)) ∙ c.store.auto.words ∙ ap length c.deref_mut.ensures.value)
    (ap length (refill _ _ _ (c.store.auto.cells ∙ c.deref_mut-2.ensures.len)) ∙ c.store.auto.cells ∙ ap length c.deref_mut-2.ensures.value)

pub returns-clause-reports : goal.returns-clause-reports
returns-clause-reports c =
    let s : VariantState = record { variant = c.self.inside.variant; layout = c.self.inside.layout; limit = c.self.inside.limit; words = c.self.inside.words.items; cells = c.self.inside.cells.items; processes = c.self.inside.processes.items } in
    let a = c.in-Some.access in
    let here = machine_state_here _ c.args.p _ _ c.index_mut.ensures.value c.if-p-self.false c.self.invariant.processes_each in
    -- the process is looked at twice
    let there = machine_state_here _ c.args.p _ c.index.result.now c.index.ensures c.if-p-self.false c.self.invariant.processes_each in
    let value : c.load-found.result ≡ found_by s a = c.load-found.ensures ∙ (λ i. reading_of (own_at (c.deref.ensures.value i)) (words_of (c.deref-2.ensures.value i)) (c.word.ensures i)) in
    let what : c.feed-outcome.result ≡ outcome_of s c.args.p a = c.feed-outcome.ensures.outcome ∙ (λ i. variant_outcome (sym here i) (value i)) in
    let deed : the_deed (or_else c.feed-outcome.result.progress.outer (mail_by s.layout c.args.p (words_of c.deref-3.result.now) a)) ≡ (variant_step_report c.args.self.now c.args.p).deed =
    (λ i. the_deed (or_else (what i).progress.outer (mail_by s.layout c.args.p (words_of (c.deref-3.ensures.value i)) a)))
    ∙ ap (λ o. (stepped_if s c.args.p o).deed) (sym (ap variant_next_access there ∙ sym c.next.ensures.next ∙ c.in-Some.is))
    ∙ ap (λ (x : VariantState). (variant_step_report x c.args.p).deed) c.self.view_is in
    λ history stands. subst (λ d. IsDeedGiven history d c.tell_step-made.new.judge c.tell_step-made.result) deed (c.tell_step-made.ensures.reports history stands)
