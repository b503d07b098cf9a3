use Rattle.std.proofs.Common.{◌≡◌, [], Some, None, IfSome, length, slice_set, refl, sym, ap, ◌∙◌, subst, lt-ltb}
use Rattle.crashlab.proofs.Common.{own_at, refill, words_of, Outcome, mail_by, or_else, words_by, cells_by, the_deed, reading_of, variant_next_access, variant_stepped, variant_outcome, VariantState}
use Rattle.crashlab.proofs.Common.{machine_state_at, access_at, advance_refusal, unless_step, variant_step_report, variant_after_step, advanced_if, found_by, outcome_of, deeds_of, stepped_if}
use Rattle.crashlab.proofs.variants.Configurations.{machine_state_here, configured_stepped, in_words}
use Rattle.crashlab.proofs.variants.variant_world.VariantWorld.step_unobserved.Goals as goal

pub load-found-requires : goal.load-found-requires
load-found-requires c =
    in_words _ c.args.p _ c.self.invariant c.index.ensures c.if-p-self.false _ c.in-Some.access _ c.next_silently.ensures.within c.in-Some.is c.word.ensures _ (ap length c.deref.ensures.value ∙ c.self.invariant.words_each)

pub store-requires : goal.store-requires
store-requires c =
    in_words _ c.args.p _ c.self.invariant c.index.ensures c.if-p-self.false _ c.in-Some.access _ c.next_silently.ensures.within c.in-Some.is refl _ (ap length c.deref_mut.ensures.value ∙ c.self.invariant.words_each)

abbrev state : (c : goal.After-self-3-1) → VariantState
state c = record { variant = c.self.inside.variant; layout = c.self.inside.layout; limit = c.self.inside.limit; words = c.self.inside.words.items; cells = c.self.inside.cells.items; processes = c.self.inside.processes.items }

pub invariant_of-self-2 : goal.invariant_of-self-2
invariant_of-self-2 c =
    configured_stepped (state c) _ _ c.args.p _ _ c.load-found.result c.self.invariant c.index_mut.ensures.value c.if-p-self.false (c.if-not-feed_silently.ensures.exact refl)
    (ap length (refill _ _ _ (c.store.auto.words ∙ c.deref_mut.ensures.len)) ∙ c.store.auto.words ∙ ap length c.deref_mut.ensures.value)
    (ap length (refill _ _ _ (c.store.auto.cells ∙ c.deref_mut-2.ensures.len)) ∙ c.store.auto.cells ∙ ap length c.deref_mut-2.ensures.value)

here : (c : goal.After-self-3-1) → machine_state_at (state c).processes c.args.p ≡ c.index_mut.result.now
here c = machine_state_here _ c.args.p _ _ c.index_mut.ensures.value c.if-p-self.false c.self.invariant.processes_each

value : (c : goal.After-self-3-1) → c.load-found.result ≡ found_by (state c) c.in-Some.access
value c = c.load-found.ensures ∙ (λ i. reading_of (own_at (c.deref.ensures.value i)) (words_of (c.deref-2.ensures.value i)) (c.word.ensures i))

what : (c : goal.After-self-3-1) → variant_outcome c.index_mut.result.now c.load-found.result ≡ outcome_of (state c) c.args.p c.in-Some.access
what c = λ i. variant_outcome (sym (here c) i) (value c i)

-- the process is looked at twice
next : (c : goal.After-self-3-1) → access_at (state c) c.args.p ≡ Some c.in-Some.access
next c =
    ap variant_next_access (machine_state_here _ c.args.p _ c.index.result.now c.index.ensures c.if-p-self.false c.self.invariant.processes_each)
    ∙ subst (λ o. IfSome o (λ a. variant_next_access c.index.result.now ≡ Some a)) c.in-Some.is c.next_silently.ensures.next

-- it is no deed
silent : (c : goal.After-self-3-1) → deeds_of (state c) c.args.p c.in-Some.access ≡ []
silent c =
    ap (λ (o : Outcome). or_else o.progress.outer (mail_by (state c).layout c.args.p (words_of (state c).cells) c.in-Some.access)) (sym (what c))
    ∙ ap (λ o. or_else o (mail_by (state c).layout c.args.p (words_of (state c).cells) c.in-Some.access)) (c.if-not-feed_silently.ensures.silent refl).0
    ∙ c.if-not-puts_silently.ensures refl (state c).layout c.args.p (words_of (state c).cells)

pub returns-clause-accepted : goal.returns-clause-accepted
returns-clause-accepted c = λ _. subst (λ (x : VariantState). advance_refusal x c.args.p ≡ None) c.self.view_is (rw (lt-ltb c.args.p (state c).layout.procs c.if-p-self.false) (ap unless_step (next c)))

pub returns-clause-silent : goal.returns-clause-silent
returns-clause-silent c = λ _.
    let s : VariantState = state c in
    subst (λ (x : VariantState). ((variant_step_report x c.args.p).deed ≡ None) × ((variant_step_report x c.args.p).answer ≡ None)) c.self.view_is
    (subst (λ o. ((stepped_if s c.args.p o).deed ≡ None) × ((stepped_if s c.args.p o).answer ≡ None)) (sym (next c))
    (ap the_deed (silent c), ap (λ (o : Outcome). o.answer) (sym (what c)) ∙ (c.if-not-feed_silently.ensures.silent refl).1))

pub returns-clause-ok : goal.returns-clause-ok
returns-clause-ok c = λ _.
    let s : VariantState = state c in
    let a = c.in-Some.access in
    let words = refill _ _ _ (c.store.auto.words ∙ c.deref_mut.ensures.len) ∙ c.store.ensures.words ∙ ap (λ ws. words_by ws a) c.deref_mut.ensures.value in
    let cells = refill _ _ _ (c.store.auto.cells ∙ c.deref_mut-2.ensures.len) ∙ c.store.ensures.cells ∙ ap (λ ws. cells_by ws a) c.deref_mut-2.ensures.value in
    let is : c.feed_silently.new.self ≡ variant_stepped (machine_state_at s.processes c.args.p) (found_by s a) = c.if-not-feed_silently.ensures.exact refl ∙ (λ i. variant_stepped (sym (here c) i) (value c i)) in
    (λ i. record s { words = words i; cells = cells i; processes = slice_set s.processes c.args.p (is i) })
    ∙ ap (advanced_if s c.args.p) (sym (next c)) ∙ ap (λ (x : VariantState). variant_after_step x c.args.p) c.self.view_is
