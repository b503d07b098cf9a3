use Rattle.std.proofs.Common.{◌≡◌, ◌<◌, Some, None, length, slice_set, refl, sym, ap, ◌∙◌, subst, lt-ltb}
use Rattle.crashlab.proofs.Common.{own_at, refill, words_of, mail_by, or_else, words_by, cells_by, the_deed, reading_of, IsDeedGiven, variant_stepped, variant_outcome, VariantState, machine_state_at, access_at, IsVariantConfigured}
use Rattle.crashlab.proofs.Common.{unless_step, variant_step_report, stepped_by, stepped_if, advanced_by, advanced_if, found_by, outcome_of}
use Rattle.rmecore.specs.Machine.{no_progress}
use Rattle.crashlab.proofs.variants.Scans.{plain_next}
use Rattle.crashlab.proofs.variants.Configurations.{machine_state_here, configured_stepped, configuration_within}
use Rattle.crashlab.proofs.variants.variant_world.VariantWorld.job_on.Goals as goal

pub load-found-requires : goal.load-found-requires
load-found-requires c =
    let configured = subst IsVariantConfigured c.self.view_is c.self.invariant in
    configuration_within (machine_state_at c.args.self.now.processes c.args.p) c.args.access (configured.configurations c.args.p c.requires.below) c.requires.works.within c.word.ensures
    (ap length c.deref.ensures.value ∙ c.self.invariant.words_each ∙ ap (λ (s : VariantState). s.layout.procs) c.self.view_is)

pub store-requires : goal.store-requires
store-requires c =
    let configured = subst IsVariantConfigured c.self.view_is c.self.invariant in
    configuration_within (machine_state_at c.args.self.now.processes c.args.p) c.args.access (configured.configurations c.args.p c.requires.below) c.requires.works.within refl
    (ap length c.deref_mut.ensures.value ∙ c.self.invariant.words_each ∙ ap (λ (s : VariantState). s.layout.procs) c.self.view_is)

below : (c : goal.After-self-3-1) → c.args.p < c.self.inside.layout.procs
below c = subst (λ (s : VariantState). c.args.p < s.layout.procs) (sym c.self.view_is) c.requires.below

pub invariant_of-self : goal.invariant_of-self
invariant_of-self c =
    configured_stepped _ _ _ c.args.p _ _ c.load-found.result c.self.invariant c.index_mut-process.ensures.value (below c) c.job_on-answer.ensures.exact
    (ap length (refill _ _ _ (c.store.auto.words ∙ c.deref_mut.ensures.len)) ∙ c.store.auto.words ∙ ap length c.deref_mut.ensures.value)
    (ap length (refill _ _ _ (c.store.auto.cells ∙ c.deref_mut-2.ensures.len)) ∙ c.store.auto.cells ∙ ap length c.deref_mut-2.ensures.value)

abbrev state : goal.After-self-3-1 → VariantState
state c = record { variant = c.self.inside.variant; layout = c.self.inside.layout; limit = c.self.inside.limit; words = c.self.inside.words.items; cells = c.self.inside.cells.items; processes = c.self.inside.processes.items }

next : (c : goal.After-self-3-1) → access_at c.args.self.now c.args.p ≡ Some c.args.access
next c = plain_next (machine_state_at c.args.self.now.processes c.args.p) c.args.access c.requires.plain c.requires.works.next

here : (c : goal.After-self-3-1) → machine_state_at (state c).processes c.args.p ≡ c.index_mut-process.result.now
here c = machine_state_here _ c.args.p _ _ c.index_mut-process.ensures.value (below c) c.self.invariant.processes_each

value : (c : goal.After-self-3-1) → c.load-found.result ≡ found_by (state c) c.args.access
value c = c.load-found.ensures ∙ (λ i. reading_of (own_at (c.deref.ensures.value i)) (words_of (c.deref-2.ensures.value i)) (c.word.ensures i))

pub returns-clause-accepted : goal.returns-clause-accepted
returns-clause-accepted c = rw (lt-ltb c.args.p c.args.self.now.layout.procs c.requires.below) (ap unless_step (next c))

pub returns-clause-reports : goal.returns-clause-reports
returns-clause-reports c =
    let s : VariantState = state c in
    let a = c.args.access in
    let what : record { progress = no_progress; answer = c.job_on-answer.result } ≡ outcome_of s c.args.p a = sym c.job_on-answer.ensures.outcome ∙ (λ i. variant_outcome (sym (here c) i) (value c i)) in
    let deed : the_deed (or_else None (mail_by s.layout c.args.p (words_of c.deref-3.result.now) a)) ≡ (variant_step_report c.args.self.now c.args.p).deed =
    (λ i. the_deed (or_else (what i).progress.outer (mail_by s.layout c.args.p (words_of (c.deref-3.ensures.value i)) a)))
    ∙ ap (λ (x : VariantState). (stepped_by x c.args.p a).deed) c.self.view_is ∙ ap (λ o. (stepped_if c.args.self.now c.args.p o).deed) (sym (next c)) in
    λ history stands. subst (λ d. IsDeedGiven history d c.tell_step-made.new.judge c.tell_step-made.result) deed (c.tell_step-made.ensures.reports history stands)

pub returns-clause-ok : goal.returns-clause-ok
returns-clause-ok c =
    let s : VariantState = state c in
    let a = c.args.access in
    let words = refill _ _ _ (c.store.auto.words ∙ c.deref_mut.ensures.len) ∙ c.store.ensures.words ∙ ap (λ ws. words_by ws a) c.deref_mut.ensures.value in
    let cells = refill _ _ _ (c.store.auto.cells ∙ c.deref_mut-2.ensures.len) ∙ c.store.ensures.cells ∙ ap (λ ws. cells_by ws a) c.deref_mut-2.ensures.value in
    let is : c.job_on-answer.new.self ≡ variant_stepped (machine_state_at s.processes c.args.p) (found_by s a) = c.job_on-answer.ensures.exact ∙ (λ i. variant_stepped (sym (here c) i) (value c i)) in
    (λ i. record s { words = words i; cells = cells i; processes = slice_set s.processes c.args.p (is i) })
    ∙ ap (λ (x : VariantState). advanced_by x c.args.p a) c.self.view_is ∙ ap (advanced_if c.args.self.now c.args.p) (sym (next c))
