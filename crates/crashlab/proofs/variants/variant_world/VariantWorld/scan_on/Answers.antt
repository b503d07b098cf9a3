use Rattle.std.proofs.Common.{◌≡◌, ◌<◌, Some, length, slice_set, refl, sym, ap, ◌∙◌, subst, lt-ltb}
use Rattle.crashlab.proofs.Common.{own_at, words_of, reading_of, variant_stepped, VariantState, machine_state_at, access_at, IsVariantConfigured, unless_step, advanced_by, advanced_if, found_by}
use Rattle.rmeworld.proofs.Advancing.{load_leaves}
use Rattle.crashlab.proofs.variants.Scans.{plain_next, scan_tells}
use Rattle.crashlab.proofs.variants.Configurations.{machine_state_here, configured_stepped, configuration_within}
use Rattle.crashlab.proofs.variants.variant_world.VariantWorld.scan_on.Goals as goal

pub load-found-requires : goal.load-found-requires
load-found-requires c =
    let configured = subst IsVariantConfigured c.self.view_is c.self.invariant in
    configuration_within (machine_state_at c.args.self.now.processes c.args.p) c.args.access (configured.configurations c.args.p c.requires.below) c.requires.goes_on.within c.word.ensures
    (ap length c.deref.ensures.value ∙ c.self.invariant.words_each ∙ ap (λ (s : VariantState). s.layout.procs) c.self.view_is)

below : (c : goal.After-self-1) → c.args.p < c.self.inside.layout.procs
below c = subst (λ (s : VariantState). c.args.p < s.layout.procs) (sym c.self.view_is) c.requires.below

pub invariant_of-self : goal.invariant_of-self
invariant_of-self c = configured_stepped _ _ _ c.args.p _ _ c.load-found.result c.self.invariant c.index_mut-process.ensures.value (below c) c.scan_on.ensures.exact refl refl

next : (c : goal.After-self-1) → access_at c.args.self.now c.args.p ≡ Some c.args.access
next c = plain_next (machine_state_at c.args.self.now.processes c.args.p) c.args.access c.requires.plain c.requires.goes_on.next

pub returns-clause-accepted : goal.returns-clause-accepted
returns-clause-accepted c = rw (lt-ltb c.args.p c.args.self.now.layout.procs c.requires.below) (ap unless_step (next c))

pub returns-clause-silent : goal.returns-clause-silent
returns-clause-silent c = scan_tells c.args.self.now c.args.p c.args.scan c.args.access c.requires.plain c.requires.goes_on

pub returns-clause-ok : goal.returns-clause-ok
returns-clause-ok c =
    let s : VariantState = record { variant = c.self.inside.variant; layout = c.self.inside.layout; limit = c.self.inside.limit; words = c.self.inside.words.items; cells = c.self.inside.cells.items; processes = c.self.inside.processes.items } in
    let a = c.args.access in
    let leaves = load_leaves a s.words s.cells c.requires.goes_on.load in
    let here = machine_state_here _ c.args.p _ _ c.index_mut-process.ensures.value (below c) c.self.invariant.processes_each in
    let value : c.load-found.result ≡ found_by s a = c.load-found.ensures ∙ (λ i. reading_of (own_at (c.deref.ensures.value i)) (words_of (c.deref-2.ensures.value i)) (c.word.ensures i)) in
    let is : c.scan_on.new.self ≡ variant_stepped (machine_state_at s.processes c.args.p) (found_by s a) = c.scan_on.ensures.exact ∙ (λ i. variant_stepped (sym here i) (value i)) in
    (λ i. record s { words = sym leaves.0 i; cells = sym leaves.1 i; processes = slice_set s.processes c.args.p (is i) })
    ∙ ap (λ (x : VariantState). advanced_by x c.args.p a) c.self.view_is ∙ ap (advanced_if c.args.self.now c.args.p) (sym (next c))
