use Rattle.std.proofs.Common.{length, refl, ap, ◌∙◌}
use Rattle.crashlab.proofs.Common.{refill}
use Rattle.crashlab.proofs.variants.Configurations.{configured_stepped, in_words}
use Rattle.crashlab.proofs.variants.variant_world.VariantWorld.take_step.Goals as goal

pub load-found-requires : goal.load-found-requires
load-found-requires c =
    in_words _ c.args.p _ c.self.invariant c.index.ensures c.if-p-self.false _ c.in-Some.access _ c.next.ensures.within c.in-Some.is c.word.ensures _ (ap length c.deref.ensures.value ∙ c.self.invariant.words_each)

pub store-requires : goal.store-requires
store-requires c =
    in_words _ c.args.p _ c.self.invariant c.index.ensures c.if-p-self.false _ c.in-Some.access _ c.next.ensures.within c.in-Some.is refl _ (ap length c.deref_mut.ensures.value ∙ c.self.invariant.words_each)

pub invariant_of-self : goal.invariant_of-self
invariant_of-self c =
    configured_stepped _ _ _ c.args.p _ _ c.load-found.result c.self.invariant c.index_mut.ensures.value c.if-p-self.false c.feed-outcome.ensures.exact
    (ap length (refill _ _ _ (c.store.auto.words ∙ c.deref_mut.ensures.len)) ∙ c.store.auto.words ∙ ap length c.deref_mut.ensures.value)
    (ap length (refill _ _ _ (c.store.auto.cells ∙ c.deref_mut-2.ensures.len)) ∙ c.store.auto.cells ∙ ap length c.deref_mut-2.ensures.value)
