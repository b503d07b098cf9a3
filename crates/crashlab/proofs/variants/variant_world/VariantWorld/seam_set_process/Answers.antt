use Rattle.std.proofs.Common.{refl, sym, subst, length-set}
use Rattle.crashlab.proofs.Common.{HasVariantConfiguration}
use Rattle.crashlab.proofs.variants.Configurations.{configured, configuration_here}
use Rattle.crashlab.proofs.variants.variant_world.VariantWorld.seam_set_process.Goals as goal

pub invariant_of-self-2 : goal.invariant_of-self-2
invariant_of-self-2 c =
    let configuration = configuration_here _ c.args.p _ c.self.invariant c.index_mut.ensures.value c.if-p-self.false in
    configured _ _ _ c.args.p _ c.self.invariant (length-set c.self.inside.words.items c.args.p c.args.own) refl c.if-p-self.false (subst (HasVariantConfiguration _ _ _ _) (sym (c.if-not-seam_set.ensures.set refl)) configuration)
