use Rattle.std.proofs.Common.{refl, sym, subst}
use Rattle.crashlab.proofs.Common.{HasVariantConfiguration}
use Rattle.crashlab.proofs.variants.Configurations.{configured, configuration_here}
use Rattle.crashlab.proofs.variants.variant_world.VariantWorld.take_crash.Goals as goal

pub invariant_of-self : goal.invariant_of-self
invariant_of-self c =
    let configuration = configuration_here _ c.args.p _ c.self.invariant c.index_mut.ensures.value c.if-p-self.false in
    configured _ _ _ c.args.p _ c.self.invariant refl refl c.if-p-self.false (subst (HasVariantConfiguration _ _ _ _) (sym c.crash.ensures) configuration)
