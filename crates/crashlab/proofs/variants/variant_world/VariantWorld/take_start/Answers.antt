use Rattle.std.proofs.Common.{refl}
use Rattle.crashlab.proofs.variants.Configurations.{configured, configuration_here, start_keeps}
use Rattle.crashlab.proofs.variants.variant_world.VariantWorld.take_start.Goals as goal

pub invariant_of-self : goal.invariant_of-self
invariant_of-self c =
    let configuration = configuration_here _ c.args.p _ c.self.invariant c.index_mut.ensures.value c.if-p-self.false in
    configured _ _ _ c.args.p _ c.self.invariant refl refl c.if-p-self.false (start_keeps c.start.result _ _ c.args.call c.start.ensures.ok c.start.ensures.err configuration)
