use Rattle.rmecore.specs.declared.refusal.Refusal.TheVariants.{NoSuchProcess}
use Rattle.std.proofs.Common.{refl}
use Rattle.schedule.proofs.CrashLines.{crash_all_is_each}
use Rattle.crashlab.specs.variants.VariantWorlds.{VariantState, variant_behaviour}
use Rattle.crashlab.proofs.laws.crash_all_of_a_variant_is_each_crash.Goals as goal

pub returns : goal.returns
returns c world few = crash_all_is_each variant_behaviour (λ (w : VariantState). w.layout.procs) NoSuchProcess (λ w p. refl) (λ w p. refl) world few
