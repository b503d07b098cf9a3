use Rattle.std.proofs.Common.{[], None, ◌≡◌, replicate, sym, ap, ◌∙◌, subst, rules}
use Rattle.crashlab.proofs.Common.{zeros, Layout, size, IsSize, IsLockWorld, IsVariantConfigured, new_world}
use Rattle.rmeworld.specs.WorldState.{new_refusal}
use Rattle.rmeworld.proofs.Worlds.{size_held}
use Rattle.crashlab.proofs.variants.LockWorlds.{lock_new, lock_world}
use Rattle.crashlab.proofs.variants.Rests.{configured_new}
use Rattle.crashlab.proofs.variants.variant_world.VariantWorld.new.Goals as goal

abbrev layout : goal.In_ok-processes → Layout
layout c = record { procs = c.args.procs; cap = c.args.cap; width = c.args.width }

sized : (c : goal.In_ok-processes) → IsSize (layout c)
sized c = search rules

is :
    (c : goal.In_ok-processes)
    → record { variant = c.args.variant; layout = layout c; limit = c.args.limit; words = c.in_ok-words.words.items; cells = c.in_ok-cells.cells.items; processes = c.in_ok-processes.processes.items } ≡ new_world c.args.variant (layout c) c.args.limit
is c =
    let words : c.in_ok-words.words.items ≡ replicate c.args.procs zeros = search rules in
    let room : c.in_ok-cells.cells.items ≡ replicate c.words.result 0 = search rules in
    let cells : c.in_ok-cells.cells.items ≡ replicate (size (layout c)) 0 = room ∙ ap (λ n. replicate n 0) (c.words.ensures ∙ size_held (layout c) (sized c).layout) in
    λ i. record { variant = c.args.variant; layout = layout c; limit = c.args.limit; words = words i; cells = cells i; processes = c.in_ok-processes.ensures.rest i }

pub invariant_of-result : goal.invariant_of-result
invariant_of-result c = subst IsVariantConfigured (sym (is c)) (configured_new c.args.variant (layout c) c.args.limit (sized c))

pub returns-clause-ok : goal.returns-clause-ok
returns-clause-ok c = is c

pub returns-clause-lock : goal.returns-clause-lock
returns-clause-lock c =
    let may : new_refusal (layout c) c.args.limit ≡ None = search rules in
    λ right. subst (λ x. IsLockWorld x []) (sym (is c)) (subst (λ variant. IsLockWorld (new_world variant (layout c) c.args.limit) []) (sym right) (lock_world (lock_new (layout c) c.args.limit may)))
