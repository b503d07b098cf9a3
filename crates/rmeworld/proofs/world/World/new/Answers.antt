use Rattle.std.proofs.Common.{◌≡◌, ◌+◌, ◌<◌, ◌≤◌, ◌^◌, replicate, sym, ap, ◌∙◌, subst, rules, arith}
use Rattle.rmeworld.proofs.Common.{common_steps, zeros, new_tally, Layout, size, IsWorld, IsSize, resting, new_world, at_rest_from}
use Rattle.rmeworld.proofs.Worlds.{rest_is, world_new, size_held}
use Rattle.rmeworld.proofs.world.World.new.Goals as goal

abbrev layout : goal.After-new → Layout
layout c = record { procs = c.args.procs; cap = c.args.cap; width = c.args.width }

sized : (c : goal.After-new) → IsSize (layout c)
sized c = search rules

limited : (c : goal.After-new) → (0 < c.args.limit) × (c.args.limit ≤ 2 ^ 62)
limited c = search rules

is : (c : goal.After-new) → record { layout = layout c; limit = c.args.limit; words = c.in_ok-words.words.items; cells = c.in_ok-cells.cells.items; processes = c.in_ok-processes.processes.items; tallies = c.in_ok-tallies.tallies.items; history = c.new.result.items } ≡ new_world (layout c) c.args.limit
is c =
    let words : c.in_ok-words.words.items ≡ replicate c.args.procs zeros = search rules in
    let tallies : c.in_ok-tallies.tallies.items ≡ replicate c.args.procs (new_tally zeros) = search rules in
    let room : c.in_ok-cells.cells.items ≡ replicate c.words.result 0 = search rules in
    let cells : c.in_ok-cells.cells.items ≡ replicate (size (layout c)) 0 = room ∙ ap (λ n. replicate n 0) (c.words.ensures ∙ size_held (layout c) (sized c).layout) in
    let processes : c.in_ok-processes.processes.items ≡ at_rest_from (layout c) c.args.limit 0 c.args.procs =
    rest_is (layout c) c.args.limit c.in_ok-processes.processes.items 0 c.args.procs (grind (arith, common_steps)) (λ q below. c.in_ok-processes.ensures.each q below ∙ (let e : q ≡ 0 + q = omega arith in ap (resting (layout c) c.args.limit) e)) in
    λ i. record { layout = layout c; limit = c.args.limit; words = words i; cells = cells i; processes = processes i; tallies = tallies i; history = c.new.ensures.items i }

pub invariant_of-result : goal.invariant_of-result
invariant_of-result c = subst IsWorld (sym (is c)) (world_new (layout c) c.args.limit (sized c) (limited c))

pub returns-clause-ok : goal.returns-clause-ok
returns-clause-ok c = is c
