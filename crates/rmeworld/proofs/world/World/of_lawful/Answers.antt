use Rattle.std.proofs.Common.{◌≡◌, ◌+◌, ◌<◌, ℕ, length, map, sym, ap, ◌∙◌, subst, arith}
use Rattle.rmeworld.proofs.Common.{common_steps, new_tally, Layout, layout_of, IsWorld, resting, machine_after_crash, WorldState, machine_state_at, image_world}
use Rattle.rmeworld.proofs.FromImages.{crashed_is, image_world_is}
use Rattle.rmeworld.proofs.world.World.of_lawful.Goals as goal

abbrev made : goal.After-new → WorldState
made c = record { layout = c.layout-layout.result; limit = c.args.image.now.limit; words = c.in_ok-words.words.items; cells = c.in_ok-cells.cells.items; processes = c.in_ok-processes.processes.items; tallies = c.in_ok-tallies.tallies.items; history = c.new.result.items }

is : (c : goal.After-new) → made c ≡ image_world c.args.image.now
is c =
    let image = c.args.image.now in
    let l : Layout = layout_of image in
    let layout : c.layout-layout.result ≡ l = c.layout-layout.ensures in
    let words = c.in_ok-words.ensures.items ∙ c.as_slice.ensures in
    let cells = c.in_ok-cells.ensures.items ∙ c.as_slice-2.ensures in
    let tallies = c.in_ok-tallies.ensures.ok ∙ ap (map new_tally) c.as_slice-3.ensures in
    let each : (q : ℕ) → q < l.procs → machine_state_at c.in_ok-processes.processes.items q ≡ machine_after_crash (resting l image.limit q) =
    subst (λ (x : Layout). (q : ℕ) → q < x.procs → machine_state_at c.in_ok-processes.processes.items q ≡ machine_after_crash (resting x image.limit q)) layout c.in_ok-processes.ensures.each in
    let long : length c.in_ok-processes.processes.items ≡ c.layout-layout.result.procs = grind (arith, common_steps) in
    let processes = crashed_is l image.limit c.in_ok-processes.processes.items 0 l.procs (long ∙ ap (λ (x : Layout). x.procs) layout) (λ q below. each q below ∙ (let e : q ≡ 0 + q = omega arith in ap (λ x. machine_after_crash (resting l image.limit x)) e)) in
    λ i. record { layout = layout i; limit = image.limit; words = words i; cells = cells i; processes = processes i; tallies = tallies i; history = c.new.ensures.items i }

pub invariant_of-result : goal.invariant_of-result
invariant_of-result c = subst IsWorld (sym (is c)) (image_world_is c.args.image.now c.requires)

pub returns-clause-ok : goal.returns-clause-ok
returns-clause-ok c = is c
