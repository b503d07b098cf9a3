use Rattle.std.proofs.Common.{◌≡◌, slice_set, sym, ap, ◌∙◌, subst}
use Rattle.rmeworld.proofs.Common.{IsWorld, Falls, machine_after_crash as machine_state_crashed, WorldState, Takes}
use Rattle.rmeworld.specs.Replayed.{world_after_crash}
use Rattle.rmeworld.proofs.Worlds.{found, world_crash}
use Rattle.rmeworld.proofs.WorldSteps.{crash_takes}
use Rattle.rmeworld.proofs.world.World.crash.Goals as goal

abbrev state : goal.After-self-1 → WorldState
state c = record { layout = c.self.inside.layout; limit = c.self.inside.limit; words = c.self.inside.words.items; cells = c.self.inside.cells.items; processes = c.self.inside.processes.items; tallies = c.self.inside.tallies.items; history = c.self.inside.history.items }

abbrev new : goal.After-self-1 → WorldState
new c = record (state c) { processes = slice_set c.self.inside.processes.items c.args.p c.crash.new.self; history = c.push.new.self.items }

is : (c : goal.After-self-1) → new c ≡ world_after_crash (state c) c.args.p
is c =
    let dead = c.crash.ensures ∙ ap machine_state_crashed (sym (found (state c) c.args.p _ c.self.invariant c.if-p-self.false c.index_mut.ensures.value)) in
    λ i. record (state c) { processes = slice_set c.self.inside.processes.items c.args.p (dead i); history = c.in_ok-push.ensures.items i }

pub invariant_of-self-2 : goal.invariant_of-self-2
invariant_of-self-2 c = subst IsWorld (sym (is c)) (world_crash (state c) c.args.p c.self.invariant c.if-p-self.false)

pub returns-clause-crash : goal.returns-clause-crash
returns-clause-crash c =
    subst (λ s. Takes s (Falls c.args.p) (new c)) c.self.view_is (subst (Takes (state c) (Falls c.args.p)) (sym (is c)) (crash_takes (state c) c.args.p c.self.invariant.configured c.if-p-self.false))
