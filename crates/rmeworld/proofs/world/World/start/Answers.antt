use Rattle.std.proofs.Common.{◌≡◌, ℕ, ◌<◌, ◌≤◌, slice_set, Option, Some, None, refl, sym, ap, ◌∙◌, subst, le-ltb, lt-ltb}
use Rattle.rmecore.specs.declared.refusal.Refusal.{Refusal}
use Rattle.rmecore.specs.declared.refusal.Refusal.TheVariants.{NoSuchProcess}
use Rattle.rmeworld.proofs.Common.{Call, MachineState, new_tally, IsWorld, world_after_start, Begins, next_process_state, process_state_of, machine_state_started, WorldState, machine_state_at, process_state_at, Takes}
use Rattle.rmeworld.specs.Refused.{start_refusal as process_state_refusal}
use Rattle.rmeworld.specs.Replayed.{start_refusal}
use Rattle.rmeworld.proofs.Worlds.{found, own_found, world_start}
use Rattle.rmeworld.proofs.WorldSteps.{start_takes}
use Rattle.rmeworld.proofs.world.World.start.Goals as goal

start_past : (s : WorldState) (p : ℕ) (call : Call) → s.layout.procs ≤ p → start_refusal s p call ≡ Some NoSuchProcess
start_past s p call h = rw (le-ltb p s.layout.procs h) refl

start_below : (s : WorldState) (p : ℕ) (call : Call) (t : MachineState) (o : Option Refusal) → IsWorld s → p < s.layout.procs → machine_state_at s.processes p ≡ t
    → process_state_refusal t.layout (process_state_of t) call ≡ o
    → start_refusal s p call ≡ o
start_below s p call t o world below same e =
    let layout = (world.configured.configurations p below).0 in
    let here : process_state_refusal s.layout (process_state_at s.processes p) call ≡ o =
    ap (λ l. process_state_refusal l (process_state_at s.processes p) call) (sym layout)
    ∙ (λ i. process_state_refusal (same i).layout (process_state_of (same i)) call)
    ∙ e in
    rw (lt-ltb p s.layout.procs below) here

abbrev state : goal.After-self-2-1 → WorldState
state c = record { layout = c.self.inside.layout; limit = c.self.inside.limit; words = c.self.inside.words.items; cells = c.self.inside.cells.items; processes = c.self.inside.processes.items; tallies = c.self.inside.tallies.items; history = c.self.inside.history.items }

machine_state : (c : goal.After-self-2-1) → machine_state_at (state c).processes c.args.p ≡ c.index_mut.result.now
machine_state c = found (state c) c.args.p _ c.self.invariant c.if-p-self.false c.index_mut.ensures.value

begun : (c : goal.After-self-2-1) → c.start.new.self ≡ machine_state_started (machine_state_at (state c).processes c.args.p) c.args.call
begun c = c.in_ok-start.ensures.exact ∙ ap (λ s. machine_state_started s c.args.call) (sym (machine_state c))

to : (c : goal.After-self-2-1) → next_process_state (machine_state_at (state c).processes c.args.p).layout (machine_state_at (state c).processes c.args.p).limit (process_state_at (state c).processes c.args.p) (Begins (machine_state_at (state c).processes c.args.p).index c.args.call)
    ≡ Some (process_state_of (machine_state_started (machine_state_at (state c).processes c.args.p) c.args.call))
to c = (λ i. next_process_state (machine_state c i).layout (machine_state c i).limit (process_state_of (machine_state c i)) (Begins (machine_state c i).index c.args.call)) ∙ c.in_ok-start.ensures.process_state ∙ ap (λ s. Some (process_state_of s)) (begun c)

abbrev new : goal.After-self-2-1 → WorldState
new c = record (state c) { processes = slice_set c.self.inside.processes.items c.args.p c.start.new.self; tallies = slice_set c.self.inside.tallies.items c.args.p (new_tally c.index.result.now) }

is : (c : goal.After-self-2-1) → new c ≡ world_after_start (state c) c.args.p c.args.call
is c =
    let own = own_found (state c) c.args.p _ c.self.invariant c.if-p-self.false c.index.ensures in
    λ i. record (state c) { processes = slice_set c.self.inside.processes.items c.args.p (begun c i); tallies = slice_set c.self.inside.tallies.items c.args.p (new_tally (sym own i)) }

pub returns-then-p-self-clause-refused : goal.returns-then-p-self-clause-refused
returns-then-p-self-clause-refused c = start_past c.args.self.now c.args.p c.args.call (subst (λ (s : WorldState). s.layout.procs ≤ c.args.p) c.self.view_is c.if-p-self.true)

pub invariant_of-self-2 : goal.invariant_of-self-2
invariant_of-self-2 c = subst IsWorld (sym (is c)) (world_start (state c) c.args.p c.args.call c.self.invariant c.if-p-self.false (to c))

pub returns-clause-start : goal.returns-clause-start
returns-clause-start c =
    subst (λ s. Takes s (Begins c.args.p c.args.call) (new c)) c.self.view_is
    (subst (Takes (state c) (Begins c.args.p c.args.call)) (sym (is c)) (start_takes (state c) c.args.p c.args.call _ _ c.self.invariant.configured c.if-p-self.false (to c)))

pub returns-clause-accepted : goal.returns-clause-accepted
returns-clause-accepted c =
    subst (λ (s : WorldState). start_refusal s c.args.p c.args.call ≡ None) c.self.view_is
    (start_below (state c) c.args.p c.args.call _ None c.self.invariant c.if-p-self.false (machine_state c) c.in_ok-start.ensures.accepted)

pub returns-clause-ok : goal.returns-clause-ok
returns-clause-ok c = subst (λ (s : WorldState). new c ≡ world_after_start s c.args.p c.args.call) c.self.view_is (is c)
