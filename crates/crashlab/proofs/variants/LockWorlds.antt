-- What a world of Right does is what a world of the lock does.
use Rattle.std.proofs.Common.{◌≡◌, ℕ, zero, suc, ◌+◌, ◌<◌, false, List, [], ◌∷◌, ◌++◌, map, slice_set, nat_lt, if◌then◌else◌, Option, Some, None, IfSome, refl, sym, ap, ◌∙◌, subst, lt-ltb}
use Rattle.crashlab.proofs.Common.{Nothing, Right, Consistent, Access, Place, Inside, Deed, Layout, words_of, Call, Outcome, mail_by, or_else, words_by, cells_by, the_deed, list_of}
use Rattle.crashlab.proofs.Common.{MachineState, process_state_of, next_access, access_by, script_state_of, outcome, machine_after_start as machine_state_started, StoresOwn, IsLockWorld, VariantMachineState, variant_next_access, variant_stepped}
use Rattle.crashlab.proofs.Common.{variant_outcome, variant_started, variant_crashed, change_of, VariantState, machine_state_at, access_at, start_refusal, advance_refusal, unless_step, variant_step_report, stepped_if}
use Rattle.crashlab.proofs.Common.{variant_after_step, advanced_if, crash_deed, variant_after_crash, at_rest_from, new_world, found_by, outcome_of}
use Rattle.std.proofs.lemmas.List.{map-set}
use Rattle.std.proofs.Math.ListN.{get_or-map}
use Rattle.judge.specs.Legal.{IsLegal}
use Rattle.rmecore.specs.declared.refusal.Refusal.TheVariants.{NoSuchProcess, NothingToDo}
use Rattle.rmecore.specs.Machine.{access}
use Rattle.rmecore.specs.Place.{Rest, Dead}
use Rattle.rmecore.specs.Refused.{is_idle as is_idle_place}
use Rattle.rmeworld.specs.Law.{EveryExecutionIsLegal}
use Rattle.rmeworld.specs.Refused.{is_idle, is_idle_by, start_refusal as process_state_refusal}
use Rattle.rmeworld.specs.Replayed as world
use Rattle.rmeworld.specs.ProcessState.{ScriptState, Free}
use Rattle.rmeworld.specs.MachineState.{resting, machine_after_step as machine_state_stepped, machine_after_crash as machine_state_crashed}
use Rattle.rmeworld.specs.World.{at_first}
use Rattle.rmeworld.specs.WorldState.{WorldState, IsConfigured, machine_state_at as world_machine_state, new_refusal, at_rest_from as world_rest, new_world as world_new, absent_machine}
use Rattle.rmeworld.proofs.Beginning.{follows_new}
use Rattle.rmeworld.proofs.Following.{Follows, below_if, follows_started, follows_advanced, follows_crashed}
use Rattle.rmeworld.proofs.Ordered.{owns}
use Rattle.rmeworld.proofs.Worlds.{deeds_are}
use Rattle.crashlab.specs.variants.LockWorlds.{right_process, as_variant}
use Rattle.crashlab.specs.variants.VariantWorlds.{variant_after_start, crash_refusal}

-- its processes

machine_state_is : (w : WorldState) (p : ℕ) → machine_state_at (as_variant w).processes p ≡ right_process (world_machine_state w.processes p)
machine_state_is w p = get_or-map right_process w.processes p absent_machine

set_is : (w : WorldState) (p : ℕ) (t : MachineState) (u : VariantMachineState) → u ≡ right_process t → map right_process (slice_set w.processes p t) ≡ slice_set (as_variant w).processes p u
set_is w p t u is = map-set right_process w.processes p t ∙ ap (slice_set (map right_process w.processes) p) (sym is)

rests_are : (l : Layout) (limit p n : ℕ) → map right_process (world_rest l limit p n) ≡ at_rest_from Right l limit p n
rests_are l limit p zero = refl
rests_are l limit p (suc n) = ap (λ rest. right_process (resting l limit p) ∷ rest) (rests_are l limit (p + 1) n)

-- its calls leave what the world's do

no_change : (c : Call) → change_of Right c ≡ Nothing
no_change Consistent = refl
no_change _ = refl

started_is : (w : WorldState) (p : ℕ) (c : Call) → as_variant (world.world_after_start w p c) ≡ variant_after_start (as_variant w) p c
started_is w p c =
    let t : MachineState = machine_state_started (world_machine_state w.processes p) c in
    let is : variant_started (machine_state_at (as_variant w).processes p) c ≡ right_process t = ap (λ u. variant_started u c) (machine_state_is w p) ∙ ap (λ change. record (right_process t) { change = change }) (no_change c) in
    ap (λ ts. record (as_variant w) { processes = ts }) (set_is w p t (variant_started (machine_state_at (as_variant w).processes p) c) is)

crashed_is : (w : WorldState) (p : ℕ) → as_variant (world.world_after_crash w p) ≡ variant_after_crash (as_variant w) p
crashed_is w p =
    ap (λ ts. record (as_variant w) { processes = ts }) (set_is w p (machine_state_crashed (world_machine_state w.processes p)) (variant_crashed (machine_state_at (as_variant w).processes p)) (ap variant_crashed (machine_state_is w p)))

access_is : (w : WorldState) (p : ℕ) → access_at (as_variant w) p ≡ next_access (world_machine_state w.processes p)
access_is w p = ap variant_next_access (machine_state_is w p)

advanced_is : (w : WorldState) (p : ℕ) → as_variant (world.world_after_step w p) ≡ variant_after_step (as_variant w) p
advanced_is w p = by (next_access (world_machine_state w.processes p)) ∙ ap (advanced_if (as_variant w) p) (sym (access_is w p))
  where
    by : (o : Option Access) → as_variant (world.advanced_if w p o) ≡ advanced_if (as_variant w) p o
    by None = refl
    by (Some a) =
        let v : ℕ = found_by (as_variant w) a in
        ap (λ ts. record (as_variant w) { words = words_by w.words a; cells = cells_by w.cells a; processes = ts })
        (set_is w p (machine_state_stepped (world_machine_state w.processes p) v) (variant_stepped (machine_state_at (as_variant w).processes p) v) (ap (λ u. variant_stepped u v) (machine_state_is w p)))

-- and its steps are the same deeds
deed_is : (w : WorldState) (p : ℕ) → IsConfigured w.layout w.limit w.words w.processes w.tallies → p < w.layout.procs → (world.world_step_report w p).deed ≡ (variant_step_report (as_variant w) p).deed
deed_is w p configured below = by (next_access t) refl ∙ ap (λ o. (stepped_if (as_variant w) p o).deed) (sym (access_is w p))
  where
    t : MachineState
    t = world_machine_state w.processes p

    by : (o : Option Access) → next_access t ≡ o → (world.stepped_if w p o).deed ≡ (stepped_if (as_variant w) p o).deed
    by None is = refl
    by (Some a) is =
        let v : ℕ = found_by (as_variant w) a in
        let own : StoresOwn t.index a = subst (λ o. IfSome o (StoresOwn t.index)) is (owns t) in
        let reports : outcome t (Some a) v ≡ outcome_of (as_variant w) p a = ap (λ o. outcome t o v) (sym is) ∙ ap (λ u. variant_outcome u v) (sym (machine_state_is w p)) in
        ap the_deed (sym (deeds_are w p a t.index configured below own is) ∙ ap (λ (o : Outcome). or_else o.progress.outer (mail_by w.layout p (words_of w.cells) a)) reports)

-- a process with a next step has a call under way

place_is_busy : (limit p : ℕ) (s : Place) (a : Access) → access limit p s ≡ Some a → is_idle_place s ≡ false
place_is_busy limit p Rest a is = cc
place_is_busy limit p Dead a is = cc
place_is_busy limit p Inside a is = cc
place_is_busy limit p _ a is = refl

is_busy : (t : MachineState) (o : Option Access) → next_access t ≡ o → unless_step o ≡ None → is_idle (process_state_of t) ≡ false
is_busy t None is may = cc
is_busy t (Some a) is may = by (script_state_of t.script_state) is
  where
    by : (e : ScriptState) → access_by t.limit t.index t.lock e ≡ Some a → is_idle_by t.lock e ≡ false
    by Free is = place_is_busy t.limit t.index t.lock a is
    by _ is = refl

pub advanced_layout : (s : VariantState) (p : ℕ) → (variant_after_step s p).layout ≡ s.layout
advanced_layout s p = by (access_at s p)
  where
    by : (o : Option Access) → (advanced_if s p o).layout ≡ s.layout
    by None = refl
    by (Some a) = refl

-- the world of Right of these sizes after these deeds, as the lock's world
pub record IsLock (l : Layout) (s : VariantState) (history : List Deed) : Type 0 where
  pub world : WorldState
  pub same : as_variant world ≡ s
  pub layout : s.layout ≡ l
  pub follows : Follows at_first world history

pub lock_new : (l : Layout) (limit : ℕ) → new_refusal l limit ≡ None → IsLock l (new_world Right l limit) []
lock_new l limit may =
    record { world = world_new l limit; same = ap (λ ts. record (new_world Right l limit) { processes = ts }) (rests_are l limit 0 l.procs); layout = refl; follows = follows_new l limit may }

module _ (l : Layout) (s : VariantState) (h : List Deed) (p : ℕ) (lock : IsLock l s h) where
  pub lock_started : (c : Call) → start_refusal s p c ≡ None → IsLock l (variant_after_start s p c) h
  lock_started c may =
      let w : WorldState = lock.world in
      let refusal : world.start_refusal w p c ≡ start_refusal (as_variant w) p c = ap (λ (u : VariantMachineState). if nat_lt p w.layout.procs then process_state_refusal w.layout (process_state_of u.machine_state) c else Some NoSuchProcess) (sym (machine_state_is w p)) in
      record {
        world = world.world_after_start w p c;
        same = started_is w p c ∙ ap (λ x. variant_after_start x p c) lock.same;
        layout = lock.layout;
        follows = follows_started w p c lock.follows (refusal ∙ ap (λ x. start_refusal x p c) lock.same ∙ may);
      }

  pub lock_crashed : crash_refusal s p ≡ None → IsLock l (variant_after_crash s p) (h ++ crash_deed p ∷ [])
  lock_crashed may =
      record {
        world = world.world_after_crash lock.world p;
        same = crashed_is lock.world p ∙ ap (λ x. variant_after_crash x p) lock.same;
        layout = lock.layout;
        follows = follows_crashed lock.world p lock.follows (ap (λ x. crash_refusal x p) lock.same ∙ may);
      }

  pub lock_advanced : advance_refusal s p ≡ None → IsLock l (variant_after_step s p) (h ++ list_of (variant_step_report s p).deed)
  lock_advanced may =
      let w : WorldState = lock.world in
      let has = below_if p w.layout.procs (unless_step (access_at (as_variant w) p)) (ap (λ x. advance_refusal x p) lock.same ∙ may) in
      let idle = is_busy (world_machine_state w.processes p) (access_at (as_variant w) p) (sym (access_is w p)) has.1 in
      let may' : world.advance_refusal w p ≡ None = rw (lt-ltb p w.layout.procs has.0) (ap (λ b. if b then Some NothingToDo else None) idle) in
      let deed = deed_is w p lock.follows.world.configured has.0 ∙ ap (λ x. (variant_step_report x p).deed) lock.same in
      record {
        world = world.world_after_step w p;
        same = advanced_is w p ∙ ap (λ x. variant_after_step x p) lock.same;
        layout = advanced_layout s p ∙ lock.layout;
        follows = subst (λ d. Follows at_first (world.world_after_step w p) (h ++ list_of d)) deed (follows_advanced w p lock.follows may');
      }

pub lock_legal : EveryExecutionIsLegal → (l : Layout) (s : VariantState) (h : List Deed) → IsLock l s h → IsLegal l.procs l.cap h
lock_legal law l s h lock =
    let w : WorldState = lock.world in
    let comes = lock.follows.comes in
    subst (λ (x : Layout). IsLegal x.procs x.cap h) (ap (λ (x : VariantState). x.layout) lock.same ∙ lock.layout)
    (subst (IsLegal w.layout.procs w.layout.cap) comes.done (law w.layout w.limit comes.execution lock.follows.world.sized.layout comes.reports))

pub lock_world : {l : Layout} {s : VariantState} {h : List Deed} → IsLock l s h → IsLockWorld s h
lock_world lock =
    let comes = lock.follows.comes in
    record { world = lock.world; same = lock.same; execution = comes.execution; reports = comes.reports; last = comes.last; done = comes.done }
