-- One process of a world over its machine state alone: each step and each start of its machine is the definition's.
use Rattle.std.proofs.Common.{◌≡◌, ℕ, Bool, true, false, Option, Some, None, IsSome, IfSome, unwrap_or, refl, sym, ap, ◌∙◌, subst}
use Rattle.crashlab.proofs.Common.{Access, Place, Inside, Layout, IsLayout, Call, Consistent, Mending, script_state_of, Doing, ProcessState, next_process_state, begun_from, MachineState, process_state_of, next_access, machine_after_start, process_state_after}
use Rattle.crashlab.proofs.Common.{IsAllowed, world_event, Change, Nothing, Variant, CountUp, LastSkipped, variant_begun, changed_script_state, change_of, changed_script}
use Rattle.redomail.specs.Tasks.{consistent}
use Rattle.rmeworld.specs.Refused.{start_refusal}
use Rattle.rmeworld.specs.ProcessState.{ScriptState, Free}
use Rattle.rmeworld.specs.MachineState.{machine_after_step}
use Rattle.rmeworld.proofs.Ordered.{IsOrdered, goes, allowed, ordered_stepped, begins}
use Rattle.crashlab.specs.variants.VariantScripts.{variant_consistent}
use Rattle.crashlab.proofs.variants.Configurations.{step_stays, start_stays}

pub record Steady (s : MachineState) : Type 0 where
  pub layout : IsLayout s.layout
  pub ordered : IsOrdered s

some_is : {A : Type 0} (o : Option A) (x d : A) → IsSome o → x ≡ unwrap_or o d → o ≡ Some x
some_is None x d some e = cc
some_is (Some y) x d some e = ap Some (sym e)

pub step_goes : (s : MachineState) (v : ℕ) → Steady s → IfSome (next_access s) (λ a. next_process_state s.layout s.limit (process_state_of s) (world_event s a v) ≡ Some (process_state_of (machine_after_step s v)))
step_goes s v h = by (next_access s) (allowed s) (goes s v h.layout h.ordered)
  where
    by : (o : Option Access) → IfSome o (IsAllowed s) → process_state_of (machine_after_step s v) ≡ process_state_after s o v → IfSome o (λ a. next_process_state s.layout s.limit (process_state_of s) (world_event s a v) ≡ Some (process_state_of (machine_after_step s v)))
    by None allowed goes = tt
    by (Some a) allowed goes = some_is _ _ _ (allowed v) goes

pub step_steady : (s : MachineState) (v : ℕ) → Steady s → Steady (machine_after_step s v)
step_steady s v h = record { layout = subst IsLayout (sym (step_stays s v).0) h.layout; ordered = ordered_stepped s v h.layout h.ordered }

pub start_steady : (s : MachineState) (c : Call) → Steady s → start_refusal s.layout (process_state_of s) c ≡ None → Steady (machine_after_start s c)
start_steady s c h r = record { layout = subst IsLayout (sym (start_stays s c).0) h.layout; ordered = (begins s c h.layout h.ordered r).1 }

-- nothing of a script is changed
pub nothing_changed : (l : Layout) (p : ℕ) (e : ScriptState) → changed_script_state Nothing l p e ≡ e
nothing_changed l p (Doing Mending left) = refl
nothing_changed l p _ = refl

-- the process state of a variant's process, from that of the world's
abbrev pub changed_process_state : Change → Layout → ℕ → ProcessState → ProcessState
changed_process_state change l p process_state = record process_state { script_state = changed_script_state change l p process_state.script_state }

mends : (variant : Variant) (l : Layout) (p : ℕ) → variant_consistent variant l p ≡ changed_script (change_of variant Consistent) l p (consistent l p)
mends CountUp l p = refl
mends LastSkipped l p = refl
mends _ l p = refl

-- a start of a variant's process that is not refused is the definition's
pub start_goes : (variant : Variant) (s : MachineState) (change : Change) (c : Call) → Steady s → start_refusal s.layout (process_state_of s) c ≡ None
    → variant_begun variant s.layout s.index s.lock s.mended (changed_script_state change s.layout s.index (script_state_of s.script_state)) c ≡ Some (changed_process_state (change_of variant c) s.layout s.index (process_state_of (machine_after_start s c)))
start_goes variant s change c h r = by s.lock s.mended (script_state_of s.script_state) c _ (begins s c h.layout h.ordered r).0
  where
    by : (lock : Place) (b : Bool) (e : ScriptState) (c : Call) (x : ProcessState) → begun_from s.layout s.index lock b e c ≡ Some x → variant_begun variant s.layout s.index lock b (changed_script_state change s.layout s.index e) c ≡ Some (changed_process_state (change_of variant c) s.layout s.index x)
    by Inside false Free Consistent x g =
        let is : x ≡ record { lock = Inside; mended = false; barred = false; script_state = Doing Mending (consistent s.layout s.index) } = cc in
        (λ i. Some (record { lock = Inside; mended = false; barred = false; script_state = Doing Mending (mends variant s.layout s.index i) })) ∙ ap (λ y. Some (changed_process_state (change_of variant Consistent) s.layout s.index y)) (sym is)
    by lock b (Doing purpose left) c x g = cc
    by lock true Free Consistent x g = cc
    by lock false Free Consistent x g = cc
    by lock true Free c x g = g ∙ (λ i. Some (record x { script_state = sym (nothing_changed s.layout s.index x.script_state) i }))
    by lock false Free c x g = g ∙ (λ i. Some (record x { script_state = sym (nothing_changed s.layout s.index x.script_state) i }))
