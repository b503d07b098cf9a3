-- A step of a variant's process: what has to be proved of it, and the proof where its definition has the lock's row.
use Rattle.std.proofs.Common.{◌≡◌, ℕ, Bool, Option, Some, None, IfSome, refl, sym, ap, ◌∙◌, subst}
use Rattle.crashlab.proofs.Common.{Access, access, kind_of, word_of, carried_value, Place, next, Layout, Reply, script_left, Script, ScriptState as Chore, Free as IsFree, Does, Outcome, Purpose, answer_by}
use Rattle.crashlab.proofs.Common.{done_by, script_state_of, Doing, next_process_state, outer_by, MachineState, access_by, process_state_of, next_access, outcome, world_event, Change, Nothing, Deviation, Straight, Dropping, Over}
use Rattle.crashlab.proofs.Common.{Variant, Renumber, ExitOnCrash, beside, variant_process_state, variant_outer, at_variant, variant_moved, variant_outer_by, variant_answer_by, variant_done_by}
use Rattle.crashlab.proofs.Common.{variant_answer_at, variant_done_at, VariantMachineState, variant_process_state_of, variant_next_access, variant_stepped, variant_outcome, plain_outcome, and_deviation}
use Rattle.std.proofs.lemmas.Option.{IfSome_then}
use Rattle.rmecore.specs.World.{step_deed}
use Rattle.rmecore.specs.Machine.{answer}
use Rattle.rmeworld.specs.Answered.{by_lock}
use Rattle.rmeworld.specs.ProcessState.{ScriptState, moved_by, at_lock}
use Rattle.rmeworld.specs.MachineState.{machine_after_step}
use Rattle.crashlab.specs.variants.Variants.{variant_next, variant_deed, variant_answer}
use Rattle.crashlab.specs.variants.VariantProcessStates.{VariantProcessState}
use Rattle.crashlab.proofs.variants.Steady.{Steady, step_goes, step_steady, nothing_changed}

-- the definition's step leads from the one process state to the other, and this is its outcome
abbrev pub IsRow : Variant → MachineState → VariantProcessState → VariantProcessState → Outcome → ℕ → Access → Type 0
IsRow variant s from to o v a =
    (variant_process_state variant s.layout s.limit from (world_event s a v) ≡ Some to) × (variant_outer variant from (world_event s a v) ≡ o.progress.outer) × (variant_answer_at variant from (kind_of a) (carried_value a v) ≡ o.answer)
    × (variant_done_at variant from (kind_of a) (carried_value a v) ≡ o.progress.done)

abbrev pub process_of : Variant → MachineState → Deviation → Change → VariantMachineState
process_of variant s d change = record { variant = variant; machine_state = s; deviation = d; change = change }

-- the next step is the definition's
abbrev pub Follows : VariantMachineState → ℕ → Type 0
Follows t v = IfSome (variant_next_access t) (IsRow t.variant t.machine_state (variant_process_state_of t) (variant_process_state_of (variant_stepped t v)) (variant_outcome t v) v)

-- the variant states that the variant may have
abbrev pub MayGo : Variant → Deviation → Type 0
MayGo Renumber Dropping = ⊥
MayGo Renumber d = Unit {0}
MayGo ExitOnCrash (Over k) = ⊥
MayGo ExitOnCrash d = Unit {0}
MayGo variant Straight = Unit {0}
MayGo variant d = ⊥

-- what has to be proved of a process whose script is not changed, by its next step and what that leaves: the step is the
-- definition's, and what it leaves is again such a process
pub record Goes (variant : Variant) (s : MachineState) (d : Deviation) (o : Option Access) (to : VariantMachineState) (reports : Outcome) (v : ℕ) : Type 0 where
  pub row : IfSome o (IsRow variant s (variant_process_state_of (process_of variant s d Nothing)) (variant_process_state_of to) reports v)
  pub steady : Steady to.machine_state
  pub deviation : MayGo variant to.deviation
  pub change : to.change ≡ Nothing

-- this holds of a process of the variant with this variant state
abbrev pub Walks : Variant → MachineState → Deviation → ℕ → Type 0
Walks variant s d v = Goes variant s d (variant_next_access (process_of variant s d Nothing)) (variant_stepped (process_of variant s d Nothing) v) (variant_outcome (process_of variant s d Nothing) v) v

pub all : {A : Type 0} (o : Option A) (P : A → Type 0) → ((a : A) → P a) → IfSome o P
all None P h = tt
all (Some a) P h = h a

-- the variant does what the lock does
abbrev IsMoved : Variant → MachineState → ScriptState → Deviation → ℕ → Access → Type 0
IsMoved variant s e d v a =
    let kind = kind_of a in
    let x = carried_value a v in
    (variant_moved variant s.layout s.limit s.index s.lock s.mended s.barred e d kind (word_of a) x ≡ beside d (moved_by s.layout s.limit s.index s.lock s.mended s.barred e kind (word_of a) x))
    × (variant_outer_by variant s.index s.lock e d kind x ≡ outer_by s.index s.lock e kind x) × (variant_answer_by variant s.lock s.mended s.barred e d kind x ≡ answer_by s.lock s.mended s.barred e kind x)
    × (variant_done_by variant s.lock e d kind x ≡ done_by s.lock e kind x)

plain_process_state : (variant : Variant) (s : MachineState) (d : Deviation) → variant_process_state_of (process_of variant s d Nothing) ≡ record { process_state = process_state_of s; deviation = d }
plain_process_state variant s d = λ i. record { process_state = record (process_state_of s) { script_state = nothing_changed s.layout s.index (script_state_of s.script_state) i }; deviation = d }

moves_on : (variant : Variant) (s : MachineState) (d : Deviation) (v : ℕ) → Steady s → MayGo variant d → IfSome (next_access s) (IsMoved variant s (script_state_of s.script_state) d v)
    → Goes variant s d (next_access s) (process_of variant (machine_after_step s v) d Nothing) (plain_outcome s v) v
moves_on variant s d v h may moved = record { row = by (next_access s) moved (step_goes s v h); steady = step_steady s v h; deviation = may; change = refl }
  where
    from : variant_process_state_of (process_of variant s d Nothing) ≡ record { process_state = process_state_of s; deviation = d }
    from = plain_process_state variant s d

    by : (o : Option Access) → IfSome o (IsMoved variant s (script_state_of s.script_state) d v) → IfSome o (λ a. next_process_state s.layout s.limit (process_state_of s) (world_event s a v) ≡ Some (process_state_of (machine_after_step s v)))
        → IfSome o (IsRow variant s (variant_process_state_of (process_of variant s d Nothing)) (variant_process_state_of (process_of variant (machine_after_step s v) d Nothing)) (outcome s o v) v)
    by None x y = tt
    by (Some a) x y = (
      ap (λ u. variant_process_state variant s.layout s.limit u (world_event s a v)) from ∙ x.0 ∙ ap (beside d) y ∙ sym (ap (λ u. Some u) (plain_process_state variant (machine_after_step s v) d)),
      ap (λ u. variant_outer variant u (world_event s a v)) from ∙ x.1,
      ap (λ u. variant_answer_at variant u (kind_of a) (carried_value a v)) from ∙ x.2,
      ap (λ u. variant_done_at variant u (kind_of a) (carried_value a v)) from ∙ x.3,
    )

-- a script's step
pub script_goes : (variant : Variant) (s : MachineState) (d : Deviation) (v : ℕ) → Steady s → MayGo variant d → (purpose : Purpose) (x : Script Reply) → script_state_of s.script_state ≡ Doing purpose x
    → Goes variant s d (next_access s) (process_of variant (machine_after_step s v) d Nothing) (plain_outcome s v) v
script_goes variant s d v h may purpose x at =
    moves_on variant s d v h may
    (subst (λ e. IfSome (access_by s.limit s.index s.lock e) (IsMoved variant s e d v)) (sym at) (all (access_by s.limit s.index s.lock (Doing purpose x)) _ (λ a. (refl, refl, refl, refl))))

-- a step of the lock's part where the variant has the lock's row

abbrev pub free_machine_state : Layout → ℕ → ℕ → Place → Bool → Bool → MachineState
free_machine_state l limit p s b c = record { layout = l; limit = limit; index = p; lock = s; mended = b; barred = c; script_state = IsFree }

abbrev pub Agrees : Variant → ℕ → ℕ → ℕ → Place → ℕ → Access → Type 0
Agrees variant n limit p place v a =
    (variant_next variant n limit p place Straight (kind_of a) (word_of a) (carried_value a v) ≡ and_deviation Straight (next n limit p place (kind_of a) (word_of a) (carried_value a v)))
    × (variant_deed variant p place Straight (kind_of a) (carried_value a v) ≡ step_deed p place (kind_of a) (carried_value a v))
    × (variant_answer variant place Straight (kind_of a) (carried_value a v) ≡ answer place (kind_of a) (carried_value a v))

pub after_next : (l : Layout) (p : ℕ) (s : Place) (b c : Bool) (o : Option Place) → at_variant l p s b c Straight (and_deviation Straight o) ≡ beside Straight (at_lock l p s b c o)
after_next l p s b c None = refl
after_next l p s b c (Some t) = refl

pub lock_goes : (variant : Variant) (l : Layout) (limit p : ℕ) (s : Place) (b c : Bool) (v : ℕ) → Steady (free_machine_state l limit p s b c) → MayGo variant Straight → IfSome (access limit p s) (Agrees variant l.procs limit p s v)
    → Goes variant (free_machine_state l limit p s b c) Straight (access limit p s) (process_of variant (machine_after_step (free_machine_state l limit p s b c) v) Straight Nothing) (plain_outcome (free_machine_state l limit p s b c) v) v
lock_goes variant l limit p s b c v h may agree =
    moves_on variant (free_machine_state l limit p s b c) Straight v h may (IfSome_then (access limit p s) agree (λ a k. (ap (at_variant l p s b c Straight) k.0 ∙ after_next l p s b c _, k.1, ap (by_lock c) k.2, k.2)))

-- where the variant changes nothing
pub plain_goes : (variant : Variant) (s : MachineState) (v : ℕ) → Steady s → MayGo variant Straight → ((a : Access) → Agrees variant s.layout.procs s.limit s.index s.lock v a)
    → Goes variant s Straight (next_access s) (process_of variant (machine_after_step s v) Straight Nothing) (plain_outcome s v) v
plain_goes variant s v h may agree = by s.script_state h
  where
    by : (e : Chore) → Steady (record s { script_state = e }) → Goes variant (record s { script_state = e }) Straight (next_access (record s { script_state = e })) (process_of variant (machine_after_step (record s { script_state = e }) v) Straight Nothing) (plain_outcome (record s { script_state = e }) v) v
    by IsFree h = lock_goes variant s.layout s.limit s.index s.lock s.mended s.barred v h may (all (access s.limit s.index s.lock) _ agree)
    by (Does purpose job) h = script_goes variant (record s { script_state = Does purpose job }) Straight v h may purpose (script_left job) refl
