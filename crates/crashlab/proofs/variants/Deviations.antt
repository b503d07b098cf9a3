-- Processes that leave the lock's rows: one that takes a new number, and one that leaves where a crash left it inside.
use Rattle.std.proofs.Common.{◌≡◌, ℕ, zero, suc, Bool, [], ◌∷◌, Option, Some, None, IsSome, IfSome, unwrap_or, refl, sym, ap, ◌∙◌}
use Rattle.crashlab.proofs.Common.{Access, Kind, Take as Takes, Shut as Shuts, Word, access, kind_of, word_of, carried_value, Place, next, Reread, Wait, eqb_self, Layout, script_left, ScriptState as Chore}
use Rattle.crashlab.proofs.Common.{Free as IsFree, Does, MachineState, Nothing, Deviation, Straight, Dropping, Over, Renumber, ExitOnCrash, at_variant, VariantMachineState, variant_process_state_of}
use Rattle.crashlab.proofs.Common.{outside_at, over_by, over_way, silent_outcome, and_deviation}
use Rattle.rmecore.specs.Place.{others}
use Rattle.rmecore.specs.Machine.{after_access}
use Rattle.rmecore.specs.declared.core_call.CoreCall.TheVariants as core
use Rattle.rmecore.proofs.Accesses.{all_allowed}
use Rattle.rmeworld.specs.MachineState.{standing, machine_after_step}
use Rattle.rmeworld.proofs.Scanned.{IsScanned}
use Rattle.crashlab.specs.variants.Variants.{instead, renumber}
use Rattle.crashlab.specs.variants.VariantProcessStates.{outside}
use Rattle.crashlab.proofs.variants.Steady.{Steady, step_steady}
use Rattle.crashlab.proofs.variants.Rows.{process_of, MayGo, Goes, Walks, Agrees, all, free_machine_state, script_goes, lock_goes}

-- outside the section nothing is to be done
out_steady : (s : MachineState) (t : Place) → Steady s → IsScanned s.layout.procs s.index t → Steady (outside_at s t)
out_steady s t h scanned = record { layout = h.layout; ordered = record { held = tt; fits = tt; scanned = scanned } }

-- renumber: a lock whose third reread finds a number taken in the doorway

taken_at : (l : Layout) (limit p : ℕ) (s : Place) (b c : Bool) (v : ℕ) → Steady (free_machine_state l limit p s b c) → Walks Renumber (free_machine_state l limit p s b c) Straight v
taken_at l limit p (Reread core.Lock (suc x ∷ suc k ∷ [])) b c v h =
    record { row = rw (eqb_self p) (refl, refl, refl, refl); steady = out_steady (free_machine_state l limit p (Reread core.Lock (suc x ∷ suc k ∷ [])) b c) _ h (0, refl); deviation = tt; change = refl }
taken_at l limit p (Reread core.Lock (suc x ∷ suc k ∷ i ∷ more)) b c v h = lock_goes Renumber l limit p _ b c v h tt tt
taken_at l limit p (Reread core.Lock (suc x ∷ zero ∷ more)) b c v h = lock_goes Renumber l limit p (Reread core.Lock (suc x ∷ zero ∷ more)) b c v h tt (all (access limit p (Reread core.Lock (suc x ∷ zero ∷ more))) _ (λ a. (refl, refl, refl)))
taken_at l limit p (Reread core.Lock (suc x ∷ [])) b c v h = lock_goes Renumber l limit p (Reread core.Lock (suc x ∷ [])) b c v h tt (refl, refl, refl)
taken_at l limit p (Reread core.Lock (zero ∷ more)) b c v h = lock_goes Renumber l limit p (Reread core.Lock (zero ∷ more)) b c v h tt (all (access limit p (Reread core.Lock (zero ∷ more))) _ (λ a. (refl, refl, refl)))
taken_at l limit p (Reread core.Lock []) b c v h = lock_goes Renumber l limit p (Reread core.Lock []) b c v h tt (refl, refl, refl)
taken_at l limit p s b c v h = lock_goes Renumber l limit p s b c v h tt (all (access limit p s) (Agrees Renumber l.procs limit p s v) (λ a. (refl, refl, refl)))

-- while it scans again and keeps the number k

module _ (l : Layout) (limit p : ℕ) (s : Place) (b c : Bool) (k v : ℕ) where
  abbrev from : MachineState
  from = free_machine_state l limit p s b c

  abbrev over : VariantMachineState
  over = process_of Renumber from (Over k) Nothing

  leads : (kind : Kind) (word : Word) (x : ℕ) (t : Place) → next l.procs limit p s kind word x ≡ Some t → (machine_after_step from v).lock ≡ t → at_variant l p s b c (Over k) (renumber l.procs limit p s (Over k) kind word x) ≡ Some (variant_process_state_of (over_by over k kind v))
  leads Shuts word x t e to = ap (λ o. at_variant l p s b c (Over k) (instead o (Wait k (others l.procs p) None, Straight))) e
  leads Takes word x t e to = ap (λ o. at_variant l p s b c (Over k) (and_deviation Straight o)) e ∙ ap (λ u. Some (record { process_state = outside u; deviation = Straight })) (sym to)
  leads _ word x t e to = ap (λ o. at_variant l p s b c (Over k) (and_deviation (Over k) o)) e ∙ ap (λ u. Some (record { process_state = outside u; deviation = Over k })) (sym to)

  stays : (kind : Kind) → Steady from → Goes Renumber from (Over k) None (over_by over k kind v) silent_outcome v
  stays Shuts h = record { row = tt; steady = out_steady from _ h (0, refl); deviation = tt; change = refl }
  stays Takes h = record { row = tt; steady = out_steady (machine_after_step from v) _ (step_steady from v h) (step_steady from v h).ordered.scanned; deviation = tt; change = refl }
  stays _ h = record { row = tt; steady = out_steady (machine_after_step from v) _ (step_steady from v h) (step_steady from v h).ordered.scanned; deviation = tt; change = refl }

  some_next : (o : Option Place) → IsSome o → (t : Place) × (o ≡ Some t)
  some_next None some = cc
  some_next (Some t) some = (t, refl)

  over_at : Steady from → Walks Renumber from (Over k) v
  over_at h = by (access limit p s) refl (all_allowed (standing from))
    where
      by : (o : Option Access) → access limit p s ≡ o → IfSome o (λ a. (x : ℕ) → IsSome (next l.procs limit p s (kind_of a) (word_of a) (carried_value a x))) → Goes Renumber from (Over k) o (over_way over k o v) silent_outcome v
      by None e allowed = record { row = tt; steady = h; deviation = tt; change = refl }
      by (Some a) e allowed =
          let to = some_next (next l.procs limit p s (kind_of a) (word_of a) (carried_value a v)) (allowed v) in
          let lock : (machine_after_step from v).lock ≡ to.0 = ap (λ o. after_access (standing from) o v) e ∙ ap (λ o. unwrap_or o s) to.1 in
          let rest = stays (kind_of a) h in
          record { row = (leads (kind_of a) (word_of a) (carried_value a v) to.0 to.1 lock, refl, refl, refl); steady = rest.steady; deviation = rest.deviation; change = rest.change }

pub renumber_goes : (s : MachineState) (d : Deviation) (v : ℕ) → Steady s → MayGo Renumber d → Walks Renumber s d v
renumber_goes s d v h may = by s.script_state d h may
  where
    by : (e : Chore) (d : Deviation) → Steady (record s { script_state = e }) → MayGo Renumber d → Walks Renumber (record s { script_state = e }) d v
    by IsFree Straight h may = taken_at s.layout s.limit s.index s.lock s.mended s.barred v h
    by IsFree (Over k) h may = over_at s.layout s.limit s.index s.lock s.mended s.barred k v h
    by (Does purpose job) d h may = script_goes Renumber (record s { script_state = Does purpose job }) d v h may purpose (script_left job) refl
    by e Dropping h may = absurd may

-- exit on crash: the third reread finds the process inside

inside_at : (l : Layout) (limit p : ℕ) (s : Place) (b c : Bool) (v : ℕ) → Steady (free_machine_state l limit p s b c) → Walks ExitOnCrash (free_machine_state l limit p s b c) Straight v
inside_at l limit p (Reread d (zero ∷ suc k ∷ [])) b c (suc i) h =
    record { row = rw (eqb_self p) (refl, refl, refl, refl); steady = out_steady (free_machine_state l limit p (Reread d (zero ∷ suc k ∷ [])) b c) _ h tt; deviation = tt; change = refl }
inside_at l limit p (Reread d (zero ∷ suc k ∷ [])) b c zero h = lock_goes ExitOnCrash l limit p (Reread d (zero ∷ suc k ∷ [])) b c zero h tt (refl, refl, refl)
inside_at l limit p (Reread d (zero ∷ suc k ∷ i ∷ more)) b c v h = lock_goes ExitOnCrash l limit p (Reread d (zero ∷ suc k ∷ i ∷ more)) b c v h tt tt
inside_at l limit p (Reread d (zero ∷ zero ∷ [])) b c v h = lock_goes ExitOnCrash l limit p (Reread d (zero ∷ zero ∷ [])) b c v h tt (refl, refl, refl)
inside_at l limit p (Reread d (zero ∷ zero ∷ i ∷ more)) b c v h = lock_goes ExitOnCrash l limit p (Reread d (zero ∷ zero ∷ i ∷ more)) b c v h tt tt
inside_at l limit p (Reread d (suc x ∷ k ∷ [])) b c v h = lock_goes ExitOnCrash l limit p (Reread d (suc x ∷ k ∷ [])) b c v h tt (refl, refl, refl)
inside_at l limit p (Reread d (suc x ∷ k ∷ i ∷ more)) b c v h = lock_goes ExitOnCrash l limit p (Reread d (suc x ∷ k ∷ i ∷ more)) b c v h tt tt
inside_at l limit p (Reread d (zero ∷ [])) b c v h = lock_goes ExitOnCrash l limit p (Reread d (zero ∷ [])) b c v h tt (refl, refl, refl)
inside_at l limit p (Reread d (suc x ∷ [])) b c v h = lock_goes ExitOnCrash l limit p (Reread d (suc x ∷ [])) b c v h tt (refl, refl, refl)
inside_at l limit p (Reread d []) b c v h = lock_goes ExitOnCrash l limit p (Reread d []) b c v h tt (refl, refl, refl)
inside_at l limit p s b c v h = lock_goes ExitOnCrash l limit p s b c v h tt (all (access limit p s) (Agrees ExitOnCrash l.procs limit p s v) (λ a. (refl, refl, refl)))

dropped_at : (s : MachineState) (v : ℕ) → Steady (record s { script_state = IsFree }) → Walks ExitOnCrash (record s { script_state = IsFree }) Dropping v
dropped_at s v h = record { row = rw (eqb_self s.index) (refl, refl, refl, refl); steady = out_steady (record s { script_state = IsFree }) s.lock h h.ordered.scanned; deviation = tt; change = refl }

pub exit_goes : (s : MachineState) (d : Deviation) (v : ℕ) → Steady s → MayGo ExitOnCrash d → Walks ExitOnCrash s d v
exit_goes s d v h may = by s.script_state d h may
  where
    by : (e : Chore) (d : Deviation) → Steady (record s { script_state = e }) → MayGo ExitOnCrash d → Walks ExitOnCrash (record s { script_state = e }) d v
    by IsFree Straight h may = inside_at s.layout s.limit s.index s.lock s.mended s.barred v h
    by IsFree Dropping h may = dropped_at s v h
    by (Does purpose job) Straight h may = script_goes ExitOnCrash (record s { script_state = Does purpose job }) Straight v h may purpose (script_left job) refl
    by (Does purpose job) Dropping h may = script_goes ExitOnCrash (record s { script_state = Does purpose job }) Dropping v h may purpose (script_left job) refl
    by e (Over k) h may = absurd may
