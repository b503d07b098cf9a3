-- Waiters that go by a changed row: one that does not look, and one that passes an equal number.
use Rattle.std.proofs.Common.{◌≡◌, ℕ, ◌+◌, Bool, true, false, ◌||◌, ◌==◌, nat_lt, if◌then◌else◌, List, [], ◌∷◌, Option, Some, None, refl, sym, ap, ◌∙◌, subst}
use Rattle.crashlab.proofs.Common.{cond_both, Access, Load, Look as Looks, Weigh as Weighs, Choosing as ChoosingOf, Number as NumberOf, access, place_of, Place, Reread, Wait, is_before, eqb_self}
use Rattle.crashlab.proofs.Common.{Layout, Reply, script_left, Script, Get as Asks, Put as Writes, Done, ScriptState as Chore, Free as IsFree, Does, Purpose, script_state_of, Doing, MachineState, access_by}
use Rattle.crashlab.proofs.Common.{next_access, Nothing, Deviation, Straight, NoLook, NoTies, weigh_for_look, silent_outcome, variant_stepped, plain_outcome, by_row, variant_access}
use Rattle.rmecore.specs.Place.{Door, without, above}
use Rattle.rmecore.specs.Machine.{first}
use Rattle.rmecore.specs.declared.stage.Stage.TheVariants.{Wait as AtWait}
use Rattle.rmecore.proofs.Scans.{above_first, without-first}
use Rattle.crashlab.specs.variants.VariantStands.{weighing_row, tied_row, unless_changed}
use Rattle.crashlab.proofs.variants.Steady.{Steady}
use Rattle.crashlab.proofs.variants.Rows.{process_of, Goes, Walks, Agrees, all, free_machine_state, script_goes, lock_goes}

-- no look: a weigh comes where the lock would look

pub weighs : (limit p : ℕ) (s : Place) → weigh_for_look (access limit p s) ≡ variant_access NoLook limit p s Straight
weighs limit p (Wait k (j ∷ js) None) = refl
weighs limit p (Wait k [] None) = refl
weighs limit p (Wait k (i ∷ js) (Some j)) = refl
weighs limit p (Wait k [] (Some j)) = refl
weighs limit p (Door [] m) = cond_both (nat_lt m limit) _ _ (λ o. weigh_for_look o ≡ o) (λ _. refl) (λ _. refl)
weighs limit p (Door (j ∷ js) m) = refl
weighs limit p (Reread c []) = refl
weighs limit p (Reread c (x ∷ [])) = refl
weighs limit p (Reread c (x ∷ k ∷ [])) = refl
weighs limit p (Reread c (x ∷ k ∷ i ∷ more)) = refl
weighs limit p _ = refl

-- a scan without its first
pub past_first : (n p i j : ℕ) → first (above n p i) ≡ Some j → without j (above n p i) ≡ above n p (j + 1)
past_first n p i j f = ap (without j) (above_first n p i j f) ∙ without-first n p j

abbrev GoesUnlooked : MachineState → Option Access → Option Access → ℕ → Type 0
GoesUnlooked s o next v = Goes NoLook s Straight o (by_row (process_of NoLook s Straight Nothing) (weighing_row s.index s.lock next v) v) (unless_changed (weighing_row s.index s.lock next v) (plain_outcome s v)) v

module _ (l : Layout) (limit p k j : ℕ) (js : List ℕ) (b c : Bool) (v : ℕ) where
  abbrev looking : MachineState
  looking = free_machine_state l limit p (Wait k (j ∷ js) None) b c

  weighs_first : Steady looking → (less : Bool) → ((v == 0) || is_before k p v j) ≡ less
      → Goes NoLook looking Straight (Some (Load Weighs (NumberOf j))) (by_row (process_of NoLook looking Straight Nothing) (Some (if less then Wait k (without j (j ∷ js)) None else Wait k (j ∷ js) None, Straight)) v) silent_outcome v
  weighs_first h true e =
      record {
        row = rw (eqb_self j, e) (refl, refl, refl, refl);
        steady = record { layout = h.layout; ordered = record { held = tt; fits = tt; scanned = (j + 1, ap (without j) h.ordered.scanned.1 ∙ past_first l.procs p h.ordered.scanned.0 j (ap first (sym h.ordered.scanned.1))) } };
        deviation = tt;
        change = refl;
      }
  weighs_first h false e = record { row = rw (eqb_self j, e) (refl, refl, refl, refl); steady = h; deviation = tt; change = refl }

weighs_at : (l : Layout) (limit p : ℕ) (s : Place) (b c : Bool) (v : ℕ) → Steady (free_machine_state l limit p s b c) → GoesUnlooked (free_machine_state l limit p s b c) (weigh_for_look (access limit p s)) (access limit p s) v
weighs_at l limit p (Wait k (j ∷ js) None) b c v h = weighs_first l limit p k j js b c v h ((v == 0) || is_before k p v j) refl
weighs_at l limit p (Wait k [] None) b c v h = lock_goes NoLook l limit p (Wait k [] None) b c v h tt (refl, refl, refl)
weighs_at l limit p (Wait k unpassed (Some j)) b c v h = lock_goes NoLook l limit p (Wait k unpassed (Some j)) b c v h tt (refl, refl, refl)
weighs_at l limit p s b c v h = subst (λ o. GoesUnlooked (free_machine_state l limit p s b c) o (access limit p s) v) (sym (weighs limit p s)) (lock_goes NoLook l limit p s b c v h tt (all (access limit p s) (Agrees NoLook l.procs limit p s v) (λ a. (refl, refl, refl))))

pub unweighed : (limit p : ℕ) (s : Place) (purpose : Purpose) (x : Script Reply) → weigh_for_look (access_by limit p s (Doing purpose x)) ≡ access_by limit p s (Doing purpose x)
unweighed limit p s purpose (Asks i rest) = refl
unweighed limit p s purpose (Writes i v rest) = refl
unweighed limit p s purpose (Done reply) = refl

pub looks_go : (s : MachineState) (v : ℕ) → Steady s → Walks NoLook s Straight v
looks_go s v h = by s.script_state h
  where
    by : (e : Chore) → Steady (record s { script_state = e }) → Walks NoLook (record s { script_state = e }) Straight v
    by IsFree h = weighs_at s.layout s.limit s.index s.lock s.mended s.barred v h
    by (Does purpose job) h =
        let t : MachineState = record s { script_state = Does purpose job } in
        subst (λ o. Goes NoLook t Straight o (variant_stepped (process_of NoLook t Straight Nothing) v) (plain_outcome t v) v) (sym (unweighed s.limit s.index s.lock purpose (script_left job))) (script_goes NoLook t Straight v h tt purpose (script_left job) refl)

-- no ties: a weigh of an equal number passes

module _ (l : Layout) (limit p k : ℕ) (unpassed : List ℕ) (j : ℕ) (b c : Bool) (v : ℕ) where
  abbrev weighing : MachineState
  weighing = free_machine_state l limit p (Wait k unpassed (Some j)) b c

  abbrev tied : Bool → Option (Place × Deviation)
  tied ties = if ties then Some (Wait k (without j unpassed) None, Straight) else None

  ties_first : Steady weighing → (ties : Bool) → (k == v) ≡ ties
      → Goes NoTies weighing Straight (Some (Load Weighs (NumberOf j))) (by_row (process_of NoTies weighing Straight Nothing) (tied ties) v) (unless_changed (tied ties) (plain_outcome weighing v)) v
  ties_first h true e =
      record {
        row = rw (eqb_self j, e) (refl, refl, refl, refl);
        steady = record { layout = h.layout; ordered = record { held = tt; fits = tt; scanned = (j + 1, ap (without j) h.ordered.scanned.1 ∙ without-first l.procs p j) } };
        deviation = tt;
        change = refl;
      }
  ties_first h false e = lock_goes NoTies l limit p (Wait k unpassed (Some j)) b c v h tt (rw e refl, refl, refl)

ties_at : (l : Layout) (limit p : ℕ) (s : Place) (b c : Bool) (v : ℕ) → Steady (free_machine_state l limit p s b c) → Walks NoTies (free_machine_state l limit p s b c) Straight v
ties_at l limit p (Wait k unpassed (Some j)) b c v h = ties_first l limit p k unpassed j b c v h (k == v) refl
ties_at l limit p (Wait k [] None) b c v h = lock_goes NoTies l limit p (Wait k [] None) b c v h tt (refl, refl, refl)
ties_at l limit p (Wait k (j ∷ js) None) b c v h = lock_goes NoTies l limit p (Wait k (j ∷ js) None) b c v h tt (refl, refl, refl)
ties_at l limit p s b c v h = lock_goes NoTies l limit p s b c v h tt (all (access limit p s) (Agrees NoTies l.procs limit p s v) (λ a. (refl, refl, refl)))

pub ties_go : (s : MachineState) (v : ℕ) → Steady s → Walks NoTies s Straight v
ties_go s v h = by s.script_state h
  where
    by : (e : Chore) → Steady (record s { script_state = e }) → Walks NoTies (record s { script_state = e }) Straight v
    by IsFree h = ties_at s.layout s.limit s.index s.lock s.mended s.barred v h
    by (Does purpose job) h = script_goes NoTies (record s { script_state = Does purpose job }) Straight v h tt purpose (script_left job) refl

-- where the code finds these rows

free_next : (s : MachineState) → s.script_state ≡ IsFree → next_access s ≡ access s.limit s.index s.lock
free_next s free = ap (λ e. access_by s.limit s.index s.lock (script_state_of e)) free

look_first : (limit p k : ℕ) (js : List ℕ) (looked : Bool) (j : ℕ) → access limit p (Wait k js (if looked then first js else None)) ≡ Some (Load Looks (ChoosingOf j)) → first js ≡ Some j
look_first limit p k (i ∷ js) false j e = cc
look_first limit p k (i ∷ js) true j e = cc
look_first limit p k [] false j e = cc
look_first limit p k [] true j e = cc

weigh_first : (limit p k : ℕ) (js : List ℕ) (looked : Bool) (j : ℕ) → access limit p (Wait k js (if looked then first js else None)) ≡ Some (Load Weighs (NumberOf j)) → first js ≡ Some j
weigh_first limit p k (i ∷ js) false j e = cc
weigh_first limit p k (i ∷ js) true j e = cc
weigh_first limit p k [] false j e = cc
weigh_first limit p k [] true j e = cc

module _ (s : MachineState) (k i j v : ℕ) (looked : Bool) (free : s.script_state ≡ IsFree) (at : place_of s.layout.procs s.index (AtWait k i looked) ≡ s.lock) where
  pub weighs_past : next_access s ≡ Some (Load Looks (ChoosingOf j)) → ((v == 0) || is_before k s.index v j) ≡ true → weighing_row s.index s.lock (next_access s) v ≡ Some (place_of s.layout.procs s.index (AtWait k (j + 1) false), Straight)
  weighs_past next less =
      let here = look_first s.limit s.index k (above s.layout.procs s.index i) looked j (ap (access s.limit s.index) at ∙ sym (free_next s free) ∙ next) in
      (λ r. weighing_row s.index (sym at r) (next r) v) ∙ rw less (ap (λ js. Some (Wait k js None, Straight)) (past_first s.layout.procs s.index i j here))

  pub ties_past : next_access s ≡ Some (Load Weighs (NumberOf j)) → (k == v) ≡ true → tied_row s.lock (next_access s) v ≡ Some (place_of s.layout.procs s.index (AtWait k (j + 1) false), Straight)
  ties_past next ties =
      let here = weigh_first s.limit s.index k (above s.layout.procs s.index i) looked j (ap (access s.limit s.index) at ∙ sym (free_next s free) ∙ next) in
      (λ r. tied_row (sym at r) (next r) v) ∙ rw ties (ap (λ js. Some (Wait k js None, Straight)) (past_first s.layout.procs s.index i j here))
