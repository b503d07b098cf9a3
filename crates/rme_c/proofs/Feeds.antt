-- A step where no call is under way, and the code of a step.
use Rattle.std.proofs.Common.{◌≡◌, ℕ, ◌+◌, ◌<◌, ◌≤◌, ◌==◌, not, Bool, true, false, if◌then◌else◌, is_none, length, Option, Some, None, refl, sym, ap, ◌∙◌, subst, arith}
use Rattle.rme_c.proofs.Common.{Access, Stage, place_of, after_access, progress, Place, all_allowed, Check, saturate, pending_task, Answer, Free as IsFree, Doing as Does, Checking, by_lock, is_entry}
use Rattle.rme_c.proofs.Common.{mended_done, checks_done, mended_entered, next_access, MachineState, standing, machine_after_step, lock_moved, outcome, lock_outcome, Effect, Position, Lock, Within, Lost, RmeProcess}
use Rattle.rme_c.proofs.Common.{layout_of, machine_state_at, FitsPosition, machine_state_of, position_of, landing, IsStep, step_answer, is_blocked, IsLanding, IsFed}
use Rattle.rmecore.specs.Machine.{next_access as lock_access}
use Rattle.rmecore.specs.declared.core_done.CoreDone.{CoreDone}
use Rattle.rmeworld.specs.declared.outcome.Outcome.{Outcome}
use Rattle.rmeworld.proofs.Entries.{stays, all_entered}
use Rattle.rme_c.specs.declared.lock_part.Landing.{Landing}
use Rattle.rme_c.specs.declared.process.RmeAccess.{RmeAccess}
use Rattle.rme_c.specs.declared.process.RmePosition.{RmePosition}
use Rattle.rme_c.specs.Codes.{code_after_step, reports_by, reported_as, next_for_c}
use Rattle.rme_c.proofs.Arms.{has_script_position}
use Rattle.rme_c.proofs.Locks.{lands, has_script_state}
use Rattle.rme_c.proofs.Numbers.{stands}

free_stays : (s : MachineState) → s.script_state ≡ IsFree → (o : Option Access) (v : ℕ) → is_none o ≡ true → lock_moved s (after_access (standing s) o v) ≡ s
free_stays s free (Some a) v e = cc
free_stays s free None v e =
    let same = stays s.lock in
    λ i. record {
      layout = s.layout;
      limit = s.limit;
      index = s.index;
      lock = s.lock;
      mended = sym (same.1 s.mended) i;
      barred = s.barred;
      script_state = (ap (λ b. if b then Does Checking (pending_task s.layout s.index Check) else IsFree) (sym same.0) ∙ sym free) i;
    }

idle_stays : (p : RmeProcess) (x : Position) (v : ℕ) → length p.value ≡ 8 → FitsPosition p x → is_none (next_access (machine_state_at p x)) ≡ true → machine_after_step (machine_state_at p x) v ≡ machine_state_at p x
idle_stays p Lost v eight fits idle = refl
idle_stays p (Lock t) v eight fits idle = let s : MachineState = machine_state_at p (Lock t) in free_stays s refl (lock_access (standing s)) v idle
idle_stays p (Within c) v eight fits idle = let busy = has_script_position p eight c fits in let bad : true ≡ false = sym idle ∙ busy in cc

idle_reported : (o : Option Access) (x : Outcome) (next : Option Access) → is_none o ≡ true → reports_by o x next ≡ 7
idle_reported None x next e = refl
idle_reported (Some a) x next e = cc

pub busy_reported : (o : Option Access) (x : Outcome) (next : Option Access) → is_none o ≡ false → reports_by o x next ≡ reported_as x.answer x.progress.blocked next
busy_reported None x next e = cc
busy_reported (Some a) x next e = refl

-- where no call is under way nothing changes
pub feed_idle : (p : RmeProcess) (x : Position) (v : ℕ) → x ≡ position_of p → length p.value ≡ 8 → FitsPosition p x → is_none (next_access (machine_state_at p x)) ≡ true → machine_state_of p ≡ machine_after_step (machine_state_of p) v
feed_idle p x v here eight fits idle = subst (λ y. machine_state_at p y ≡ machine_after_step (machine_state_at p y) v) here (sym (idle_stays p x v eight fits idle))

pub feed_idle_reported : (p : RmeProcess) (x : Position) (v : ℕ) → x ≡ position_of p → is_none (next_access (machine_state_at p x)) ≡ true → 7 ≡ code_after_step (machine_state_of p) v
feed_idle_reported p x v here idle = subst (λ y. 7 ≡ code_after_step (machine_state_at p y) v) here (sym (idle_reported (next_access (machine_state_at p x)) (outcome (machine_state_at p x) (next_access (machine_state_at p x)) v) (next_access (machine_after_step (machine_state_at p x) v)) idle))

pub feed_reported : (p : RmeProcess) (x : Position) (v : ℕ) (a : Option Answer) (b : Bool) (o : Option Access) → x ≡ position_of p → is_none (next_access (machine_state_at p x)) ≡ false → a ≡ step_answer p x v → b ≡ is_blocked p x v
    → o ≡ next_access (machine_after_step (machine_state_of p) v) → reported_as a b o ≡ code_after_step (machine_state_of p) v
feed_reported p x v a b o here busy answer blocked follows =
    ap (reported_as a b) follows
    ∙ subst (λ y. reported_as a b (next_access (machine_after_step (machine_state_at p y) v)) ≡ code_after_step (machine_state_at p y) v) here
    ((λ i. reported_as (answer i) (blocked i) (next_access (machine_after_step (machine_state_at p x) v))) ∙ sym (busy_reported (next_access (machine_state_at p x)) (outcome (machine_state_at p x) (next_access (machine_state_at p x)) v) (next_access (machine_after_step (machine_state_at p x) v)) busy))

busy_at : (p : RmeProcess) (x : Position) → position_of p ≡ x → is_none (next_access (machine_state_at p x)) ≡ false → is_none (next_access (machine_state_of p)) ≡ false
busy_at p x here busy = subst (λ y. is_none (next_access (machine_state_at p y)) ≡ false) (sym here) busy

none_is : (o : Option Access) → is_none o ≡ true → o ≡ None
none_is None e = refl
none_is (Some a) e = cc

-- where no call is under way
pub idle_fed : (p : RmeProcess) (x : Position) (v : ℕ) → x ≡ position_of p → length p.value ≡ 8 → FitsPosition p x → is_none (next_access (machine_state_at p x)) ≡ true → (b : RmeAccess) → IsFed p v p b (record { store = 0; place = 0; value = 0 }) 7
idle_fed p x v here eight fits idle b =
    let idles : is_none (next_access (machine_state_of p)) ≡ true = subst (λ y. is_none (next_access (machine_state_at p y)) ≡ true) here idle in
    let none : next_access (machine_state_of p) ≡ None = none_is (next_access (machine_state_of p)) idles in
    record {
      exact = feed_idle p x v here eight fits idle;
      reports = feed_idle_reported p x v here idle;
      next = λ _. sym (λ i. next_for_c p.procs (outcome (machine_state_of p) (none i) v).answer (none i));
      kept = λ h. absurd (omega (arith, h));
      few = omega arith;
      steps = rw idles refl;
      idle = λ none. refl;
    }

fits_landing : (p : RmeProcess) (q : RmePosition) (from to : Stage) (checks : Bool) → FitsPosition p (Lock from) → FitsPosition (record p { position = q }) (landing checks to)
fits_landing p q from to true h = (h.0, (h.1, tt))
fits_landing p q from to false h = h

-- a step of the lock's part, by what it leaves
module _ (p : RmeProcess) (t : Stage) (v : ℕ) (r : Landing) (q : RmeProcess) (b a : RmeAccess) where
  abbrev now : MachineState
  now = machine_state_at p (Lock t)

  abbrev x : Position
  x = landing (checks_done r.done) r.to

  abbrev reports_of : Option Answer
  reports_of = by_lock now.barred r.done

  pub lands_fed : position_of p ≡ Lock t → FitsPosition p (Lock t) → is_none (next_access now) ≡ false
      → place_of p.procs p.index r.to ≡ after_access (standing now) (lock_access (standing now)) v
      → r.done ≡ (progress (standing now) (lock_access (standing now)) v).done
      → r.blocked ≡ (progress (standing now) (lock_access (standing now)) v).blocked
      → IsLanding p r q b a → IsFed p v q b a r.code
  lands_fed here fits busy place done blocked is =
      let to : Place = after_access (standing now) (lock_access (standing now)) v in
      let enters = all_entered (standing now) v (all_allowed (standing now)) in
      let mended : (q.unmended == 0) ≡ mended_entered now.mended now.lock to = is.mended ∙ ap (mended_done now.mended) done ∙ enters.1 now.mended in
      let checks : checks_done r.done ≡ is_entry now.lock to = ap checks_done done ∙ enters.0 in
      let at = lands p.procs p.index now.lock to r.to (checks_done r.done) checks place in
      let script_state = has_script_state (layout_of p) p.index p.value now.lock to r.to (checks_done r.done) checks in
      let outcomes = lock_outcome now v in
      let q' : RmeProcess = record p { unmended = q.unmended; position = q.position; steps = saturate (p.steps + 1) } in
      let stands' : position_of q' ≡ x = stands (record p { position = q.position }) x (fits_landing p q.position t r.to (checks_done r.done) fits) is.position in
      let stepped' : machine_state_at q' x ≡ machine_after_step now v =
      λ i. record { layout = layout_of p; limit = p.limit; index = p.index; lock = at i; mended = mended i; barred = not (p.barred == 0); script_state = script_state i } in
      let exact' : machine_state_of q' ≡ machine_after_step now v = ap (λ y. machine_state_at q' y) stands' ∙ stepped' in
      let answers : reports_of ≡ (outcome now (next_access now) v).answer = ap (λ (d : Option CoreDone). by_lock now.barred d) done ∙ sym (ap (λ (o : Outcome). o.answer) outcomes) in
      let blocks : r.blocked ≡ (outcome now (next_access now) v).progress.blocked = blocked ∙ sym (ap (λ (o : Outcome). o.progress.blocked) outcomes) in
      let exact : machine_state_of q ≡ machine_after_step (machine_state_of p) v =
      ap machine_state_of is.process ∙ exact' ∙ ap (λ y. machine_after_step (machine_state_at p y) v) (sym here) in
      let follows : next_access (machine_state_at p x) ≡ next_access (machine_after_step (machine_state_of p) v) = ap next_access (stepped' ∙ ap (λ y. machine_after_step (machine_state_at p y) v) (sym here)) in
      record {
        exact = exact;
        reports = is.code ∙ feed_reported p (Lock t) v reports_of r.blocked (next_access (machine_state_at p x)) (sym here) busy answers blocks follows;
        next =
            λ small.
            is.next small
            ∙ (λ i. next_for_c p.procs (answers i) (next_access (machine_state_at p x)))
            ∙ ap (λ (y : Position). next_for_c p.procs (outcome (machine_state_at p y) (next_access (machine_state_at p y)) v).answer (next_access (machine_state_at p x))) (sym here)
            ∙ ap (λ (s : MachineState). next_for_c p.procs (outcome (machine_state_of p) (next_access (machine_state_of p)) v).answer (next_access s)) (sym (ap machine_state_of is.process ∙ ap (λ y. machine_state_at q' y) stands'));
        kept = is.kept;
        few = is.few;
        steps = rw (busy_at p (Lock t) here busy) (ap (λ (z : RmeProcess). z.steps) is.process);
        idle = λ none. let busy = busy_at p (Lock t) here busy in cc;
      }

-- a step that is taken, encoded as numbers, with its code
pub step_fed : (p : RmeProcess) (x : Position) (v : ℕ) (m q : RmeProcess) (y : Position) (t : Effect) (b a : RmeAccess) (code n : ℕ) (o : Option Access)
    → position_of p ≡ x → is_none (next_access (machine_state_at p x)) ≡ false → IsStep p x v m y t
    → position_of q ≡ y → machine_state_at q y ≡ machine_state_at m y → (code < 64 → a ≡ next_for_c n t.answer o) → (64 ≤ code → a ≡ b) → code < 256 → n ≡ p.procs → o ≡ next_access (machine_state_at q y)
    → code ≡ reported_as t.answer t.blocked o → q.steps ≡ saturate (p.steps + 1) → IsFed p v q b a code
step_fed p x v m q y t b a code n o here busy step there same shows kept few procs wants tells steps =
    let stepped' : machine_state_at q y ≡ machine_after_step (machine_state_of p) v = same ∙ step.exact ∙ ap (λ z. machine_after_step (machine_state_at p z) v) (sym here) in
    record {
      exact = ap (λ z. machine_state_at q z) there ∙ stepped';
      reports = tells ∙ feed_reported p x v t.answer t.blocked o (sym here) busy step.answer step.blocked (wants ∙ ap next_access stepped');
      kept = kept;
      few = few;
      next =
          λ small.
          shows small
          ∙ (λ i. next_for_c (procs i) (step.answer i) (wants i))
          ∙ ap (λ (z : Position). next_for_c p.procs (outcome (machine_state_at p z) (next_access (machine_state_at p z)) v).answer (next_access (machine_state_at q y))) (sym here)
          ∙ ap (λ (z : Position). next_for_c p.procs (outcome (machine_state_of p) (next_access (machine_state_of p)) v).answer (next_access (machine_state_at q z))) (sym there);
      steps = rw (busy_at p x here busy) steps;
      idle = λ none. let busy = busy_at p x here busy in cc;
    }
