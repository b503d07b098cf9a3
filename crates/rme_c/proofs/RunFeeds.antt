-- A run that is fed, and the run that comes next.
use Rattle.std.proofs.Common.{◌≡◌, ℕ, zero, suc, min, ◌+◌, ◌*◌, ◌<◌, ◌≤◌, true, false, Bool, if◌then◌else◌, IfSome, is_none, List, [], ◌∷◌, ◌++◌, length, Option, Some, None, refl, sym, ap, ◌∙◌, subst, eq-eqb, arith}
use Rattle.rme_c.proofs.Common.{lt-ltb, Access, Stage, place_of, above, above_past, first, Position, Lock, Within, RmeProcess, machine_state_at, machine_state_of, position_of, stage_of, IsFed, IsStep, MachineState, Effect, saturate, next_access, outcome, machine_after_step}
use Rattle.rme_c.proofs.Feeds.{busy_reported}
use Rattle.rme_c.proofs.Numbers.{stands}
use Rattle.rme_c.proofs.RunSteps.{place_at, reached, zeros_first, length_others, length_waits, reread_choosing, reread_number, reread_inside, opened, taken, shuts, drops, peeks_all, waits_all, peeks_run, waits_run, peeks_then, waits_then, zeros_sum, reported_goes, peeks_go, waits_go}
use Rattle.rmecore.specs.Place.{Reread, Opening, Door, Shutting, Wait, Leaving, Unmarking}
use Rattle.rmecore.specs.declared.access.Access.TheVariants.{Load, Store}
use Rattle.rmecore.specs.declared.core_call.CoreCall.TheVariants as call
use Rattle.rmecore.specs.declared.kind.Kind.TheVariants as kind
use Rattle.rmecore.specs.declared.stage.Stage.TheVariants as stage
use Rattle.rmecore.specs.declared.word.Word.TheVariants as word
use Rattle.rmecore.specs.declared.refusal.Refusal.{Refusal}
use Rattle.rmecore.specs.declared.refusal.Refusal.TheVariants as refusal
use Rattle.rme_c.specs.Codes.{code_after_step, reported_as, next_for_c, refusal_code}
use Rattle.rme_c.specs.declared.process.RmeAccess.{RmeAccess}
use Rattle.rme_c.specs.declared.process.RmePosition.{RmePosition}
use Rattle.rme_c.specs.declared.runs.AccessRun.{AccessRun}
use Rattle.rme_c.specs.declared.runs.AccessRun.TheVariants as run
use Rattle.rme_c.specs.declared.script_position.ScriptPosition.TheVariants as script_position
use Rattle.rme_c.specs.Runs.{Counted, counted_of, counted_at, fed_once, fed_zeros, AreNextAccesses, peeks, waits, run_by, CallGoesOn, IsNextRun, IsFedRun}

-- an access that was made, and those that follow
more : (p : RmeProcess) (x y : Counted) (a : Access) (rest : List Access) → fed_once x 0 ≡ y → AreNextAccesses y.machine rest → AreNextAccesses (machine_after_step x.machine 0) rest
more p x y a rest e r = subst (λ s. AreNextAccesses s rest) (sym (ap (λ (z : Counted). z.machine) e)) r

module _ (p : RmeProcess) where
  abbrev n : ℕ
  n = p.procs

  abbrev own : ℕ
  own = p.index

  pub opens_next : IsNextRun (place_at p Opening) n own run.Opens
  opens_next =
      record {
        some = omega arith;
        each = (refl, more p (reached p Opening 0) (reached p (Door (above n own 0) 0) 1) (Store kind.Open (word.Choosing own) 1) (peeks (above n own 0)) (opened p 0 0 (omega arith)) (peeks_run p (above n own 0) 0 0 refl));
      }

  peeks_some : (j : ℕ) (js : List ℕ) → first js ≡ Some j → 0 < length (peeks js)
  peeks_some j [] e = cc
  peeks_some j (i ∷ js) e = omega arith

  waits_some : (j : ℕ) (js : List ℕ) → first js ≡ Some j → 0 < length (waits js)
  waits_some j [] e = cc
  waits_some j (i ∷ js) e = omega arith

  pub peeks_next : (i m j : ℕ) → first (above n own i) ≡ Some j → above n own j ≡ above n own i → IsNextRun (place_at p (Door (above n own i) m)) n own (run.Peeks j)
  peeks_next i m j f same =
      record { some = peeks_some j (above n own j) (ap first same ∙ f); each = subst (λ l. AreNextAccesses (place_at p (Door (above n own i) m)) (peeks l)) (sym same) (peeks_run p (above n own i) i m refl) }

  pub looks_next : (i k j : ℕ) → first (above n own i) ≡ Some j → above n own j ≡ above n own i → IsNextRun (place_at p (Wait k (above n own i) None)) n own (run.Looks j)
  looks_next i k j f same =
      record { some = waits_some j (above n own j) (ap first same ∙ f); each = subst (λ l. AreNextAccesses (place_at p (Wait k (above n own i) None)) (waits l)) (sym same) (waits_run p (above n own i) i k refl) }

  pub takes_next : (js : List ℕ) (m : ℕ) → js ≡ [] → m < p.limit → IsNextRun (place_at p (Door js m)) n own (run.Takes (m + 1))
  takes_next js m none free =
      subst (λ l. IsNextRun (place_at p (Door l m)) n own (run.Takes (m + 1))) (sym none)
      (record {
        some = omega arith;
        each = (
          rw (lt-ltb m p.limit free) refl,
          more p (reached p (Door [] m) 0) (reached p (Shutting call.Lock (m + 1)) 1) (Store kind.Take (word.Number own) (m + 1)) (Store kind.Shut (word.Choosing own) 0 ∷ waits (above n own 0)) (taken p m 0 0 free (omega arith))
              (refl, more p (reached p (Shutting call.Lock (m + 1)) 0) (reached p (Wait (m + 1) (above n own 0) None) 1) (Store kind.Shut (word.Choosing own) 0) (waits (above n own 0)) (shuts p (m + 1) 0 0 (omega arith)) (waits_run p (above n own 0) 0 (m + 1) refl)),
        );
      })

  pub marks_next : (js : List ℕ) (k : ℕ) → js ≡ [] → IsNextRun (place_at p (Wait k js None)) n own run.Marks
  marks_next js k none =
      subst (λ l. IsNextRun (place_at p (Wait k l None)) n own run.Marks) (sym none)
      (record { some = omega arith; each = (refl, (rw (eq-eqb own own refl) refl, tt)) })

  -- a wait with a process left, which was looked at or not
  pub look_next : (i k j : ℕ) (looked : Bool) (o : Option AccessRun) → o ≡ (if looked then None else Some (run.Looks j)) → first (above n own i) ≡ Some j → above n own j ≡ above n own i
      → IfSome o (λ r. IsNextRun (place_at p (Wait k (above n own i) (if looked then first (above n own i) else None))) n own r)
  look_next i k j true o e f same = rw e tt
  look_next i k j false o e f same = rw e (looks_next i k j f same)

  -- a wait with none left
  pub mark_next : (js : List ℕ) (k : ℕ) (looked : Bool) → js ≡ [] → IsNextRun (place_at p (Wait k js (if looked then first js else None))) n own run.Marks
  mark_next js k true none = subst (λ l. IsNextRun (place_at p (Wait k l (first l))) n own run.Marks) (sym none) (marks_next [] k refl)
  mark_next js k false none = marks_next js k none

  abbrev ends : List Access
  ends = Store kind.Mark (word.Inside own) 1 ∷ Load kind.Get (word.Data 0) ∷ []

  abbrev takes : List Access
  takes = Store kind.Take (word.Number own) 1 ∷ Store kind.Shut (word.Choosing own) 0 ∷ (waits (above n own 0) ++ ends)

  takes_run : 0 < p.limit → AreNextAccesses (place_at p (Door [] 0)) takes
  takes_run some = (
    rw (lt-ltb 0 p.limit some) refl,
    more p (reached p (Door [] 0) 0) (reached p (Shutting call.Lock 1) 1) (Store kind.Take (word.Number own) 1) (Store kind.Shut (word.Choosing own) 0 ∷ (waits (above n own 0) ++ ends)) (taken p 0 0 0 some (omega arith)) (
      refl,
      more p (reached p (Shutting call.Lock 1) 0) (reached p (Wait 1 (above n own 0) None) 1) (Store kind.Shut (word.Choosing own) 0) (waits (above n own 0) ++ ends) (shuts p 1 0 0 (omega arith))
          (waits_then p (above n own 0) 0 1 ends refl (marks_next [] 1 refl).each),
    ),
  )

  pub locks_next : 0 < p.limit → IsNextRun (place_at p (Reread call.Lock [])) n own run.Locks
  locks_next some =
      let opens : List Access = Store kind.Open (word.Choosing own) 1 ∷ (peeks (above n own 0) ++ takes) in
      let inside : Access = Load kind.Reread (word.Inside own) in
      let number : Access = Load kind.Reread (word.Number own) in
      record {
        some = omega arith;
        each = (
          refl,
          more p (reached p (Reread call.Lock []) 0) (reached p (Reread call.Lock (0 ∷ [])) 1) number (number ∷ inside ∷ opens) (reread_choosing p call.Lock 0 0 (omega arith)) (
            refl,
            more p (reached p (Reread call.Lock (0 ∷ [])) 0) (reached p (Reread call.Lock (0 ∷ 0 ∷ [])) 1) number (inside ∷ opens) (reread_number p call.Lock 0 0 0 (omega arith)) (
              refl,
              more p (reached p (Reread call.Lock (0 ∷ 0 ∷ [])) 0) (reached p Opening 1) inside opens (reread_inside p 0 (omega arith)) (
                refl,
                more p (reached p Opening 0) (reached p (Door (above n own 0) 0) 1) inside (peeks (above n own 0) ++ takes) (opened p 0 0 (omega arith))
                    (peeks_then p (above n own 0) 0 0 takes refl (takes_run some)),
              ),
            ),
          ),
        );
      }

  pub leaves_next : IsNextRun (place_at p Leaving) n own run.Leaves
  leaves_next =
      record { some = omega arith; each = (refl, more p (reached p Leaving 0) (reached p (Unmarking call.Unlock) 1) (Store kind.Drop (word.Number own) 0) (Store kind.Mark (word.Inside own) 0 ∷ []) (drops p 0 0 (omega arith)) (refl, tt)) }

  pub here_at : (t : Stage) → position_of p ≡ Lock t → counted_of p ≡ reached p (place_of n own t) p.steps
  here_at t e = ap (counted_at p p.steps) e

  pub lands_at : (t : Stage) (x : RmePosition) (c : ℕ) → own < n → n ≤ 64 → stage_of x ≡ Some t → counted_of (record p { position = x; steps = c }) ≡ reached p (place_of n own t) c
  lands_at t x c below few e =
      let is : position_of (record p { position = x; steps = c }) ≡ Lock t = stands (record p { position = x }) (Lock t) (below, few) (λ l fits. rw e refl) in
      ap (counted_at p c) is

-- where the call goes on with a run
pub fed_on : (q : RmeProcess) (c : Counted) (v : ℕ) (a : RmeAccess) (r : ℕ) (next : AccessRun) → counted_of q ≡ fed_once c v → CallGoesOn (code_after_step c.machine v) → IsNextRun (machine_state_of q) q.procs q.index next
    → run_by r a.value ≡ next → 256 ≤ r → IsFedRun c v q a r
fed_on q c v a r next exact goes comes back big =
    record {
      exact = exact;
      code = λ h. absurd (omega (arith, h, big));
      goes = λ _. goes;
      run = λ _. subst (λ x. IsNextRun (machine_state_of q) q.procs q.index x) (sym back) comes;
      next = λ h. absurd (omega (arith, h, big));
    }

-- after the zeros, by one feed
pub fed_after : (m : RmeProcess) (c : Counted) (v : ℕ) (q : RmeProcess) (b a : RmeAccess) (r : ℕ) → counted_of m ≡ c → IsFed m v q b a r → IsFedRun c v q a r
fed_after m c v q b a r is fed =
    let few = fed.few in
    subst (λ (x : Counted). IsFedRun x v q a r) is
    (record {
      exact = λ i. record { machine = fed.exact i; steps = fed.steps i };
      code = λ h. fed.reports;
      goes = λ h. absurd (omega (arith, h, few));
      run = λ h. absurd (omega (arith, h, few));
      next = fed.next;
    })

-- by one step of a script, from this position and after this many steps
pub step_counted : (p : RmeProcess) (c v : ℕ) (x : Position) (m q : RmeProcess) (y : Position) (t : Effect) (o : Option Access) (a : RmeAccess) (r : ℕ)
    → is_none (next_access (machine_state_at p x)) ≡ false → IsStep p x v m y t → position_of q ≡ y → machine_state_at q y ≡ machine_state_at m y → q.steps ≡ c + 1 → c < 18446744073709551615
    → o ≡ next_access (machine_state_at q y) → r ≡ reported_as t.answer t.blocked o → (r < 64 → a ≡ next_for_c p.procs t.answer o) → r < 256 → IsFedRun (counted_at p c x) v q a r
step_counted p c v x m q y t o a r busy step there same counts some wants tells shows few =
    let now : MachineState = machine_state_at p x in
    let led : machine_state_at q y ≡ machine_after_step now v = same ∙ step.exact in
    let more : q.steps ≡ saturate (c + 1) = omega (arith, counts, some) in
    let follows : o ≡ next_access (machine_after_step now v) = wants ∙ ap next_access led in
    record {
      exact = rw busy (λ i. record { machine = (ap (machine_state_at q) there ∙ led) i; steps = more i });
      code =
          λ h.
          tells
          ∙ (λ i. reported_as (step.answer i) (step.blocked i) (follows i))
          ∙ sym (busy_reported (next_access now) (outcome now (next_access now) v) (next_access (machine_after_step now v)) busy);
      goes = λ h. absurd (omega (arith, h, few));
      run = λ h. absurd (omega (arith, h, few));
      next = λ h. shows h ∙ (λ i. next_for_c p.procs (step.answer i) (wants i)) ∙ ap (λ z. next_for_c p.procs (outcome now (next_access now) v).answer (next_access (machine_state_at q z))) (sym there);
    }

-- the same, where after the feed a run comes next
pub fed_more : (m q : RmeProcess) (c : Counted) (v : ℕ) (b a d : RmeAccess) (code r : ℕ) (next : AccessRun) → counted_of m ≡ c → IsFed m v q b a code → CallGoesOn code → IsNextRun (machine_state_of q) q.procs q.index next
    → run_by r d.value ≡ next → 256 ≤ r → IsFedRun c v q d r
fed_more m q c v b a d code r next is fed goes comes back big =
    let done = fed_after m c v q b a code is fed in
    fed_on q c v d r next done.exact (subst CallGoesOn (done.code fed.few) goes) comes back big

pub none_left : (js : List ℕ) → first js ≡ None → js ≡ []
none_left [] e = refl
none_left (j ∷ js) e = cc

pub refusal_small : (o : Option Refusal) → refusal_code o < 256
refusal_small None = omega arith
refusal_small (Some refusal.BadProcs) = omega arith
refusal_small (Some refusal.BadLimit) = omega arith
refusal_small (Some refusal.NoSuchProcess) = omega arith
refusal_small (Some refusal.CallUnderWay) = omega arith
refusal_small (Some refusal.NotOwner) = omega arith
refusal_small (Some refusal.AlreadyIn) = omega arith
refusal_small (Some refusal.NothingToDo) = omega arith
refusal_small (Some refusal.BadCap) = omega arith
refusal_small (Some refusal.NotInconsistent) = omega arith
refusal_small (Some refusal.BadShape) = omega arith
refusal_small (Some refusal.Unmended) = omega arith
refusal_small (Some refusal.BadIndex) = omega arith
refusal_small (Some refusal.NotWaiting) = omega arith
refusal_small (Some refusal.BadWidth) = omega arith
refusal_small (Some refusal.OutOfMemory) = omega arith
refusal_small (Some (refusal.BadImage rule)) = omega arith

module _ (p : RmeProcess) (x : RmePosition) (steps : ℕ) (a : RmeAccess) (r : ℕ) (below : p.index < p.procs) (few : p.procs ≤ 64) (big : 256 ≤ r) (small : steps ≤ 18446744073709551615) where
  abbrev q : RmeProcess
  q = record p { position = x; steps = steps }

  abbrev others : List ℕ
  others = above p.procs p.index 0

  pub opened_go : (k c : ℕ) → k + 1 ≡ p.procs → c + k + 1 ≤ 18446744073709551615 → CallGoesOn (code_after_step (fed_zeros k (reached p Opening c)).machine 0)
  opened_go zero c all most = reported_goes p Opening (Store kind.Open (word.Choosing p.index) 1) 0 refl refl refl
  opened_go (suc k) c all most =
      let l = length_others p.procs p.index below in
      subst (λ (y : Counted). CallGoesOn (code_after_step y.machine 0)) (sym (zeros_first k _ ∙ ap (fed_zeros k) (opened p 0 c (omega (arith, most)))))
      (peeks_go p others 0 0 (c + 1) k refl (omega (arith, l, all)) (omega (arith, l, all, most)))

  opened_all : (k c : ℕ) → k + 1 ≡ p.procs → c + k + 1 ≤ 18446744073709551615 → fed_once (fed_zeros k (reached p Opening c)) 0 ≡ reached p (Door [] 0) (c + k + 1)
  opened_all k c all most =
      let l = length_others p.procs p.index below in
      let same : k ≡ length others = omega (arith, l, all) in
      zeros_first k (reached p Opening c)
      ∙ ap (fed_zeros k) (opened p 0 c (omega (arith, most)))
      ∙ ap (λ j. fed_zeros j (reached p (Door others 0) (c + 1))) same
      ∙ peeks_all p others 0 0 (c + 1) refl (omega (arith, same, most))
      ∙ ap (reached p (Door [] 0)) (omega (arith, same))

  pub peeked_fed : (zeros : ℕ) → position_of p ≡ Lock stage.Opening → stage_of x ≡ Some (stage.Door p.procs 0) → zeros + 1 ≡ p.procs → 0 < p.limit → steps ≡ p.steps + zeros + 1 → run_by r a.value ≡ run.Takes 1
      → IsFedRun (fed_zeros zeros (counted_of p)) 0 q a r
  peeked_fed zeros here there all some counts back =
      let is = here_at p _ here in
      let none : above p.procs p.index p.procs ≡ [] = above_past p.procs p.index p.procs (omega arith) in
      let lands : counted_of q ≡ reached p (Door [] 0) steps = lands_at p (stage.Door p.procs 0) x steps below few there ∙ ap (λ l. reached p (Door l 0) steps) none in
      let most : p.steps + zeros + 1 ≤ 18446744073709551615 = omega (arith, counts, small) in
      fed_on q _ 0 a r (run.Takes 1)
      (lands ∙ ap (reached p (Door [] 0)) counts ∙ sym (opened_all zeros p.steps all most) ∙ ap (λ y. fed_once (fed_zeros zeros y) 0) (sym is))
      (subst (λ (y : Counted). CallGoesOn (code_after_step (fed_zeros zeros y).machine 0)) (sym is) (opened_go zeros p.steps all most))
      (subst (λ (y : Counted). IsNextRun y.machine p.procs p.index (run.Takes 1)) (sym lands) (takes_next p [] 0 refl some)) back big

  module _ (m c : ℕ) (free : m < p.limit) where
    abbrev number : ℕ
    number = m + 1

    pub shut_go : (k : ℕ) → k + 1 ≡ 2 * p.procs → c + k + 1 ≤ 18446744073709551615 → CallGoesOn (code_after_step (fed_zeros k (reached p (Door [] m) c)).machine 0)
    shut_go zero all most = absurd (omega (arith, all))
    shut_go (suc zero) all most =
        subst (λ (y : Counted). CallGoesOn (code_after_step y.machine 0)) (sym (taken p m 0 c free (omega (arith, most))))
        (reported_goes p (Shutting call.Lock number) (Store kind.Shut (word.Choosing p.index) 0) 0 refl refl refl)
    shut_go (suc (suc k)) all most =
        let l = length_others p.procs p.index below in
        let w = length_waits others in
        subst (λ (y : Counted). CallGoesOn (code_after_step y.machine 0))
        (sym (zeros_first (suc k) _ ∙ ap (fed_zeros (suc k)) (taken p m 0 c free (omega (arith, most))) ∙ zeros_first k _ ∙ ap (fed_zeros k) (shuts p number 0 (c + 1) (omega (arith, most)))))
        (waits_go p others 0 number (c + 1 + 1) k refl (omega (arith, l, w, all)) (omega (arith, l, w, all, most)))

    passed_by : (k w : ℕ) → k ≡ suc w → w ≡ length (waits others) → c + k + 1 ≤ 18446744073709551615 → fed_once (fed_zeros k (reached p (Door [] m) c)) 0 ≡ reached p (Wait number [] None) (c + k + 1)
    passed_by k w e same most =
        ap (λ i. fed_zeros (suc i) (reached p (Door [] m) c)) e
        ∙ zeros_first (suc w) (reached p (Door [] m) c)
        ∙ ap (fed_zeros (suc w)) (taken p m 0 c free (omega (arith, most)))
        ∙ zeros_first w (reached p (Shutting call.Lock number) (c + 1))
        ∙ ap (fed_zeros w) (shuts p number 0 (c + 1) (omega (arith, e, most)))
        ∙ ap (λ j. fed_zeros j (reached p (Wait number others None) (c + 1 + 1))) same
        ∙ waits_all p others 0 number (c + 1 + 1) refl (omega (arith, e, same, most))
        ∙ ap (reached p (Wait number [] None)) (omega (arith, e, same))

    passed_all : (k : ℕ) → k + 1 ≡ 2 * p.procs → c + k + 1 ≤ 18446744073709551615 → fed_once (fed_zeros k (reached p (Door [] m) c)) 0 ≡ reached p (Wait number [] None) (c + k + 1)
    passed_all k all most =
        let l = length_others p.procs p.index below in
        let w = length_waits others in
        passed_by k (length (waits others)) (omega (arith, l, w, all)) refl most

  pub passed_fed : (zeros from m : ℕ) → position_of p ≡ Lock (stage.Door from m) → above p.procs p.index from ≡ [] → stage_of x ≡ Some (stage.Wait (m + 1) p.procs false) → zeros + 1 ≡ 2 * p.procs → m < p.limit
      → steps ≡ p.steps + zeros + 1 → run_by r a.value ≡ run.Marks → IsFedRun (fed_zeros zeros (counted_of p)) 0 q a r
  passed_fed zeros from m here read there all free counts back =
      let is : counted_of p ≡ reached p (Door [] m) p.steps = here_at p _ here ∙ ap (λ l. reached p (Door l m) p.steps) read in
      let none : above p.procs p.index p.procs ≡ [] = above_past p.procs p.index p.procs (omega arith) in
      let lands : counted_of q ≡ reached p (Wait (m + 1) [] None) steps = lands_at p (stage.Wait (m + 1) p.procs false) x steps below few there ∙ ap (λ l. reached p (Wait (m + 1) l None) steps) none in
      let most : p.steps + zeros + 1 ≤ 18446744073709551615 = omega (arith, counts, small) in
      fed_on q _ 0 a r run.Marks
      (lands ∙ ap (reached p (Wait (m + 1) [] None)) counts ∙ sym (passed_all m p.steps free zeros all most) ∙ ap (λ y. fed_once (fed_zeros zeros y) 0) (sym is))
      (subst (λ (y : Counted). CallGoesOn (code_after_step (fed_zeros zeros y).machine 0)) (sym is) (shut_go m p.steps free zeros all most))
      (subst (λ (y : Counted). IsNextRun y.machine p.procs p.index run.Marks) (sym lands) (marks_next p [] (m + 1) refl)) back big

module _ (p : RmeProcess) (x : RmePosition) (steps : ℕ) (below : p.index < p.procs) (few : p.procs ≤ 64) (small : p.steps < 18446744073709551615) where
  -- after the mark the ruin check comes next
  pub checks_at : x.at ≡ 16 → position_of (record p { unmended = 0; position = x; steps = steps }) ≡ Within script_position.Checking
  checks_at e = stands (record p { position = x }) (Within script_position.Checking) (below, (few, tt)) (λ l fits. rw e refl)

  abbrev mark_left : RmeProcess
  mark_left = record p { unmended = 0; position = x; steps = steps }

  marks : (k d : ℕ) → d + 1 ≡ steps → d < 18446744073709551615 → fed_once (reached p (Wait k [] None) d) 0 ≡ counted_at mark_left steps (Within script_position.Checking)
  marks k d counts less =
      let c : min (d + 1) 18446744073709551615 ≡ steps = omega (arith, counts, less) in
      rw (eq-eqb p.index p.index refl) (λ i. record { machine = machine_state_at mark_left (Within script_position.Checking); steps = c i })

  locked_all : (zeros c d : ℕ) → 0 < p.limit → zeros ≡ 3 * p.procs + 4 → d + 1 ≡ c + zeros → c + zeros ≤ 18446744073709551615
      → fed_zeros zeros (reached p (Reread call.Lock []) c) ≡ fed_once (reached p (Wait 1 [] None) d) 0
  locked_all zeros c d some all counts most =
      let others : List ℕ = above p.procs p.index 0 in
      let l : length others + 1 ≡ p.procs = length_others p.procs p.index below in
      let w : length (waits others) ≡ 2 * length others = length_waits others in
      let x : Counted = reached p (Reread call.Lock []) c in
      let r3 : ℕ = length (waits others) + 1 in
      let r2 : ℕ = 2 + r3 in
      let r1 : ℕ = length others + r2 in
      let doors : Counted = reached p (Door others 0) (c + 1 + 1 + 1 + 1) in
      let four : fed_zeros 4 x ≡ doors =
      ap (λ y. fed_once (fed_once (fed_once y 0) 0) 0) (reread_choosing p call.Lock 0 c (omega (arith, all, most)))
      ∙ ap (λ y. fed_once (fed_once y 0) 0) (reread_number p call.Lock 0 0 (c + 1) (omega (arith, all, most)))
      ∙ ap (λ y. fed_once y 0) (reread_inside p (c + 1 + 1) (omega (arith, all, most)))
      ∙ opened p 0 (c + 1 + 1 + 1) (omega (arith, all, most)) in
      let e : ℕ = c + 1 + 1 + 1 + 1 + length others in
      let two : fed_zeros 2 (reached p (Door [] 0) e) ≡ reached p (Wait 1 others None) (e + 1 + 1) =
      ap (λ y. fed_once y 0) (taken p 0 0 e some (omega (arith, l, w, all, most))) ∙ shuts p 1 0 (e + 1) (omega (arith, l, w, all, most)) in
      let last : e + 1 + 1 + length (waits others) ≡ d = omega (arith, l, w, all, counts) in
      zeros_sum 4 r1 zeros x (omega (arith, l, w, all))
      ∙ ap (fed_zeros r1) four
      ∙ zeros_sum (length others) r2 r1 doors refl
      ∙ ap (fed_zeros r2) (peeks_all p others 0 0 (c + 1 + 1 + 1 + 1) refl (omega (arith, l, w, all, most)))
      ∙ zeros_sum 2 r3 r2 (reached p (Door [] 0) e) refl
      ∙ ap (fed_zeros r3) two
      ∙ zeros_sum (length (waits others)) 1 r3 (reached p (Wait 1 others None) (e + 1 + 1)) refl
      ∙ ap (λ y. fed_once y 0) (waits_all p others 0 1 (e + 1 + 1) refl (omega (arith, l, w, all, most)))
      ∙ ap (λ k. fed_once (reached p (Wait 1 [] None) k) 0) last

  pub locked_at : (zeros d : ℕ) → position_of p ≡ Lock (stage.ReadingChoosing call.Lock) → 0 < p.limit → zeros ≡ 3 * p.procs + 4 → x.at ≡ 16 → steps ≡ p.steps + zeros → d + 1 ≡ steps → steps ≤ 18446744073709551615
      → counted_of (record p { unmended = 0; position = x; steps = steps }) ≡ fed_zeros zeros (counted_of p)
  locked_at zeros d here some all e counts one most =
      let fed : fed_zeros zeros (counted_of p) ≡ counted_at mark_left steps (Within script_position.Checking) =
      ap (fed_zeros zeros) (here_at p _ here) ∙ locked_all zeros p.steps d some all (omega (arith, counts, one)) (omega (arith, counts, most)) ∙ marks 1 d one (omega (arith, one, most)) in
      ap (counted_at mark_left steps) (checks_at e) ∙ sym fed

  pub marked_at : (k from : ℕ) → position_of p ≡ Lock (stage.Wait k from false) → above p.procs p.index from ≡ [] → x.at ≡ 16 → steps ≡ p.steps + 1
      → counted_of (record p { unmended = 0; position = x; steps = steps }) ≡ fed_zeros 1 (counted_of p)
  marked_at k from here read e counts =
      let is : counted_of p ≡ reached p (Wait k [] None) p.steps = here_at p _ here ∙ ap (λ l. reached p (Wait k l None) p.steps) read in
      let c : min (p.steps + 1) 18446744073709551615 ≡ steps = omega (arith, counts, small) in
      let m : RmeProcess = record p { unmended = 0; position = x; steps = steps } in
      let there : Counted = counted_at m steps (Within script_position.Checking) in
      let marks : fed_once (reached p (Wait k [] None) p.steps) 0 ≡ there = rw (eq-eqb p.index p.index refl) (λ i. record { machine = machine_state_at m (Within script_position.Checking); steps = c i }) in
      let fed : fed_zeros 1 (counted_of p) ≡ there = ap (λ y. fed_once y 0) is ∙ marks in
      ap (counted_at m steps) (checks_at e) ∙ sym fed

  pub leaving_at : stage_of x ≡ Some (stage.Unmarking call.Unlock) → position_of (record p { position = x; steps = steps }) ≡ Lock (stage.Unmarking call.Unlock)
  leaving_at e = stands (record p { position = x }) (Lock (stage.Unmarking call.Unlock)) (below, few) (λ l fits. rw e refl)

  pub left_at : position_of p ≡ Lock stage.Leaving → stage_of x ≡ Some (stage.Unmarking call.Unlock) → steps ≡ p.steps + 1 → counted_of (record p { position = x; steps = steps }) ≡ fed_zeros 1 (counted_of p)
  left_at here there counts =
      lands_at p (stage.Unmarking call.Unlock) x steps below few there
      ∙ ap (reached p (Unmarking call.Unlock)) counts
      ∙ sym (ap (λ y. fed_once y 0) (here_at p _ here) ∙ drops p 0 p.steps small)
