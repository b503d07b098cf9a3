-- One more step of a wait.
use Rattle.std.proofs.Common.{◌≡◌, ◌≢◌, ℕ, ◌+◌, ◌<◌, ◌≤◌, Bool, true, false, ◌==◌, ◌||◌, List, Option, Some, None, refl, sym, ap, ◌∙◌, subst, arith, eq-eqb}
use Rattle.robust.proofs.AccessCommon.{Load, Look as Looks, Weigh as Weighs, Number as NumberOf, Choosing as ChoosingOf, place_of, access, after_access, next_access, first, Standing, at_wait, Place}
use Rattle.robust.proofs.AccessCommon.{Wait, above, is_before, first_here, above_first, above_skip, has-first, standing, process_state_now, SeatView, CarriesPending, free_process_state, IsSame, Unanswered, waits_at}
use Rattle.rmecore.proofs.MachineSteps.{wait_goes}
use Rattle.rmecore.specs.declared.stage.Stage.TheVariants.{Wait as AtWait}
use Rattle.robust.proofs.FreeSteps.{machine_state_of, unanswered_none, unanswered_then, there, same_then}

look_next : (limit n p k j : ℕ) → j < n → j ≢ p → access limit p (Wait k (above n p j) None) ≡ Some (Load Looks (ChoosingOf j))
look_next limit n p k j lt ne = ap (λ (js : List ℕ). access limit p (Wait k js None)) (above_first n p j j (first_here n p j lt ne))

weigh_next : (limit n p k j : ℕ) → j < n → j ≢ p → access limit p (Wait k (above n p j) (first (above n p j))) ≡ Some (Load Weighs (NumberOf j))
weigh_next limit n p k j lt ne = ap (λ (o : Option ℕ). access limit p (Wait k (above n p j) o)) (first_here n p j lt ne)

look_goes : (s : Standing) (k j v : ℕ) (c : Bool) → first (above s.procs s.index j) ≡ Some j → (v == 0) ≡ c → after_access (at_wait s k j false) (next_access (at_wait s k j false)) v ≡ place_of s.procs s.index (AtWait k j c)
look_goes s k j v true f e = rw (above_first _ _ _ _ f) (rw (has-first, e) refl)
look_goes s k j v false f e = rw (above_first _ _ _ _ f) (rw (has-first, e) refl)

weigh_stays : (s : Standing) (k j v : ℕ) → first (above s.procs s.index j) ≡ Some j → ((v == 0) || is_before k s.index v j) ≡ false → after_access (at_wait s k j true) (next_access (at_wait s k j true)) v ≡ place_of s.procs s.index (AtWait k j true)
weigh_stays s k j v f e = rw (above_first _ _ _ _ f) (let same : (j == j) ≡ true = eq-eqb j j refl in rw (same, e) refl)

module _ (y : SeatView) (k j : ℕ) (lt : j < y.setup.layout.procs) (ne : j ≢ y.by) where
  abbrev n : ℕ
  n = y.setup.layout.procs

  first_is : first (above y.setup.layout.procs y.by j) ≡ Some j
  first_is = first_here y.setup.layout.procs y.by j lt ne

  abbrev before : Place
  before = place_of y.setup.layout.procs y.by (AtWait k j false)

  abbrev seen : Place
  seen = place_of y.setup.layout.procs y.by (AtWait k j true)

  next_look : access y.setup.limit y.by (place_of y.setup.layout.procs y.by (AtWait k j false)) ≡ Some (Load Looks (ChoosingOf j))
  next_look = look_next y.setup.limit y.setup.layout.procs y.by k j lt ne

  next_weigh : access y.setup.limit y.by (place_of y.setup.layout.procs y.by (AtWait k j true)) ≡ Some (Load Weighs (NumberOf j))
  next_weigh = weigh_next y.setup.limit y.setup.layout.procs y.by k j lt ne

  module _ (z : SeatView) (b : Bool) (v : ℕ) where
    pub looked_at : (c : Bool) → (v == 0) ≡ c → process_state_now y ≡ free_process_state (place_of y.setup.layout.procs y.by (AtWait k j false)) b → CarriesPending y Looks (ChoosingOf j) v z → process_state_now z ≡ free_process_state (place_of y.setup.layout.procs y.by (AtWait k j c)) b
    looked_at c e at adv = there y y z 0 (unanswered_none y) before b at (Load Looks (ChoosingOf j)) v next_look adv (place_of y.setup.layout.procs y.by (AtWait k j c)) (look_goes (standing (machine_state_of y before b)) k j v c first_is e) refl refl

    -- a weigh with an index that is the process's own
    module _ (own : ℕ) (is : own ≡ y.by) where
      by_own : (c : Bool) → ((v == 0) || is_before k own v j) ≡ c → ((v == 0) || is_before k y.by v j) ≡ c
      by_own c e = ap (λ (q : ℕ). (v == 0) || is_before k q v j) (sym is) ∙ e

      pub weighed : ((v == 0) || is_before k own v j) ≡ true → process_state_now y ≡ free_process_state (place_of y.setup.layout.procs y.by (AtWait k j true)) b → CarriesPending y Weighs (NumberOf j) v z → process_state_now z ≡ free_process_state (place_of y.setup.layout.procs y.by (AtWait k (j + 1) false)) b
      weighed e at adv = there y y z 0 (unanswered_none y) seen b at (Load Weighs (NumberOf j)) v next_weigh adv (place_of y.setup.layout.procs y.by (AtWait k (j + 1) false)) (wait_goes (standing (machine_state_of y seen b)) k j j v true first_is refl (by_own true e)) refl refl

      pub weigh_blocked : ((v == 0) || is_before k own v j) ≡ false → process_state_now y ≡ free_process_state (place_of y.setup.layout.procs y.by (AtWait k j true)) b → CarriesPending y Weighs (NumberOf j) v z → process_state_now z ≡ free_process_state (place_of y.setup.layout.procs y.by (AtWait k j true)) b
      weigh_blocked e at adv = there y y z 0 (unanswered_none y) seen b at (Load Weighs (NumberOf j)) v next_weigh adv seen (weigh_stays (standing (machine_state_of y seen b)) k j v first_is (by_own false e)) refl refl

-- the same place, by another view of the process
pub same_waits : (x y : SeatView) (k i : ℕ) (l : Bool) (t : Place) → IsSame x y → process_state_now y ≡ free_process_state t (process_state_now x).mended → waits_at y k i l ≡ waits_at x k i l
same_waits x y k i l t same at = λ n. free_process_state (place_of (same.0 n).layout.procs (same.1 n) (AtWait k i l)) (at n).mended

-- what a wait keeps: the processes from j on are not passed
abbrev pub KeptWait : SeatView → SeatView → ℕ → ℕ → ℕ → Type 0
KeptWait x y number k j = (process_state_now y ≡ waits_at x number j false) × Unanswered x k 0 y × IsSame x y × (k ≤ j + j)

module _ (x y : SeatView) (number k j : ℕ) (h : KeptWait x y number k j) where
  abbrev at_j : Place
  at_j = place_of x.setup.layout.procs x.by (AtWait number j false)

  module _ (z : SeatView) (l : Bool) (at : process_state_now z ≡ waits_at y number j l) (same : IsSame y z) where
    pub looks_at : process_state_now z ≡ waits_at x number j l
    looks_at = at ∙ same_waits x y number j l at_j h.2 h.0

    module _ (m : ℕ) (p : Unanswered y 1 m z) where
      pub look_counted : Unanswered x (k + 1) m z
      look_counted = unanswered_then x y z k 1 m h.1 p

  -- a look and a weigh that pass it
  module _ (z w : SeatView) (at : process_state_now z ≡ waits_at y number j true) (same : IsSame y z) (p : Unanswered y 1 0 z) (then_same : IsSame z w) where
    at_z : process_state_now z ≡ waits_at x number j true
    at_z = looks_at z true at same

    pub weigh_counted : (m : ℕ) → Unanswered z 1 m w → Unanswered x (k + 2) m w
    weigh_counted m q =
        let both : Unanswered x (k + 1 + 1) m w = unanswered_then x z w (k + 1) 1 m (look_counted z true at same 0 p) q in
        subst (λ (n : ℕ). Unanswered x n m w) (let e : k + 1 + 1 ≡ k + 2 = omega arith in e) both

    pub kept_passed : process_state_now w ≡ waits_at z number (j + 1) false → Unanswered z 1 0 w → KeptWait x w number (k + 2) (j + 1)
    kept_passed there q = (
      there ∙ same_waits x z number (j + 1) false (place_of x.setup.layout.procs x.by (AtWait number j true)) (same_then x y z h.2 same) at_z,
      weigh_counted 0 q,
      same_then x z w (same_then x y z h.2 same) then_same,
      (let few = h.3 in omega arith),
    )

  -- the process itself is skipped
  pub wait_over : x.by < x.setup.layout.procs → j ≡ x.by → KeptWait x y number k (j + 1)
  wait_over below e =
      let gone : above x.setup.layout.procs x.by j ≡ above x.setup.layout.procs x.by (j + 1) = ap (above x.setup.layout.procs x.by) e ∙ above_skip x.setup.layout.procs x.by below ∙ ap (λ (i : ℕ). above x.setup.layout.procs x.by (i + 1)) (sym e) in
      (h.0 ∙ ap (λ (js : List ℕ). free_process_state (Wait number js None) (process_state_now x).mended) gone, h.1, h.2, (let few = h.3 in omega arith))
