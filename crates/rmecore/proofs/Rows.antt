-- One lemma for each kind of step: the deed is allowed, and the invariant holds again.
use Rattle.std.proofs.Common.{◌≡◌, ◌≢◌, ℕ, zero, suc, ◌+◌, ◌<◌, max, Bool, true, false, ◌||◌, ◌==◌, ◌⊎◌, List, [], ◌∷◌, Option, Some, None, IsSome, unwrap_or, refl, sym, ap, ◌∙◌, subst, inl, inr, arith, eqb-true, ltb-true}
use Rattle.rmecore.proofs.Common.{and_parts, or_cases, false_from_ne_true, cases_eq, CoreCall, Lock, Unlock, Withdraw, Recover, Rereads, Outer, Begin, Enter, Crash, Reenter, Leave, Quit, Own, Out}
use Rattle.rmecore.proofs.Common.{AtDoor, Ready as Waiting, Within, DeadIn as DeadWithin, Abstract, is_ready, phase_after_crash, abstract_after, put, Place, Rest, Dead, Reread, Opening, Door, Shutting, Wait, Inside}
use Rattle.rmecore.proofs.Common.{Leaving, Withdrawing, Unmarking, has, without, others, is_before, restart, place_after_start, shut, place_after_unmark, World, step_deed}
use Rattle.rmecore.proofs.Allowing.{Allows, put_false, put_false_self, put_false_kept}
use Rattle.rmecore.proofs.Invariant.{Fits, phase_of, Before, Counted, Stands, Pair, has-without, has-others, put_same, put_other, phase_any, phase_crashed, row_of, phase_out, phase_door, phase_waiting, phase_within, phase_dead, within_means, dead_means, waiting_means}
use Rattle.rmecore.proofs.Changes.{Here, fewer, goes_on, knows_nothing, stays_after, calm, Plain, silent}
use Rattle.rmecore.specs.declared.outer.Outer.TheVariants.{Ready}

abbrev pub Allowed : ℕ → Abstract → Option Outer → Type 0
Allowed n a None = Unit {0}
Allowed n a (Some d) = Allows n a d

abbrev pub after_deed : Abstract → Option Outer → Abstract
after_deed a None = a
after_deed a (Some d) = abstract_after a d

-- the result of p's step: words x, place s, and this deed
abbrev pub Outcome : ℕ → World → Abstract → ℕ → Own → Place → Option Outer → Type 0
Outcome n w a p x s d = Allowed n a d × Here n w (after_deed a d) p x s

pub before_by : (k p v i : ℕ) → is_before k p v i ≡ true → Before k p v i
before_by k p v i e =
    elim (or_cases _ _ e) [
      | inl g ↦ inl (ltb-true k v g)
      | inr g ↦ let both = and_parts _ _ g in inr (eqb-true k v both.0, ltb-true p i both.1)
    ]

-- what it means that a weigh passes
before_from : (k p v i : ℕ) → ((v == 0) || is_before k p v i) ≡ true → (v ≡ 0) ⊎ Before k p v i
before_from k p v i e = elim (or_cases _ _ e) [ inl f ↦ inl (eqb-true v 0 f) | inr f ↦ inr (before_by k p v i f) ]

module _ {n : ℕ} {w : World} {a : Abstract} {p : ℕ} (below : p < n) where
  pub opens : {x : Own} (v : ℕ) → Here n w a p x Opening → v ≡ 1 → Outcome n w a p (record x { choosing = v }) (Door (others n p) 0) (Some (Begin p))
  opens {x = x} v h one =
      let ready : ℕ → Bool = λ q. is_ready (a.phase q) in
      let out : a.phase p ≡ Out = h.phase ∙ phase_out _ _ _ _ h.fits.0 h.fits.1 in
      let still = λ (i q : ℕ) (ne : i ≢ p) (e : put a.ahead p ready i q ≡ true). ap (λ f. f q) (sym (put_other a.ahead p ready i ne)) ∙ e in
      let new = λ (q : ℕ) (hq : q < n) (ne : q ≢ p) (k : ℕ). let r : Stands k q p (record x { choosing = v }) (Door (others n p) 0) = record { less = inl h.fits.1; counted = inl (has-others n p q hq ne) } in r in (
        (below, out),
        record {
          fits = (omega arith, h.fits.1, h.fits.2);
          phase = put_same a.phase p AtDoor ∙ sym (phase_door v _ _ _ (omega arith) h.fits.1);
          self = λ q. elim (cases_eq q p) [
            | inl e ↦ subst (λ r. put a.ahead p ready r r ≡ false) (sym e) (ap (λ f. f p) (put_same a.ahead p ready) ∙ ap is_ready out)
            | inr ne ↦ ap (λ f. f q) (put_other a.ahead p ready q ne) ∙ h.self q
          ];
          first = λ i hi ne. fewer (still i p ne) (goes_on (h.first i hi ne) (record x { choosing = v }) (Door (others n p) 0) refl (λ k. refl) (λ e. absurd e) (λ e. absurd e));
          second = λ q hq ne.
              record {
                passed = λ e. new q hq ne _;
                looked = λ e. (new q hq ne _).counted;
                ahead = λ e.
                    let ready_now : is_ready (a.phase q) ≡ true = ap (λ f. f q) (sym (put_same a.ahead p ready)) ∙ e in
                    let m = waiting_means _ _ _ _ (ap is_ready (sym (h.others_phase q hq ne)) ∙ ready_now) in
                    (m.0, m.1, new q hq ne _);
              };
          others_fit = h.others_fit;
          others_phase = λ q hq ne. put_other a.phase p AtDoor q ne ∙ h.others_phase q hq ne;
          others_pairs = λ q i hq hi ne far away. fewer (still i q away) (h.others_pairs q i hq hi ne far away);
        },
      )

  pub peeks : {x : Own} {unread : List ℕ} {m : ℕ} (j v : ℕ) → Here n w a p x (Door unread m) → (w.words j).number ≡ v → Outcome n w a p x (Door (without j unread) (max m v)) None
  peeks {x = x} {unread = unread} {m = m} j v h is = (
    tt,
    calm h x (Door (without j unread) (max m v)) a.phase h.fits h.phase (λ q ne. refl)
        (λ i hi ne k. goes_on k x (Door (without j unread) (max m v)) refl (λ e. refl) (λ e. absurd e) (λ e. absurd e))
        (λ q hq ne k. stays_after k x (Door (without j unread) (max m v)) (λ c. counted q c) (λ c. c.less)),
  )
    where
      counted : (q : ℕ) → Counted (w.words q).number q (Door unread m) → Counted (w.words q).number q (Door (without j unread) (max m v))
      counted q c =
          elim (cases_eq q j) [
            | inl e ↦ let same : (w.words q).number ≡ v = ap (λ r. (w.words r).number) e ∙ is in inr (omega arith)
            | inr ne ↦ elim c [ inl f ↦ inl (has-without unread q j ne ∙ f) | inr f ↦ inr (omega arith) ]
          ]

  pub takes : {x : Own} {m : ℕ} (v : ℕ) → Here n w a p x (Door [] m) → v ≡ m + 1 → Outcome n w a p (record x { number = v }) (Shutting Lock v) (Some (Ready p))
  takes {x = x} {m = m} v h is = (
    (below, h.phase ∙ phase_door _ _ _ _ h.fits.0 h.fits.1),
    calm h (record x { number = v }) (Shutting Lock v) (put a.phase p Waiting) (refl, omega arith, h.fits.2) (put_same a.phase p Waiting ∙ sym (phase_waiting _ v _ _ (omega arith) h.fits.2)) (put_other a.phase p Waiting)
        (λ i hi ne k. knows_nothing (λ e. omega arith) (λ e. e) (λ e. e) (λ e. let f : 0 < x.number = (k.ahead e).0 in omega arith))
        (λ q hq ne k. stays_after k (record x { number = v }) (Shutting Lock v) (λ c. tt) (λ c. elim c.counted [ inl f ↦ cc | inr f ↦ inr (inl (omega arith)) ])),
  )

  -- p gives up its place in line
  quit_to : {x : Own} {s : Place} (x' : Own) → Here n w a p x s → (a.phase p ≡ AtDoor) ⊎ (a.phase p ≡ Waiting) → x'.choosing ≡ 0 → x'.number ≡ 0 → x'.inside ≡ 0 → Outcome n w a p x' Rest (Some (Quit p))
  quit_to {x = x} {s = s} x' h phase choosing number inside = (
    (below, phase),
    record {
      fits = (inside, inl choosing);
      phase = put_same a.phase p Out ∙ sym (phase_out _ _ _ _ choosing number);
      self = λ q. put_false_kept (a.ahead q) p q (h.self q);
      first = λ i hi ne. knows_nothing (λ e. omega arith) (λ e. e) (λ e. e) (λ e. absurd (put_false_self (a.ahead i) p e));
      second = λ q hq ne. fewer (λ e. put_false (a.ahead p) p q e) (stays_after (h.second q hq ne) x' Rest (λ e. tt) (λ e. inl number));
      others_fit = h.others_fit;
      others_phase = λ q hq ne. put_other a.phase p Out q ne ∙ h.others_phase q hq ne;
      others_pairs = λ q i hq hi ne far away. fewer (λ e. put_false (a.ahead i) p q e) (h.others_pairs q i hq hi ne far away);
    },
  )

  pub quits : {x : Own} {m : ℕ} (v : ℕ) → Here n w a p x (Door [] m) → v ≡ 0 → Outcome n w a p (record x { choosing = v }) Rest (Some (Quit p))
  quits {x = x} v h is = quit_to (record x { choosing = v }) h (inl (h.phase ∙ phase_door _ _ _ _ h.fits.0 h.fits.1)) is h.fits.1 h.fits.2

  pub withdraws : {x : Own} (v : ℕ) → Here n w a p x Withdrawing → v ≡ 0 → Outcome n w a p (record x { number = v }) Rest (Some (Quit p))
  withdraws {x = x} v h is = quit_to (record x { number = v }) h (inr (h.phase ∙ phase_waiting _ _ _ _ h.fits.1 h.fits.2)) h.fits.0 is h.fits.2

  -- p begins to wait
  waits : {x : Own} {s : Place} (x' : Own) (k : ℕ) → Here n w a p x s → Fits x' (Wait k (others n p) None) → x'.number ≡ x.number → x'.inside ≡ x.inside → a.phase p ≡ Waiting → Here n w a p x' (Wait k (others n p) None)
  waits {x = x} {s = s} x' k h fits number inside phase =
      calm h x' (Wait k (others n p) None) a.phase fits (phase ∙ sym (phase_waiting _ _ _ _ (omega arith) fits.3)) (λ q ne. refl)
      (λ i hi ne c. goes_on c x' (Wait k (others n p) None) number (λ e. inside) (λ e. absurd (true≢false_at (has-others n p i hi ne) e)) (λ e. absurd e))
      (λ q hq ne c. stays_after c x' (Wait k (others n p) None) (λ e. tt) (λ e. rw number e.less))
    where
      true≢false_at : {b : Bool} → b ≡ true → b ≡ false → ⊥
      true≢false_at e f = cc

  pub shuts : {x : Own} {k : ℕ} (call : CoreCall) (v : ℕ) → Here n w a p x (Shutting call k) → v ≡ 0 → Outcome n w a p (record x { choosing = v }) (shut n p call k) None
  shuts {x = x} {k = k} Lock v h is =
      (tt, waits (record x { choosing = v }) k h (is, h.fits.0, h.fits.1, h.fits.2) refl refl (h.phase ∙ phase_waiting _ _ _ _ (omega arith) h.fits.2))
  shuts {x = x} _ v h is =
      (tt, silent h (record x { choosing = v }) Rest a.phase tt (h.fits.2, inl is) (h.phase ∙ phase_waiting _ _ _ _ (omega arith) h.fits.2 ∙ sym (phase_waiting v _ _ _ (omega arith) h.fits.2)) (λ q ne. refl) refl (λ e. refl))

  pub looks : {x : Own} {k : ℕ} {unpassed : List ℕ} (j v : ℕ) → Here n w a p x (Wait k unpassed None) → (w.words j).choosing ≡ v → v ≡ 0 → Outcome n w a p x (Wait k unpassed (Some j)) None
  looks {x = x} {k = k} {unpassed = unpassed} j v h is zeroed = (
    tt,
    calm h x (Wait k unpassed (Some j)) a.phase h.fits h.phase (λ q ne. refl)
        (λ i hi ne c. goes_on c x (Wait k unpassed (Some j)) refl (λ e. refl) (λ e. c.passed (inr e)) (λ e. not_in_door (w.words i) (w.places i) (h.others_fit i hi ne) (ap (λ r. (w.words r).choosing) (sym e) ∙ is ∙ zeroed)))
        (λ q hq ne c. stays_after c x (Wait k unpassed (Some j)) (λ e. tt) (λ e. e.less)),
  )
    where
      not_in_door : (y : Own) (t : Place) → Fits y t → y.choosing ≡ 0 → Counted x.number p t
      not_in_door y (Door unread m) fits e = absurd (omega arith)
      not_in_door y _ fits e = tt

  pub weighs : {x : Own} {k : ℕ} {unpassed : List ℕ} (j v : ℕ) → Here n w a p x (Wait k unpassed (Some j)) → (w.words j).number ≡ v → ((v == 0) || is_before k p v j) ≡ true → Outcome n w a p x (Wait k (without j unpassed) None) None
  weighs {x = x} {k = k} {unpassed = unpassed} j v h is less = (
    tt,
    calm h x (Wait k (without j unpassed) None) a.phase h.fits h.phase (λ q ne. refl)
        (λ i hi ne c. goes_on c x (Wait k (without j unpassed) None) refl (λ e. refl) (passes i c) (λ e. absurd e))
        (λ q hq ne c. stays_after c x (Wait k (without j unpassed) None) (λ e. tt) (λ e. e.less)),
  )
    where
      passes : (i : ℕ) → Pair (a.ahead i p) p x (Wait k unpassed (Some j)) i (w.words i) (w.places i) → has (without j unpassed) i ≡ false → Stands x.number p i (w.words i) (w.places i)
      passes i c e =
          elim (cases_eq i j) [
            | inl f ↦
                let number : (w.words i).number ≡ v = ap (λ r. (w.words r).number) f ∙ is in
                let reports : (v ≡ 0) ⊎ Before x.number p v i = rw (f, h.fits.1) (before_from k p v j less) in
                record { less = rw number reports; counted = c.looked (sym f) }
            | inr ne ↦ c.passed (inr (sym (has-without unpassed i j ne) ∙ e))
          ]

  pub enters : {x : Own} {k : ℕ} (v : ℕ) → Here n w a p x (Wait k [] None) → v ≡ 1 → Outcome n w a p (record x { inside = v }) Inside (Some (Enter p))
  enters {x = x} {k = k} v h one = (
    (
      below,
      waiting,
      λ q hq e. elim (cases_eq q p) [
        | inl f ↦ let bad : Within ≡ Waiting = sym e ∙ ap a.phase f ∙ waiting in cc
        | inr ne ↦ alone q hq ne (within_means _ _ _ _ (sym (h.others_phase q hq ne) ∙ e))
      ],
      λ q hq e. elim (cases_eq q p) [
        | inl f ↦ let bad : DeadWithin ≡ Waiting = sym e ∙ ap a.phase f ∙ waiting in cc
        | inr ne ↦ alone q hq ne (dead_means _ _ _ _ (sym (h.others_phase q hq ne) ∙ e))
      ],
      λ q hq. false_from_ne_true _ (λ e. elim (cases_eq q p) [
        | inl f ↦ let bad : true ≡ false = sym e ∙ ap (a.ahead p) f ∙ h.self p in cc
        | inr ne ↦ let k = (h.second q hq ne).ahead e in not_both q hq ne k.0 k.2
      ]),
    ),
    record {
      fits = (h.fits.0, omega arith, omega arith);
      phase = put_same a.phase p Within ∙ sym (phase_within _ _ v (omega arith) (omega arith));
      self = λ q. put_false_kept (a.ahead q) p q (h.self q);
      first = λ i hi ne. record {
        passed = λ e. passed i hi ne;
        looked = λ e. absurd e;
        ahead = λ e. absurd (put_false_self (a.ahead i) p e);
      };
      second = λ q hq ne. fewer (λ e. put_false (a.ahead p) p q e) (stays_after (h.second q hq ne) (record x { inside = v }) Inside (λ e. tt) (λ e. e.less));
      others_fit = h.others_fit;
      others_phase = λ q hq ne. put_other a.phase p Within q ne ∙ h.others_phase q hq ne;
      others_pairs = λ q i hq hi ne far away. fewer (λ e. put_false (a.ahead i) p q e) (h.others_pairs q i hq hi ne far away);
    },
  )
    where
      waiting : a.phase p ≡ Waiting
      waiting = h.phase ∙ phase_waiting _ _ _ _ (omega arith) h.fits.3

      -- p has passed all other processes
      passed : (q : ℕ) → q < n → q ≢ p → Stands x.number p q (w.words q) (w.places q)
      passed q hq ne = (h.first q hq ne).passed (inr refl)

      -- no process has passed p, or is ahead of it
      not_both : (q : ℕ) → q < n → q ≢ p → 0 < (w.words q).number → Stands (w.words q).number q p x (Wait k [] None) → ⊥
      not_both q hq ne some s = let r = passed q hq ne in omega arith

      alone : (q : ℕ) → q < n → q ≢ p → (0 < (w.words q).number) × (0 < (w.words q).inside) → ⊥
      alone q hq ne e = not_both q hq ne e.0 ((h.second q hq ne).passed (inl e))

  pub drops : {x : Own} (v : ℕ) → Here n w a p x Leaving → v ≡ 0 → Outcome n w a p (record x { number = v }) (Unmarking Unlock) (Some (Leave p))
  drops {x = x} v h is = (
    (below, h.phase ∙ phase_within _ _ _ h.fits.1 h.fits.2),
    calm h (record x { number = v }) (Unmarking Unlock) (put a.phase p Out) (h.fits.0, is) (put_same a.phase p Out ∙ sym (phase_out _ _ _ _ h.fits.0 is)) (put_other a.phase p Out)
        (λ i hi ne k. knows_nothing (λ e. omega arith) (λ e. e) (λ e. e) (λ e. let f : x.inside ≡ 0 = (k.ahead e).1 in omega arith))
        (λ q hq ne k. stays_after k (record x { number = v }) (Unmarking Unlock) (λ c. tt) (λ c. inl is)),
  )

  pub unmarks : {x : Own} (call : CoreCall) (v : ℕ) → Here n w a p x (Unmarking call) → v ≡ 0 → Outcome n w a p (record x { inside = v }) (place_after_unmark call) None
  unmarks {x = x} Lock v h is =
      (tt, silent h (record x { inside = v }) Opening a.phase tt (h.fits.0, h.fits.1, is) (h.phase ∙ phase_out _ _ _ _ h.fits.0 h.fits.1 ∙ sym (phase_out _ _ v _ h.fits.0 h.fits.1)) (λ q ne. refl) refl (λ e. absurd (omega arith)))
  unmarks {x = x} _ v h is =
      (tt, silent h (record x { inside = v }) Rest a.phase tt (is, inl h.fits.0) (h.phase ∙ phase_out _ _ _ _ h.fits.0 h.fits.1 ∙ sym (phase_out _ _ v _ h.fits.0 h.fits.1)) (λ q ne. refl) refl (λ e. absurd (omega arith)))

  -- p reaches a plain place with the same words and phase
  pub comes : {x : Own} {s : Place} (s' : Place) → Here n w a p x s → Plain s' → Fits x s' → phase_of x s ≡ phase_of x s' → Here n w a p x s'
  comes {x = x} s' h plain fits same = silent h x s' a.phase plain fits (h.phase ∙ same) (λ q ne. refl) refl (λ e. refl)

  reenters : {x : Own} {call : CoreCall} → (k i : ℕ) → Here n w a p x (Reread call (zero ∷ suc k ∷ [])) → x.inside ≡ suc i → Outcome n w a p x Inside (Some (Reenter p))
  reenters {x = x} k i h is = (
    (below, h.phase ∙ phase_dead _ _ _ (omega arith) (omega arith)),
    silent h x Inside (put a.phase p Within) tt (h.fits.1, omega arith, omega arith) (put_same a.phase p Within ∙ sym (phase_within _ _ _ (omega arith) (omega arith))) (put_other a.phase p Within) refl (λ e. refl),
  )

  pub restarts : {x : Own} (call : CoreCall) (c k i : ℕ) → Here n w a p x (Reread call (c ∷ k ∷ [])) → x.inside ≡ i → Outcome n w a p x (restart n p call c k i) (step_deed p (Reread call (c ∷ k ∷ [])) Rereads i)
  restarts {x = x} Lock (suc c) zero i h is =
      let out : x.inside ≡ 0 = omega arith in (
        tt,
        calm h x (Door (others n p) 0) a.phase (omega arith, h.fits.2, out) (h.phase ∙ phase_any _ _ _ _ _ (inl h.fits.2)) (λ q ne. refl)
            (λ i hi ne k. goes_on k x (Door (others n p) 0) refl (λ e. refl) (λ e. absurd e) (λ e. absurd e))
            (λ q hq ne k. stays_after k x (Door (others n p) 0) (λ e. inl (has-others n p q hq ne)) (λ e. e.less)),
      )
  restarts {x = x} Lock (suc c) (suc k) i h is = let out : x.inside ≡ 0 = omega arith in (tt, comes (Shutting Lock (suc k)) h tt (h.fits.2, omega arith, out) (phase_any _ _ _ _ _ (inr out)))
  restarts {x = x} Lock zero zero zero h is = (tt, comes Opening h tt (h.fits.1, h.fits.2, is) (phase_any _ _ _ _ _ (inl h.fits.2)))
  restarts {x = x} Lock zero zero (suc i) h is = (tt, comes (Unmarking Lock) h tt (h.fits.1, h.fits.2) (phase_any _ _ _ _ _ (inl h.fits.2)))
  restarts {x = x} Lock zero (suc k) zero h is = (tt, waits x (suc k) h (h.fits.1, h.fits.2, omega arith, is) refl refl (h.phase ∙ phase_waiting _ _ _ _ (omega arith) is))
  restarts {x = x} Lock zero (suc k) (suc i) h is = reenters k i h is
  restarts {x = x} _ (suc c) zero i h is = let out : x.inside ≡ 0 = omega arith in (tt, comes Rest h tt (out, inr h.fits.2) (phase_any _ _ _ _ _ (inl h.fits.2)))
  restarts {x = x} _ (suc c) (suc k) i h is = let out : x.inside ≡ 0 = omega arith in (tt, comes (Shutting Recover (suc k)) h tt (h.fits.2, omega arith, out) (phase_any _ _ _ _ _ (inr out)))
  restarts {x = x} _ zero zero zero h is = (tt, comes Rest h tt (is, inl h.fits.1) (phase_any _ _ _ _ _ (inl h.fits.2)))
  restarts {x = x} _ zero zero (suc i) h is = (tt, comes (Unmarking Recover) h tt (h.fits.1, h.fits.2) (phase_any _ _ _ _ _ (inl h.fits.2)))
  restarts {x = x} _ zero (suc k) zero h is = (tt, comes Rest h tt (is, inl h.fits.1) (phase_any _ _ _ _ _ (inr is)))
  restarts {x = x} _ zero (suc k) (suc i) h is = reenters k i h is

  pub crashes : {x : Own} (s : Place) → Here n w a p x s → Outcome n w a p x Dead (Some (Crash p))
  crashes {x = x} s h = (
    below,
    silent h x Dead (put a.phase p (phase_after_crash (a.phase p))) tt (row_of x s h.fits) (put_same a.phase p _ ∙ ap phase_after_crash h.phase ∙ phase_crashed _ _ _ _) (put_other a.phase p _) refl (λ e. refl),
  )

  pub starts : {x : Own} (s : Place) (call : CoreCall) → Here n w a p x s → IsSome (place_after_start s call) → Outcome n w a p x (unwrap_or (place_after_start s call) s) None
  starts Rest Lock h some = (tt, comes (Reread Lock []) h tt (inr h.fits.0) (phase_any _ _ _ _ _ (inr h.fits.0)))
  starts Rest Recover h some = (tt, comes (Reread Recover []) h tt (inr h.fits.0) (phase_any _ _ _ _ _ (inr h.fits.0)))
  starts Dead Lock h some = (tt, comes (Reread Lock []) h tt h.fits refl)
  starts Dead Recover h some = (tt, comes (Reread Recover []) h tt h.fits refl)
  starts Inside Unlock h some = (tt, comes Leaving h tt h.fits refl)
  starts (Wait k unpassed looked) Withdraw h some = (tt, comes Withdrawing h tt (h.fits.0, omega arith, h.fits.3) (phase_any _ _ _ _ _ (inr h.fits.3)))
  starts _ _ h some = cc
