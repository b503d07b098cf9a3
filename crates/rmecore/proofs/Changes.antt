-- A step of process p changes p's words and place alone. What p must keep for the invariant to hold again.
use Rattle.std.proofs.Common.{◌≡◌, ◌≢◌, ℕ, ◌<◌, Bool, true, false, ◌⊎◌, Some, None, refl, sym, ◌∙◌, subst, inl, inr, arith}
use Rattle.rmecore.proofs.Common.{cases_eq, Own, Phase, Abstract, Place, Door, Wait, World}
use Rattle.rmecore.proofs.Invariant.{Fits, phase_of, Before, Counted, Stands, WaitsPast, Looked, Pair, Tied}

-- p has words x and place s, all others are as in w, and the invariant holds
pub record Here (n : ℕ) (w : World) (a : Abstract) (p : ℕ) (x : Own) (s : Place) : Type 0 where
  pub fits : Fits x s
  pub phase : a.phase p ≡ phase_of x s
  pub self : (q : ℕ) → a.ahead q q ≡ false
  pub first : (i : ℕ) → i < n → i ≢ p → Pair (a.ahead i p) p x s i (w.words i) (w.places i)
  pub second : (q : ℕ) → q < n → q ≢ p → Pair (a.ahead p q) q (w.words q) (w.places q) p x s
  pub others_fit : (q : ℕ) → q < n → q ≢ p → Fits (w.words q) (w.places q)
  pub others_phase : (q : ℕ) → q < n → q ≢ p → a.phase q ≡ phase_of (w.words q) (w.places q)
  pub others_pairs : (q i : ℕ) → q < n → i < n → q ≢ i → q ≢ p → i ≢ p → Pair (a.ahead i q) q (w.words q) (w.places q) i (w.words i) (w.places i)

pub here_of : (n : ℕ) (w : World) (a : Abstract) (p : ℕ) → p < n → Tied n w a → Here n w a p (w.words p) (w.places p)
here_of n w a p below t =
    record {
      fits = t.fits p below;
      phase = t.phase p below;
      self = t.self;
      first = λ i h ne. t.pairs p i below h (λ e. ne (sym e));
      second = λ q h ne. t.pairs q p h below ne;
      others_fit = λ q h ne. t.fits q h;
      others_phase = λ q h ne. t.phase q h;
      others_pairs = λ q i h h' ne far away. t.pairs q i h h' ne;
    }

module _ (w : World) (p : ℕ) (words : ℕ → Own) (places : ℕ → Place) (s : Place) (same : (q : ℕ) → q ≢ p → words q ≡ w.words q) (there : places p ≡ s) (elsewhere : (q : ℕ) → q ≢ p → places q ≡ w.places q) where
  -- what holds of p now, and of the others before, holds of all
  at_each : (Q : ℕ → Own → Place → Type 0) → Q p (words p) s → ((q : ℕ) → q ≢ p → Q q (w.words q) (w.places q)) → (q : ℕ) → Q q (words q) (places q)
  at_each Q now before q =
      elim (cases_eq q p) [
        | inl e ↦ subst (λ r. Q r (words r) (places r)) (sym e) (subst (λ t. Q p (words p) t) (sym there) now)
        | inr ne ↦ subst (λ x. Q q x (places q)) (sym (same q ne)) (subst (λ t. Q q (w.words q) t) (sym (elsewhere q ne)) (before q ne))
      ]

  pub tied_of : (n : ℕ) (a : Abstract) → Here n w a p (words p) s → Tied n (record { words = words; places = places }) a
  tied_of n a here =
      record {
        fits = at_each (λ q x t. q < n → Fits x t) (λ h. here.fits) (λ q ne h. here.others_fit q h ne);
        phase = at_each (λ q x t. q < n → a.phase q ≡ phase_of x t) (λ h. here.phase) (λ q ne h. here.others_phase q h ne);
        self = here.self;
        pairs = at_each (λ q x t. (i : ℕ) → q < n → i < n → q ≢ i → Pair (a.ahead i q) q x t i (words i) (places i))
            (at_each (λ i y t. p < n → i < n → p ≢ i → Pair (a.ahead i p) p (words p) s i y t)
            (λ h h' ne. absurd (ne refl))
            (λ i away h h' ne. here.first i h' away))
            (λ q far. at_each (λ i y t. q < n → i < n → q ≢ i → Pair (a.ahead i q) q (w.words q) (w.places q) i y t)
            (λ h h' ne. here.second q h ne)
            (λ i away h h' ne. here.others_pairs q i h h' ne far away));
      }

-- the invariant of one pair of processes

-- fewer processes are ahead
pub fewer : {b b' : Bool} {p : ℕ} {x : Own} {s : Place} {i : ℕ} {y : Own} {t : Place} → (b' ≡ true → b ≡ true) → Pair b p x s i y t → Pair b' p x s i y t
fewer f h = record { passed = h.passed; looked = h.looked; ahead = λ e. h.ahead (f e) }

-- p's place changes, its number does not
pub goes_on : {b : Bool} {p : ℕ} {x : Own} {s : Place} {i : ℕ} {y : Own} {t : Place} → Pair b p x s i y t → (x' : Own) (s' : Place) → x'.number ≡ x.number → (0 < x.number → x'.inside ≡ x.inside) → (WaitsPast s' i → Stands x.number p i y t) → (Looked s' i → Counted x.number p t) → Pair b p x' s' i y t
goes_on {p = p} {x = x} {i = i} {y = y} {t = t} h x' s' number inside past look =
    record {
      passed = λ e. rw number (elim e [ inl f ↦ let g : (0 < x.number) × (0 < x.inside) = (omega arith, omega (arith, inside (omega arith))) in h.passed (inl g) | inr f ↦ past f ]);
      looked = λ e. rw number (look e);
      ahead = λ e. rw number (let k = h.ahead e in (k.0, inside k.0 ∙ k.1, k.2));
    }

-- p has passed and looked at no process, and is ahead of none
pub knows_nothing : {b : Bool} {p : ℕ} {x : Own} {s : Place} {i : ℕ} {y : Own} {t : Place} → ((0 < x.number) × (0 < x.inside) → ⊥) → (WaitsPast s i → ⊥) → (Looked s i → ⊥) → (b ≡ true → ⊥) → Pair b p x s i y t
knows_nothing out past look nobody =
    record {
      passed = λ e. elim e [ inl f ↦ absurd (out f) | inr f ↦ absurd (past f) ];
      looked = λ e. absurd (look e);
      ahead = λ e. absurd (nobody e);
    }

-- what another process knows of p, when p's number and place change
pub stays_after : {b : Bool} {q : ℕ} {z : Own} {u : Place} {p : ℕ} {x : Own} {s : Place} → Pair b q z u p x s → (x' : Own) (s' : Place) → (Counted z.number q s → Counted z.number q s') → (Stands z.number q p x s → (x'.number ≡ 0) ⊎ Before z.number q x'.number p) → Pair b q z u p x' s'
stays_after {q = q} {z = z} {p = p} {x = x} {s = s} h x' s' counted less =
    let on = λ (k : Stands z.number q p x s). let r : Stands z.number q p x' s' = record { less = less k; counted = counted k.counted } in r in
    record {
      passed = λ e. on (h.passed e);
      looked = λ e. counted (h.looked e);
      ahead = λ e. let k = h.ahead e in (k.0, k.1, on k.2);
    }

-- a step of p that changes no ahead set
pub calm : {n : ℕ} {w : World} {a : Abstract} {p : ℕ} {x : Own} {s : Place} → Here n w a p x s → (x' : Own) (s' : Place) (phase : ℕ → Phase) → Fits x' s' → phase p ≡ phase_of x' s' → ((q : ℕ) → q ≢ p → phase q ≡ a.phase q)
    → ((i : ℕ) → i < n → i ≢ p → Pair (a.ahead i p) p x s i (w.words i) (w.places i) → Pair (a.ahead i p) p x' s' i (w.words i) (w.places i))
    → ((q : ℕ) → q < n → q ≢ p → Pair (a.ahead p q) q (w.words q) (w.places q) p x s → Pair (a.ahead p q) q (w.words q) (w.places q) p x' s')
    → Here n w (record { phase = phase; ahead = a.ahead }) p x' s'
calm h x' s' phase fits mine rest first second =
    record {
      fits = fits;
      phase = mine;
      self = h.self;
      first = λ i below ne. first i below ne (h.first i below ne);
      second = λ q below ne. second q below ne (h.second q below ne);
      others_fit = h.others_fit;
      others_phase = λ q below ne. rest q ne ∙ h.others_phase q below ne;
      others_pairs = h.others_pairs;
    }

-- a place at which p has passed, looked at and missed no process
abbrev pub Plain : Place → Type 0
Plain (Door unread m) = ⊥
Plain (Wait k unpassed looked) = ⊥
Plain _ = Unit {0}

pub plain_past : (s : Place) (i : ℕ) → Plain s → WaitsPast s i → ⊥
plain_past (Door unread m) i h e = h
plain_past (Wait k unpassed looked) i h e = h
plain_past _ i h e = e

pub plain_look : (s : Place) (i : ℕ) → Plain s → Looked s i → ⊥
plain_look (Door unread m) i h e = h
plain_look (Wait k unpassed None) i h e = h
plain_look (Wait k unpassed (Some j)) i h e = h
plain_look _ i h e = e

pub plain_counted : (s : Place) (k q : ℕ) → Plain s → Counted k q s
plain_counted (Door unread m) k q h = absurd h
plain_counted (Wait k' unpassed looked) k q h = tt
plain_counted _ k q h = tt

-- p reaches a plain place with the same number
pub silent : {n : ℕ} {w : World} {a : Abstract} {p : ℕ} {x : Own} {s : Place} → Here n w a p x s → (x' : Own) (s' : Place) (phase : ℕ → Phase) → Plain s' → Fits x' s' → phase p ≡ phase_of x' s' → ((q : ℕ) → q ≢ p → phase q ≡ a.phase q)
    → x'.number ≡ x.number → (0 < x.number → x'.inside ≡ x.inside) → Here n w (record { phase = phase; ahead = a.ahead }) p x' s'
silent h x' s' phase plain fits mine rest number inside =
    calm h x' s' phase fits mine rest
    (λ i below ne k. goes_on k x' s' number inside (λ e. absurd (plain_past s' i plain e)) (λ e. absurd (plain_look s' i plain e)))
    (λ q below ne k. stays_after k x' s' (λ c. plain_counted s' _ q plain) (λ c. rw number c.less))
