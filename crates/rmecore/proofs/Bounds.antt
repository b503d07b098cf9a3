-- Numbers stay at most limit, so the words of every world of a run are lawful.
use Rattle.std.proofs.Common.{◌≡◌, ℕ, zero, suc, ◌≤◌, Bool, true, false, if◌then◌else◌, List, [], ◌∷◌, IsSome, unwrap_or, refl, sym, subst, inl, inr, arith, eq-eqb, lt-ltb}
use Rattle.rmecore.proofs.Common.{cases_eq, cases_lt, and_from, or_left, or_right, CoreCall, Lock, Withdraw, Kind}
use Rattle.rmecore.proofs.Common.{Own, Word, Choosing as ChoosingOf, Number as NumberOf, InsideOf}
use Rattle.rmecore.proofs.Common.{Data as DataAt, Abstract, IsRow, IsLawful, all_dead, put, Place, Rest, Dead, Door}
use Rattle.rmecore.proofs.Common.{next, Event, Starts, Crashes, Steps, is_before, restart, place_after_start, shut, place_after_unmark, World, at_rest, is_store, read, write, May, after, Run}
use Rattle.rmecore.proofs.Common.{final}
use Rattle.rmecore.proofs.Invariant.{Before, Stands, Tied, put_same, put_other, row_of}
use Rattle.rmecore.proofs.AllowedSteps.{by_step}
use Rattle.rmecore.proofs.Runs.{kept}

pub before_test : (k p v i : ℕ) → Before k p v i → is_before k p v i ≡ true
before_test k p v i h = elim h [ inl less ↦ or_left _ _ (lt-ltb k v less) | inr both ↦ or_right _ _ (and_from _ _ (eq-eqb k v both.0) (lt-ltb p i both.1)) ]

module _ (limit : ℕ) where
  pub record Small (x : Own) : Type 0 where
    pub choosing : x.choosing ≤ 1
    pub number : x.number ≤ limit
    pub inside : x.inside ≤ 1

  -- the greatest number read is no greater than limit
  abbrev pub Within : Place → Type 0
  Within (Door unread m) = m ≤ limit
  Within _ = Unit {0}

  abbrev Fitting : Word → ℕ → Type 0
  Fitting (ChoosingOf q) v = v ≤ 1
  Fitting (NumberOf q) v = v ≤ limit
  Fitting (InsideOf q) v = v ≤ 1
  Fitting (DataAt i) v = Unit {0}

  small_put : (words : ℕ → Own) (p : ℕ) (x : Own) → ((q : ℕ) → Small (words q)) → Small x → (q : ℕ) → Small (put words p x q)
  small_put words p x h here q =
      elim (cases_eq q p) [
        | inl e ↦ subst (λ r. Small (put words p x r)) (sym e) (subst Small (sym (put_same words p x)) here)
        | inr ne ↦ subst Small (sym (put_other words p x q ne)) (h q)
      ]

  small_write : (words : ℕ → Own) (word : Word) (v : ℕ) → ((q : ℕ) → Small (words q)) → Fitting word v → (q : ℕ) → Small (write words word v q)
  small_write words (ChoosingOf p) v h fits = small_put words p _ h (record { choosing = fits; number = (h p).number; inside = (h p).inside })
  small_write words (NumberOf p) v h fits = small_put words p _ h (record { choosing = (h p).choosing; number = fits; inside = (h p).inside })
  small_write words (InsideOf p) v h fits = small_put words p _ h (record { choosing = (h p).choosing; number = (h p).number; inside = fits })
  small_write words (DataAt i) v h fits = h

  within_restart : (n p : ℕ) (call : CoreCall) (c k i : ℕ) → Within (restart n p call c k i)
  within_restart n p Lock (suc c) zero i = omega arith
  within_restart n p _ (suc c) zero i = tt
  within_restart n p _ zero zero (suc i) = tt
  within_restart n p _ zero (suc k) (suc i) = tt
  within_restart n p _ _ _ _ = tt

  within_shut : (n p : ℕ) (call : CoreCall) (k : ℕ) → Within (shut n p call k)
  within_shut n p Lock k = tt
  within_shut n p _ k = tt

  within_unmarked : (call : CoreCall) → Within (place_after_unmark call)
  within_unmarked Lock = tt
  within_unmarked _ = tt

  -- what a store writes is within the bounds of its word
  fitting : (n p : ℕ) (s : Place) (kind : Kind) (word : Word) (v : ℕ) → IsSome (next n limit p s kind word v) → is_store kind ≡ true → Fitting word v
  fitting n p =
      by_step {C = λ s kind word v t. is_store kind ≡ true → Fitting word v} (
      record {
        rereads_choosing = λ call v e. absurd (cc);
        rereads_number = λ call c v e. absurd (cc);
        rereads_inside = λ call c k v e. absurd (cc);
        opens = λ e. omega arith;
        peeks = λ unread m j v there e. absurd (cc);
        takes = λ m less e. omega arith;
        spends = λ m most e. omega arith;
        shuts = λ call k e. omega arith;
        looks = λ k unpassed j there e. absurd (cc);
        looks_again = λ k unpassed j v there blocked e. absurd (cc);
        weighs = λ k unpassed j v passes e. absurd (cc);
        weighs_again = λ k unpassed j v blocked e. absurd (cc);
        marks = λ k e. omega arith;
        drops = λ e. omega arith;
        withdraws = λ e. omega arith;
        unmarks = λ call e. omega arith;
        glances = λ s word v e. absurd (cc);
      })

  within_next : (n p : ℕ) (words : ℕ → Own) → ((q : ℕ) → Small (words q)) → (s : Place) (kind : Kind) (word : Word) (v : ℕ) → IsSome (next n limit p s kind word v) → (is_store kind ≡ false → read words word ≡ v) → Within s → Within (unwrap_or (next n limit p s kind word v) s)
  within_next n p words small =
      by_step {C = λ s kind word v t. (is_store kind ≡ false → read words word ≡ v) → Within s → Within t} (
      record {
        rereads_choosing = λ call v reports h. tt;
        rereads_number = λ call c v reports h. tt;
        rereads_inside = λ call c k v reports h. within_restart n p call c k v;
        opens = λ reports h. omega arith;
        peeks = λ unread m j v there reports h. let le = (small j).number in let is = reports refl in omega arith;
        takes = λ m less reports h. tt;
        spends = λ m most reports h. tt;
        shuts = λ call k reports h. within_shut n p call k;
        looks = λ k unpassed j there reports h. tt;
        looks_again = λ k unpassed j v there blocked reports h. tt;
        weighs = λ k unpassed j v passes reports h. tt;
        weighs_again = λ k unpassed j v blocked reports h. tt;
        marks = λ k reports h. tt;
        drops = λ reports h. tt;
        withdraws = λ reports h. tt;
        unmarks = λ call reports h. within_unmarked call;
        glances = λ s word v reports h. h;
      })

  pub record Bounded (w : World) : Type 0 where
    pub small : (q : ℕ) → Small (w.words q)
    pub within : (q : ℕ) → Within (w.places q)

  within_put : (places : ℕ → Place) (p : ℕ) (s : Place) → ((q : ℕ) → Within (places q)) → Within s → (q : ℕ) → Within (put places p s q)
  within_put places p s h here q =
      elim (cases_eq q p) [
        | inl e ↦ subst (λ r. Within (put places p s r)) (sym e) (subst Within (sym (put_same places p s)) here)
        | inr ne ↦ subst Within (sym (put_other places p s q ne)) (h q)
      ]

  within_started : (s : Place) (call : CoreCall) → Within s → Within (unwrap_or (place_after_start s call) s)
  within_started Rest Withdraw h = h
  within_started s Withdraw h = h
  within_started _ _ h = h

  small_stored : (words : ℕ → Own) (kind : Kind) (word : Word) (v : ℕ) (b : Bool) → ((q : ℕ) → Small (words q)) → (b ≡ true → Fitting word v) → (q : ℕ) → Small ((if b then write words word v else words) q)
  small_stored words kind word v true h fits q = small_write words word v h (fits refl) q
  small_stored words kind word v false h fits q = h q

  bounded_after : (n : ℕ) (w : World) (e : Event) → May n limit w e → Bounded w → Bounded (after n limit w e)
  bounded_after n w (Starts p call) may h = record { small = h.small; within = within_put w.places p _ h.within (within_started (w.places p) call (h.within p)) }
  bounded_after n w (Crashes p) may h = record { small = h.small; within = within_put w.places p Dead h.within tt }
  bounded_after n w (Steps p kind word v) may h =
      record {
        small = small_stored w.words kind word v (is_store kind) h.small (fitting n p (w.places p) kind word v may.1);
        within = within_put w.places p _ h.within (within_next n p w.words h.small (w.places p) kind word v may.1 may.2 (h.within p));
      }

  lawful : (n : ℕ) (w : World) (a : Abstract) → Tied n w a → Bounded w → ((p : ℕ) → n ≤ p → IsRow limit (w.words p)) → IsLawful n limit w.words
  lawful n w a t h beyond =
      record {
        rows = λ p. elim (cases_lt p n) [
          | inl below ↦ record { choosing = (h.small p).choosing; number = (h.small p).number; inside = (h.small p).inside; row = row_of (w.words p) (w.places p) (t.fits p below) }
          | inr past ↦ beyond p past
        ];
        least = λ p q hp hq ne some marked held. before_test (w.words p).number p (w.words q).number q (
            let before : Stands (w.words p).number p q (w.words q) (w.places q) = (t.pairs p q hp hq (λ same. ne (sym same))).passed (inl (some, marked)) in
            elim before.less [ inl zeroed ↦ absurd (omega arith) | inr less ↦ less ]
            );
      }

  pub final_lawful : (n : ℕ) (w : World) (a : Abstract) (es : List Event) → Tied n w a → Bounded w → ((p : ℕ) → n ≤ p → IsRow limit (w.words p)) → Run n limit w es → IsLawful n limit (final n limit w es).words
  final_lawful n w a [] t h beyond run = lawful n w a t h beyond
  final_lawful n w a (e ∷ es) t h beyond run =
      let k = kept n limit w a e run.0 t in
      let low = run.0.0 in
      final_lawful n (after n limit w e) _ es k.1 (bounded_after n w e run.0 h) (λ p past. subst (IsRow limit) (sym (k.2 p (λ same. omega arith))) (beyond p past)) run.1

  pub rest_bounded : Bounded at_rest
  rest_bounded = record { small = λ q. record { choosing = omega arith; number = omega arith; inside = omega arith }; within = λ q. tt }

  pub rest_rows : IsRow limit (record { choosing = 0; number = 0; inside = 0 })
  rest_rows = record { choosing = omega arith; number = omega arith; inside = omega arith; row = inl refl }

  pub image_bounded : (n : ℕ) (words : ℕ → Own) → IsLawful n limit words → Bounded (all_dead words)
  image_bounded n words h = record { small = λ q. record { choosing = (h.rows q).choosing; number = (h.rows q).number; inside = (h.rows q).inside }; within = λ q. tt }

  pub final_bounded : (n : ℕ) (w : World) (es : List Event) → Bounded w → Run n limit w es → Bounded (final n limit w es)
  final_bounded n w [] h run = h
  final_bounded n w (e ∷ es) h run = final_bounded n (after n limit w e) es (bounded_after n w e run.0 h) run.1

pub within_door : (limit : ℕ) (s : Place) (unread : List ℕ) (m : ℕ) → s ≡ Door unread m → Within limit s → m ≤ limit
within_door limit s unread m e h = subst (Within limit) e h
