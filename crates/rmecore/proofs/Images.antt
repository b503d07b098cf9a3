-- Runs from an image and to an image. A process's place follows from its own events.
use Rattle.std.proofs.Common.{◌≡◌, ◌≢◌, ℕ, ◌<◌, true, false, ◌==◌, ◌⊎◌, List, [], ◌∷◌, ◌++◌, Option, Some, None, unwrap_or, refl, sym, ap, ◌∙◌, subst, inl, inr, arith, eq-eqb, ne_eqb}
use Rattle.rmecore.proofs.Common.{and_parts, cases_eq, and_right, Outer, Own, Phase, AtDoor, Ready as Waiting, is_ready, IsLawful, all_dead, dead_phase, phase_by, is_ahead, start_of, Dead, Event}
use Rattle.rmecore.proofs.Common.{is_before, process, place_after_event, World, May, after, Run, final, deeds, own_events, place_after, deed, and_then}
use Rattle.rmecore.proofs.Invariant.{Tied, Passed, Before, phase_at, waiting_means, put_same, put_other}
use Rattle.rmecore.proofs.Rows.{before_by}

same_phase : (c k i : ℕ) → dead_phase c k i ≡ phase_at c k i true
same_phase c k i = grind arith

never_before_itself : (k p : ℕ) → is_before k p k p ≡ false
never_before_itself k p = grind arith

door_means : (c k i : ℕ) → dead_phase c k i ≡ AtDoor → k ≡ 0
door_means c k i e = grind arith

not_ahead : (h : Phase) (p : ℕ) (x : Own) → phase_by x ≡ h → is_ahead h p x p x ≡ false
not_ahead AtDoor p x e = ap is_ready e
not_ahead Waiting p x e = and_right _ _ (never_before_itself x.number p)
not_ahead _ p x e = refl

ahead_tells : (h : Phase) (i : ℕ) (y : Own) (p : ℕ) (x : Own) → phase_by y ≡ h → is_ahead h i y p x ≡ true → (is_ready (phase_by x) ≡ true) × ((y.number ≡ 0) ⊎ Before x.number p y.number i)
ahead_tells AtDoor i y p x e f = (f, inl (door_means _ _ _ e))
ahead_tells Waiting i y p x e f = let both = and_parts _ _ f in (both.0, inr (before_by _ _ _ _ both.1))
ahead_tells _ i y p x e f = cc

pub at_image : (n limit : ℕ) (words : ℕ → Own) → IsLawful n limit words → Tied n (all_dead words) (start_of words)
at_image n limit words h =
    record {
      fits = λ p below. (h.rows p).row;
      phase = λ p below. same_phase _ _ _;
      self = λ p. not_ahead _ p (words p) refl;
      pairs = λ p i hp hi ne. record {
        passed = λ e. record { less = passed p i hp hi ne e; counted = tt };
        looked = λ e. absurd e;
        ahead = λ e.
            let reports = ahead_tells _ i (words i) p (words p) refl e in
            let m = waiting_means _ _ _ true (ap is_ready (sym (same_phase _ _ _)) ∙ reports.0) in
            (m.0, m.1, record { less = reports.1; counted = tt });
      };
    }
  where
    passed : (p i : ℕ) → p < n → i < n → p ≢ i → Passed (words p) Dead i → ((words i).number ≡ 0) ⊎ Before (words p).number p (words i).number i
    passed p i hp hi ne e =
        elim e [
          | inl f ↦ elim (cases_eq (words i).number 0) [
            | inl g ↦ inl g
            | inr g ↦ inr (before_by _ _ _ _ (h.least p i hp hi (λ same. ne (sym same)) f.0 f.1 (omega arith)))
          ]
          | inr f ↦ absurd f
        ]

-- a process's place is a function of its own events
pub place_own : (n limit : ℕ) (w : World) (p : ℕ) (es : List Event) → (final n limit w es).places p ≡ place_after n limit (w.places p) (own_events p es)
place_own n limit w p [] = refl
place_own n limit w p (e ∷ es) =
    place_own n limit (after n limit w e) p es ∙ (
    elim (cases_eq p (process e)) [
      | inl same ↦
          let yes_own : (process e == p) ≡ true = eq-eqb _ _ (sym same) in
          let now : (after n limit w e).places p ≡ unwrap_or (place_after_event n limit (w.places p) e) (w.places p) =
          subst (λ r. (after n limit w e).places r ≡ unwrap_or (place_after_event n limit (w.places r) e) (w.places r)) (sym same) (put_same w.places (process e) _) in
          rw (yes_own, now) refl
      | inr ne ↦
          let not_own : (process e == p) ≡ false = ne_eqb _ _ (λ same. ne (sym same)) in
          let now : (after n limit w e).places p ≡ w.places p = put_other w.places (process e) _ p ne in
          rw (not_own, now) refl
    ])

-- a run with one more event is a run
pub run_more : (n limit : ℕ) (w : World) (es : List Event) (e : Event) → Run n limit w es → May n limit (final n limit w es) e → Run n limit w (es ++ e ∷ [])
run_more n limit w [] e run may = (may, tt)
run_more n limit w (f ∷ es) e run may = (run.0, run_more n limit (after n limit w f) es e run.1 may)

-- its deeds are those of the run, then the event's
pub deeds_more : (n limit : ℕ) (w : World) (es : List Event) (e : Event) → deeds n limit w (es ++ e ∷ []) ≡ deeds n limit w es ++ and_then (deed ((final n limit w es).places (process e)) e) []
deeds_more n limit w [] e = refl
deeds_more n limit w (f ∷ es) e = and_then-append (deed (w.places (process f)) f) _ _ _ (deeds_more n limit (after n limit w f) es e)
  where
    and_then-append : (d : Option Outer) (xs ys zs : List Outer) → xs ≡ ys ++ zs → and_then d xs ≡ and_then d ys ++ zs
    and_then-append None xs ys zs e = e
    and_then-append (Some d) xs ys zs e = ap (λ l. d ∷ l) e

pub final_more : (n limit : ℕ) (w : World) (es : List Event) (e : Event) → final n limit w (es ++ e ∷ []) ≡ after n limit (final n limit w es) e
final_more n limit w [] e = refl
final_more n limit w (f ∷ es) e = final_more n limit (after n limit w f) es e
