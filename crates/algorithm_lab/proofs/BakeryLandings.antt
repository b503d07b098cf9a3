-- Where the local lines of the Bakery lead it, as places of the lock.
use Rattle.std.proofs.Common.{◌≡◌, ℕ, zero, suc, ◌+◌, ◌^◌, ◌<◌, ◌≤◌, max, true, List, [], ◌∷◌, Option, Some, None, Ok, refl, ap, ◌∙◌, inl, inr, arith}
use Rattle.std.specs.Prelude.{option_map}
use Rattle.std.proofs.lemmas.Bool.{cases_eq}
use Rattle.rmecore.specs.Place.{Place, Door, Wait, above, others, has, lock_restart, recovery_restart}
use Rattle.rmecore.specs.Machine.{first, again, recovery_answer}
use Rattle.rmecore.specs.World.{reentry}
use Rattle.rmecore.specs.declared.core_done.CoreDone.{CoreDone}
use Rattle.rmecore.specs.declared.outer.Outer.{Outer}
use Rattle.rmecore.proofs.Scans.{above_first, lined_above, has-first}
use Rattle.algorithm_lab.specs.Bakery.{IsBakery}
use Rattle.algorithms.specs.Arrivals.{Arrival}
use Rattle.algorithms.specs.LocalRuns.{nothing_noted, least_from}
use Rattle.algorithms.specs.Steps.{process_landed}
use Rattle.algorithm_lab.specs.Moves.{answer_number}
use Rattle.algorithms.specs.declared.algorithm.Algorithm.{Algorithm}
use Rattle.algorithms.specs.declared.line.Members.TheVariants.{Others}
use Rattle.algorithms.specs.declared.local.LocalState.{LocalState}
use Rattle.algorithms.specs.declared.noted.NotedDeeds.{NotedDeeds}
use Rattle.algorithm_lab.proofs.BakeryComparisons.{constants, least_is}
use Rattle.algorithm_lab.proofs.BakeryLocalRuns as runs
use Rattle.algorithm_lab.proofs.BakeryLocalRuns.{names, local, Stops, From}
use Rattle.algorithm_lab.proofs.BakeryPlaces.{before, IsLoop, Stands, noted_by}

-- a list of processes from a number on, by its first
pub heads : (n p from j : ℕ) (js : List ℕ) → above n p from ≡ j ∷ js → IsLoop n p j js × (first (above n p from) ≡ Some j)
heads n p from j js e =
    let here : first (above n p from) ≡ Some j = ap first e in
    let there : has (above n p from) j ≡ true = ap (λ l. has l j) e ∙ has-first j js in
    let rest : js ≡ above n p (j + 1) = let same = above_first n p from j here in cc in
    (((lined_above n p from).below j there, rest), here)

pub none : (n p from : ℕ) → above n p from ≡ [] → first (above n p from) ≡ None
none n p from e = ap first e

module _ (a : Algorithm) (b : IsBakery a) (n limit p : ℕ) (own : p < n) (most : n ≤ 64) (high : limit ≤ 2 ^ 62) where
  abbrev Run : ℕ → LocalState → LocalState → Type 0
  Run fuel s t = From a b (constants p n limit) fuel s ≡ Stops t

  -- it stops where a process of the lock at this place is
  pub record StopsAt (fuel : ℕ) (s : LocalState) (place : Place) : Type 0 where
    pub state : LocalState
    pub run : Run fuel s state
    pub noted : state.noted ≡ s.noted
    pub stands : Stands n limit p place (before state.at state.store)

  least_some : (from j : ℕ) → first (above n p from) ≡ Some j → least_from (constants p n limit) Others from ≡ Some j
  least_some from j e = least_is p n limit from own ∙ e

  least_none : (from : ℕ) → above n p from ≡ [] → least_from (constants p n limit) Others from ≡ None
  least_none from e = least_is p n limit from own ∙ none n p from e

  door_end : (fuel x k i m j v : ℕ) (d : NotedDeeds) → m ≤ limit → StopsAt (suc (suc (suc fuel))) (local 21 (names x k i m j v) d) (Door [] m)
  door_end fuel x k i m j v d low =
      let c = constants p n limit in
      elim (cases_eq m limit) [
        | inl e ↦ record { state = local 22 (names x k i m j v) d; run = runs.spends a b c (suc fuel) x k i m j v d e; noted = refl; stands = (record { c = x; k = k; i = i; m = m; j = j; v = v }, inl (e, refl)) }
        | inr ne ↦ record { state = local 26 (names x (m + 1) i m j v) d; run = runs.takes a b c fuel x k i m j v d ne (omega arith); noted = refl; stands = (record { c = x; k = k; i = i; m = m; j = j; v = v }, inr (ne, refl)) }
      ]

  -- the doorway from its first line on
  pub door_starts : (fuel x k i j v : ℕ) (d : NotedDeeds) (js : List ℕ) → above n p 0 ≡ js → StopsAt (suc (suc (suc (suc fuel)))) (local 17 (names x k i 0 j v) d) (Door js 0)
  door_starts fuel x k i j v d [] e =
      let c = constants p n limit in
      let h = door_end fuel x k i 0 0 v d (omega arith) in
      record { state = h.state; run = runs.peeks_none a b c (suc (suc (suc fuel))) x k i 0 j v d (least_none 0 e) ∙ h.run; noted = h.noted; stands = h.stands }
  door_starts fuel x k i j v d (r ∷ js) e =
      let c = constants p n limit in
      let h = heads n p 0 r js e in
      record {
        state = local 18 (names x k i 0 r v) d;
        run = runs.peeks_first a b c (suc (suc fuel)) x k i 0 j v r d (least_some 0 r h.1);
        noted = refl;
        stands = (record { c = x; k = k; i = i; m = 0; j = r; v = v }, refl, h.0);
      }

  -- after a peek
  pub peeked : (fuel x k i m j v : ℕ) (js : List ℕ) → j < n → m ≤ limit → v ≤ limit → above n p (j + 1) ≡ js
      → StopsAt (suc (suc (suc (suc (suc fuel))))) (local 19 (names x k i m j v) nothing_noted) (Door js (max m v))
  peeked fuel x k i m j v [] here low small e =
      let c = constants p n limit in
      let h = door_end fuel x k i (max m v) 0 v nothing_noted (omega arith) in
      record { state = h.state; run = runs.peeked_last a b c (suc (suc (suc fuel))) x k i m j v (omega arith) (least_none (j + 1) e) ∙ h.run; noted = h.noted; stands = h.stands }
  peeked fuel x k i m j v (r ∷ js) here low small e =
      let c = constants p n limit in
      let h = heads n p (j + 1) r js e in
      record {
        state = local 18 (names x k i (max m v) r v) nothing_noted;
        run = runs.peeked_more a b c (suc (suc fuel)) x k i m j v r (omega arith) (least_some (j + 1) r h.1);
        noted = refl;
        stands = (record { c = x; k = k; i = i; m = max m v; j = r; v = v }, refl, h.0);
      }

  -- waiting from its first line on
  pub wait_starts : (fuel x k i m j v : ℕ) (d : NotedDeeds) (js : List ℕ) → above n p 0 ≡ js → StopsAt (suc (suc fuel)) (local 29 (names x k i m j v) d) (Wait k js None)
  wait_starts fuel x k i m j v d [] e =
      let c = constants p n limit in
      record { state = local 33 (names x k i m 0 v) d; run = runs.waits_none a b c fuel x k i m j v d (least_none 0 e); noted = refl; stands = (record { c = x; k = k; i = i; m = m; j = 0; v = v }, refl) }
  wait_starts fuel x k i m j v d (r ∷ js) e =
      let c = constants p n limit in
      let h = heads n p 0 r js e in
      record {
        state = local 30 (names x k i m r v) d;
        run = runs.waits_first a b c fuel x k i m j v r d (least_some 0 r h.1);
        noted = refl;
        stands = (record { c = x; k = k; i = i; m = m; j = r; v = v }, refl, h.0);
      }

  -- after a weigh that passes
  pub passed : (fuel x k i m j v : ℕ) (js : List ℕ) → j < n → above n p (j + 1) ≡ js → StopsAt (suc (suc fuel)) (local 32 (names x k i m j v) nothing_noted) (Wait k js None)
  passed fuel x k i m j v [] here e =
      let c = constants p n limit in
      record { state = local 33 (names x k i m 0 v) nothing_noted; run = runs.passed_last a b c fuel x k i m j v (omega arith) (least_none (j + 1) e); noted = refl; stands = (record { c = x; k = k; i = i; m = m; j = 0; v = v }, refl) }
  passed fuel x k i m j v (r ∷ js) here e =
      let c = constants p n limit in
      let h = heads n p (j + 1) r js e in
      record {
        state = local 30 (names x k i m r v) nothing_noted;
        run = runs.passed_more a b c fuel x k i m j v r (omega arith) (least_some (j + 1) r h.1);
        noted = refl;
        stands = (record { c = x; k = k; i = i; m = m; j = r; v = v }, refl, h.0);
      }

  -- it stops or ends where a process of the lock at this place is, with this deed and this answer
  pub record Lands (fuel at : ℕ) (store : List ℕ) (place : Place) (deed : Option Outer) (done : Option CoreDone) : Type 0 where
    pub landing : Arrival
    pub run : From a b (constants p n limit) fuel (local at store nothing_noted) ≡ Ok landing
    pub noted : landing.state.noted ≡ noted_by deed
    pub answer : landing.answer ≡ option_map answer_number done
    pub stands : Stands n limit p place (process_landed 0 landing.state landing.answer)

  -- after a stop without a deed or an answer
  pub stopped : (fuel at : ℕ) (store : List ℕ) (place : Place) → StopsAt fuel (local at store nothing_noted) place → Lands fuel at store place None None
  stopped fuel at store place h = record { landing = record { answer = None; state = h.state }; run = h.run; noted = h.noted; answer = refl; stands = h.stands }

  -- the restart table of a lock
  pub relocks : (c k i : ℕ) → c ≤ 1 → i ≤ 1 → Lands 60 3 (names c k i 0 0 0) (lock_restart n p c k i) (reentry p c k i) (again c k i)
  relocks zero zero zero low small =
      record { landing = _; run = runs.relocks_idle a b (constants p n limit) 54 0 0 0; noted = refl; answer = refl; stands = (record { c = 0; k = 0; i = 0; m = 0; j = 0; v = 0 }, refl) }
  relocks zero zero (suc zero) low small =
      record { landing = _; run = runs.relocks_marked a b (constants p n limit) 54 0 0 0; noted = refl; answer = refl; stands = (record { c = 0; k = 0; i = 1; m = 0; j = 0; v = 0 }, refl) }
  relocks zero (suc k) zero low small =
      let h = wait_starts 54 0 (suc k) 0 0 0 0 nothing_noted (above n p 0) refl in
      stopped 60 3 (names 0 (suc k) 0 0 0 0) (Wait (suc k) (others n p) None) (record { state = h.state; run = runs.relocks_waiting a b (constants p n limit) 56 (suc k) 0 0 0 (omega arith) ∙ h.run; noted = h.noted; stands = h.stands })
  relocks zero (suc k) (suc zero) low small =
      record { landing = _; run = runs.relocks_inside a b (constants p n limit) 54 (suc k) 0 0 0 (omega arith); noted = refl; answer = refl; stands = refl }
  relocks (suc zero) zero i low small =
      let h = door_starts 53 1 0 i 0 0 nothing_noted (above n p 0) refl in
      stopped 60 3 (names 1 0 i 0 0 0) (Door (others n p) 0) (record { state = h.state; run = runs.relocks_doorway a b (constants p n limit) 57 0 i 0 0 0 refl ∙ h.run; noted = h.noted; stands = h.stands })
  relocks (suc zero) (suc k) i low small =
      record { landing = _; run = runs.relocks_shut a b (constants p n limit) 56 (suc k) i 0 0 0 (omega arith); noted = refl; answer = refl; stands = (record { c = 1; k = suc k; i = i; m = 0; j = 0; v = 0 }, refl) }
  relocks (suc (suc c)) k i low small = absurd (omega arith)
  relocks zero zero (suc (suc i)) low small = absurd (omega arith)
  relocks zero (suc k) (suc (suc i)) low small = absurd (omega arith)

  -- the restart table of a recovery
  pub recovers : (c k i : ℕ) → c ≤ 1 → i ≤ 1 → Lands 60 43 (names c k i 0 0 0) (recovery_restart c k i) (reentry p c k i) (recovery_answer c k i)
  recovers zero zero zero low small =
      record { landing = _; run = runs.recovers_idle a b (constants p n limit) 54 0 0 0; noted = refl; answer = refl; stands = refl }
  recovers zero zero (suc zero) low small =
      record { landing = _; run = runs.recovers_marked a b (constants p n limit) 54 0 0 0; noted = refl; answer = refl; stands = (record { c = 0; k = 0; i = 1; m = 0; j = 0; v = 0 }, refl) }
  recovers zero (suc k) zero low small =
      record { landing = _; run = runs.recovers_waiting a b (constants p n limit) 56 (suc k) 0 0 0 (omega arith); noted = refl; answer = refl; stands = refl }
  recovers zero (suc k) (suc zero) low small =
      record { landing = _; run = runs.recovers_inside a b (constants p n limit) 54 (suc k) 0 0 0 (omega arith); noted = refl; answer = refl; stands = refl }
  recovers (suc zero) zero i low small =
      record { landing = _; run = runs.recovers_doorway a b (constants p n limit) 58 0 i 0 0 0 refl; noted = refl; answer = refl; stands = refl }
  recovers (suc zero) (suc k) i low small =
      record { landing = _; run = runs.recovers_shut a b (constants p n limit) 57 (suc k) i 0 0 0 (omega arith); noted = refl; answer = refl; stands = (record { c = 1; k = suc k; i = i; m = 0; j = 0; v = 0 }, refl) }
  recovers (suc (suc c)) k i low small = absurd (omega arith)
  recovers zero zero (suc (suc i)) low small = absurd (omega arith)
  recovers zero (suc k) (suc (suc i)) low small = absurd (omega arith)
