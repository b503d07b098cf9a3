-- The events of p itself, in line: each lowers the potential of p, is blocked, or is a disturbance. It stays in line up to
-- its entry.
use Rattle.std.proofs.Common.{◌≡◌, ◌≢◌, ℕ, zero, suc, ◌+◌, ◌-◌, ◌*◌, ◌<◌, ◌≤◌, Bool, true, false, not, ◌&&◌, ◌||◌, ◌==◌, if◌then◌else◌, List, [], ◌∷◌, length, Some, None, IsSome, unwrap_or, refl, sym, ap, ◌∙◌, subst, arith, eqb-true}
use Rattle.progress.proofs.Common.{and_parts, CoreCall, Lock, Unlock, Withdraw, Recover, Kind, Shut as Shuts, Rereads, Open as Opens, Look as Looks, Weigh as Weighs, Mark as Marks, Drop as Drops, Glance as Glances}
use Rattle.progress.proofs.Common.{Enter, Own, Word, Choosing as ChoosingOf, Number as NumberOf, InsideOf, put, Place, Rest, Dead, Reread, Opening, Door, Shutting, Wait, Inside, Leaving, Withdrawing, Unmarking, has, only, next}
use Rattle.progress.proofs.Common.{Starts, Steps, without, is_before, restart, place_after_start, shut, World, Reads, words_after_event, step_deed, is_disturbance, is_effective}
use Rattle.rmecore.proofs.Invariant.{Fits, put_same}
use Rattle.rmecore.proofs.Runs.{guard}
use Rattle.rmecore.proofs.Scans.{without_less}
use Rattle.progress.proofs.Potentials.{own_left, marked, Falls}
use Rattle.progress.proofs.Short.{Short, others_fewer}
use Rattle.progress.proofs.Falls.{not_empty}

-- p is in line with number k, at a place with these words
pub record InLine (k : ℕ) (x : Own) (s : Place) : Type 0 where
  pub number : x.number ≡ k
  pub outside : x.inside ≡ 0
  pub stays : s ≢ Withdrawing

-- p is in line after the event as well
pub record Onward (n k old : ℕ) (effective disturbing : Bool) (x : Own) (s : Place) : Type 0 where
  pub falls : Falls n old (own_left n x s) effective disturbing
  pub in_line : InLine k x s

pub marked_most : (c : ℕ) → marked c ≤ 1
marked_most zero = omega arith
marked_most (suc c) = omega arith

module _ (n limit k p : ℕ) (below : p < n) (held : 0 < k) where
  -- the place is no exit
  at : {x : Own} {s : Place} → InLine k x s → (t : Place) → t ≢ Withdrawing → InLine k x t
  at h t away = record { number = h.number; outside = h.outside; stays = away }

  reread : (x : Own) (call : CoreCall) (seen seen' : List ℕ) → length seen' ≡ length seen + 1 → length seen < 3 → own_left n x (Reread call seen') + 1 ≤ own_left n x (Reread call seen)
  reread x Lock seen seen' e h = omega arith
  reread x _ seen seen' e h = omega arith

  same : (x : Own) (s : Place) → Falls n (own_left n x s) (own_left n x s) false false
  same x s = omega arith

  restarts_with : (call : CoreCall) (c j i : ℕ) → 0 < j → i ≡ 0
      → (own_left n (record { choosing = c; number = j; inside = i }) (restart n p call c j i) + 1 ≤ own_left n (record { choosing = c; number = j; inside = i }) (Reread call (c ∷ j ∷ []))) × (restart n p call c j i ≢ Withdrawing)
  restarts_with Lock (suc c) (suc j) i some out = (omega arith, λ e. cc)
  restarts_with Lock zero (suc j) zero some out = let l = others_fewer n p below in (omega arith, λ e. cc)
  restarts_with _ c zero i some out = absurd (omega arith)
  restarts_with _ zero (suc j) (suc i) some out = absurd (omega arith)
  restarts_with _ (suc c) (suc j) i some out = (omega arith, λ e. cc)
  restarts_with _ zero (suc j) zero some out = (omega arith, λ e. cc)

  restarts : (x : Own) (call : CoreCall) (c j i : ℕ) → x.choosing ≡ c → x.number ≡ j → x.inside ≡ i → 0 < j → i ≡ 0
      → (own_left n x (restart n p call c j i) + 1 ≤ own_left n x (Reread call (c ∷ j ∷ []))) × (restart n p call c j i ≢ Withdrawing)
  restarts x call c j i choosing number inside some out =
      subst (λ y. (own_left n y (restart n p call c j i) + 1 ≤ own_left n y (Reread call (c ∷ j ∷ []))) × (restart n p call c j i ≢ Withdrawing))
      (sym (λ t. record { choosing = choosing t; number = number t; inside = inside t })) (restarts_with call c j i some out)

  shuts : (x : Own) (call : CoreCall) (j v : ℕ) → v ≡ 0 → (own_left n (record x { choosing = v }) (shut n p call j) + 1 ≤ own_left n x (Shutting call j)) × (shut n p call j ≢ Withdrawing)
  shuts x Lock j v is = let l = others_fewer n p below in (omega arith, λ e. cc)
  shuts x _ j v is = let m : marked v ≡ 0 = ap marked is in (omega arith, λ e. cc)

  module _ (w : World) where
    own_word : (P : Own → Type 0) (f : Own → Own) (r : ℕ) → (r == p) ≡ true → P (f (w.words p)) → P (put w.words r (f (w.words r)) p)
    own_word P f r e h = subst (λ r. P (put w.words r (f (w.words r)) p)) (sym (eqb-true r p e)) (subst P (sym (put_same w.words p (f (w.words p)))) h)

    store : (old : ℕ) (effective disturbing b : Bool) (f : Own → Own) (r : ℕ) (t s : Place) → IsSome (only ((r == p) && b) t) → (b ≡ true → Onward n k old effective disturbing (f (w.words p)) t)
        → Onward n k old effective disturbing (put w.words r (f (w.words r)) p) (unwrap_or (only ((r == p) && b) t) s)
    store old effective disturbing b f r t s some h =
        guard ((r == p) && b) t s (λ t. Onward n k old effective disturbing (put w.words r (f (w.words r)) p) t) some
        (λ e. let both = and_parts _ _ e in own_word (λ x. Onward n k old effective disturbing x t) f r both.0 (h both.1))

    load : (old : ℕ) (effective disturbing b : Bool) (t s : Place) → IsSome (only b t) → (b ≡ true → Onward n k old effective disturbing (w.words p) t) → Onward n k old effective disturbing (w.words p) (unwrap_or (only b t) s)
    load old effective disturbing b t s some h = guard b t s (Onward n k old effective disturbing (w.words p)) some h

    looks : (x : Own) (j : ℕ) (unpassed : List ℕ) (r : ℕ) (zeroed : Bool) → InLine k x (Wait j unpassed None) → has unpassed r ≡ true
        → Onward n k (2 * length unpassed + 1) (not (not zeroed)) false x (if zeroed then Wait j unpassed (Some r) else Wait j unpassed None)
    looks x j unpassed r true h there = let some = not_empty unpassed r there in record { falls = omega arith; in_line = at h (Wait j unpassed (Some r)) (λ e. cc) }
    looks x j unpassed r false h there = record { falls = omega arith; in_line = h }

    weighs : (x : Own) (j : ℕ) (unpassed : List ℕ) (r i : ℕ) (passes : Bool) → InLine k x (Wait j unpassed (Some i)) → r ≡ i → has unpassed i ≡ true
        → Onward n k (2 * length unpassed - 1 + 1) (not (not passes)) false x (if passes then Wait j (without r unpassed) None else Wait j unpassed (Some i))
    weighs x j unpassed r i true h is there = let less = without_less unpassed r (ap (has unpassed) is ∙ there) in record { falls = omega arith; in_line = at h (Wait j (without r unpassed) None) (λ e. cc) }
    weighs x j unpassed r i false h is there = record { falls = omega arith; in_line = h }

    pub steps : (s : Place) (kind : Kind) (word : Word) (v : ℕ) → Fits (w.words p) s → Short n s → InLine k (w.words p) s → step_deed p s kind v ≢ Some (Enter p) → IsSome (next n limit p s kind word v) → Reads w.words (Steps p kind word v)
        → Onward n k (own_left n (w.words p) s) (is_effective s (Steps p kind word v)) (is_disturbance s (Steps p kind word v)) (words_after_event w.words (Steps p kind word v) p) (unwrap_or (next n limit p s kind word v) s)
    steps (Reread call []) Rereads (ChoosingOf r) v fits short h outside some reports =
        load (own_left n (w.words p) (Reread call [])) true false (r == p) _ _ some
        (λ e. let f = reread (w.words p) call [] (v ∷ []) (omega arith) (omega arith) in record { falls = omega arith; in_line = at h (Reread call (v ∷ [])) (λ e. cc) })
    steps (Reread call (c ∷ [])) Rereads (NumberOf r) v fits short h outside some reports =
        load (own_left n (w.words p) (Reread call (c ∷ []))) true false (r == p) _ _ some
        (λ e. let f = reread (w.words p) call (c ∷ []) (c ∷ v ∷ []) (omega arith) (omega arith) in record { falls = omega arith; in_line = at h (Reread call (c ∷ v ∷ [])) (λ e. cc) })
    steps (Reread call (c ∷ j ∷ [])) Rereads (InsideOf r) v fits short h outside some reports =
        load (own_left n (w.words p) (Reread call (c ∷ j ∷ []))) true false (r == p) _ _ some (λ e.
        let inside : (w.words p).inside ≡ v = ap (λ r. (w.words r).inside) (sym (eqb-true r p e)) ∙ reports refl in
        let out : (w.words p).inside ≡ 0 = h.outside in
        let own : (w.words p).number ≡ k = h.number in
        let f = restarts (w.words p) call c j v fits.1 fits.2 inside (omega arith) (omega arith) in
        record { falls = omega arith; in_line = at h (restart n p call c j v) f.1 })
    steps (Wait j unpassed None) Looks (ChoosingOf r) v fits short h outside some reports =
        load (own_left n (w.words p) (Wait j unpassed None)) (not (not (v == 0))) false (has unpassed r) _ _ some (λ e. looks (w.words p) j unpassed r (v == 0) h e)
    steps (Wait j unpassed (Some i)) Weighs (NumberOf r) v fits short h outside some reports =
        load (own_left n (w.words p) (Wait j unpassed (Some i))) (not (not ((v == 0) || is_before j p v i))) false (r == i) _ _ some (λ e.
        let is : r ≡ i = eqb-true r i e in
        subst (λ a. Onward n k (own_left n (w.words p) (Wait j unpassed (Some i))) (not (not ((v == 0) || is_before j p v a))) false (w.words p) (if ((v == 0) || is_before j p v r) then Wait j (without r unpassed) None else Wait j unpassed (Some i))) is
        (weighs (w.words p) j unpassed r i ((v == 0) || is_before j p v r) h is short.1))
    steps (Wait j [] None) Marks (InsideOf r) v fits short h outside some reports = absurd (outside refl)
    steps (Shutting call j) Shuts (ChoosingOf r) v fits short h outside some reports =
        store (own_left n (w.words p) (Shutting call j)) true false (v == 0) (λ x. record x { choosing = v }) r _ _ some
        (λ e. let f = shuts (w.words p) call j v (eqb-true v 0 e) in record { falls = omega arith; in_line = record { number = h.number; outside = h.outside; stays = f.1 } })
    steps Opening Opens (ChoosingOf r) v fits short h outside some reports = let own : (w.words p).number ≡ k = h.number in absurd (omega arith)
    steps (Door unread m) kind word v fits short h outside some reports = let own : (w.words p).number ≡ k = h.number in absurd (omega arith)
    steps Leaving Drops (NumberOf r) v fits short h outside some reports = let out : (w.words p).inside ≡ 0 = h.outside in absurd (omega arith)
    steps Withdrawing kind word v fits short h outside some reports = absurd (h.stays refl)
    steps (Unmarking call) Marks (InsideOf r) v fits short h outside some reports = let own : (w.words p).number ≡ k = h.number in absurd (omega arith)
    steps s Glances (ChoosingOf r) v fits short h outside some reports = record { falls = same (w.words p) s; in_line = h }
    steps s Glances (NumberOf r) v fits short h outside some reports = record { falls = same (w.words p) s; in_line = h }
    steps s Glances (InsideOf r) v fits short h outside some reports = record { falls = same (w.words p) s; in_line = h }
    steps _ _ _ _ fits short h outside some reports = absurd (cc)

    pub starts : (s : Place) (call : CoreCall) → call ≢ Withdraw → Fits (w.words p) s → InLine k (w.words p) s → IsSome (place_after_start s call)
        → Onward n k (own_left n (w.words p) s) (is_effective s (Starts p call)) (is_disturbance s (Starts p call)) (w.words p) (unwrap_or (place_after_start s call) s)
    starts Rest Lock other fits h some = record { falls = omega arith; in_line = at h (Reread Lock []) (λ e. cc) }
    starts Rest Recover other fits h some = record { falls = omega arith; in_line = at h (Reread Recover []) (λ e. cc) }
    starts Dead Lock other fits h some = record { falls = omega arith; in_line = at h (Reread Lock []) (λ e. cc) }
    starts Dead Recover other fits h some = record { falls = omega arith; in_line = at h (Reread Recover []) (λ e. cc) }
    starts Inside Unlock other fits h some = let out : (w.words p).inside ≡ 0 = h.outside in absurd (omega arith)
    starts (Wait j unpassed looked) Withdraw other fits h some = absurd (other refl)
    starts _ _ other fits h some = absurd (cc)

    pub crashes : (s : Place) → InLine k (w.words p) s → Onward n k (own_left n (w.words p) s) false true (w.words p) Dead
    crashes s h = let m = marked_most (w.words p).choosing in record { falls = omega arith; in_line = at h Dead (λ e. cc) }
