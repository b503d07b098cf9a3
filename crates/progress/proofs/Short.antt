-- What every world keeps of the scans: a list of processes that are left has fewer than n, and the one looked at is among them.
use Rattle.std.proofs.Common.{◌≡◌, ℕ, zero, suc, ◌+◌, ◌-◌, ◌<◌, ◌≤◌, max, Bool, true, false, ◌||◌, ◌==◌, if◌then◌else◌, List, [], ◌∷◌, length, Some, None, IsSome, unwrap_or, refl, sym, subst, inl, inr, arith, eq-eqb, ne_eqb}
use Rattle.progress.proofs.Common.{cases_eq, CoreCall, Lock, Withdraw, Kind, Take as Takes, Shut as Shuts, Rereads, Open as Opens, Peek as Peeks, Look as Looks, Weigh as Weighs, Mark as Marks, Drop as Drops, Glance as Glances}
use Rattle.progress.proofs.Common.{Own, Word, Choosing as ChoosingOf, Number as NumberOf, InsideOf, IsLawful, all_dead, Place, Reread, Opening, Door, Shutting, Wait, Leaving, Withdrawing, Unmarking, has, only, next}
use Rattle.progress.proofs.Common.{Event, Starts, Crashes, Steps, without, others, is_before, restart, place_after_start, shut, place_after_unmark, process, place_after_event, span, World, at_rest, May, after, Run, final}
use Rattle.rmecore.proofs.Invariant.{put_same, put_other}
use Rattle.rmecore.proofs.Runs.{guard}
use Rattle.rmecore.proofs.Scans.{without_le, without_has, lined_above}
use Rattle.rmecore.proofs.SoundWorlds.{Sound, sound_after, sound_rest, sound_image}

length-span_le : (p i k : ℕ) → length (span p i k) ≤ k
length-span_le p i zero = omega arith
length-span_le p i (suc k) =
    let rest = length-span_le p (i + 1) k in
    elim (cases_eq i p) [ inl e ↦ let yes : (i == p) ≡ true = eq-eqb i p e in rw yes (omega arith) | inr ne ↦ let no : (i == p) ≡ false = ne_eqb i p ne in rw no (omega arith) ]

length-span_less : (p i k : ℕ) → i ≤ p → p < i + k → length (span p i k) + 1 ≤ k
length-span_less p i zero h below = absurd (omega arith)
length-span_less p i (suc k) h below =
    elim (cases_eq i p) [
      | inl e ↦ let yes : (i == p) ≡ true = eq-eqb i p e in let rest = length-span_le p (i + 1) k in rw yes (omega arith)
      | inr ne ↦ let no : (i == p) ≡ false = ne_eqb i p ne in let rest = length-span_less p (i + 1) k (omega arith) (omega arith) in rw no (omega arith)
    ]

-- the other processes are fewer than n
pub others_fewer : (n p : ℕ) → p < n → length (others n p) + 1 ≤ n
others_fewer n p below = let h = length-span_less p 0 (n - 0) (omega arith) (omega arith) in omega arith

abbrev pub Short : ℕ → Place → Type 0
Short n (Door unread m) = (length unread + 1 ≤ n) × ((j : ℕ) → has unread j ≡ true → j < n)
Short n (Wait k unpassed None) = length unpassed + 1 ≤ n
Short n (Wait k unpassed (Some i)) = (length unpassed + 1 ≤ n) × (has unpassed i ≡ true)
Short n _ = Unit {0}

module _ (n limit p : ℕ) (below : p < n) where
  fresh : Short n (Door (others n p) 0)
  fresh = (others_fewer n p below, (lined_above n p 0).below)

  short_restart : (call : CoreCall) (c k i : ℕ) → Short n (restart n p call c k i)
  short_restart Lock (suc c) zero i = fresh
  short_restart Lock zero (suc k) zero = others_fewer n p below
  short_restart _ (suc c) zero i = tt
  short_restart _ zero zero (suc i) = tt
  short_restart _ zero (suc k) (suc i) = tt
  short_restart _ _ _ _ = tt

  short_shut : (call : CoreCall) (k : ℕ) → Short n (shut n p call k)
  short_shut Lock k = others_fewer n p below
  short_shut _ k = tt

  short_unmarked : (call : CoreCall) → Short n (place_after_unmark call)
  short_unmarked Lock = tt
  short_unmarked _ = tt

  short_if : (b : Bool) (t s : Place) → Short n t → Short n s → Short n (if b then t else s)
  short_if true t s h k = h
  short_if false t s h k = k

  guarded : (b : Bool) (t s : Place) → IsSome (only b t) → (b ≡ true → Short n t) → Short n (unwrap_or (only b t) s)
  guarded b t s some h = guard b t s (Short n) some h

  fewer : (js : List ℕ) (j : ℕ) → length js + 1 ≤ n → length (without j js) + 1 ≤ n
  fewer js j h = let le = without_le js j in omega arith

  short_next : (s : Place) (kind : Kind) (word : Word) (v : ℕ) → IsSome (next n limit p s kind word v) → Short n s → Short n (unwrap_or (next n limit p s kind word v) s)
  short_next (Reread call []) Rereads (ChoosingOf q) v some h = guarded (q == p) _ _ some (λ e. tt)
  short_next (Reread call (c ∷ [])) Rereads (NumberOf q) v some h = guarded (q == p) _ _ some (λ e. tt)
  short_next (Reread call (c ∷ k ∷ [])) Rereads (InsideOf q) v some h = guarded (q == p) _ _ some (λ e. short_restart call c k v)
  short_next Opening Opens (ChoosingOf q) v some h = guarded _ _ _ some (λ e. fresh)
  short_next (Door unread m) Peeks (NumberOf j) v some h = guarded _ (Door (without j unread) (max m v)) _ some (λ e. (fewer unread j h.0, λ i there. h.1 i (without_has unread i j there)))
  short_next (Door [] m) Takes (NumberOf q) v some h = guarded _ _ _ some (λ e. tt)
  short_next (Door [] m) Shuts (ChoosingOf q) v some h = guarded _ _ _ some (λ e. tt)
  short_next (Shutting call k) Shuts (ChoosingOf q) v some h = guarded _ _ _ some (λ e. short_shut call k)
  short_next (Wait k unpassed None) Looks (ChoosingOf j) v some h = guarded (has unpassed j) _ _ some (λ e. short_if (v == 0) (Wait k unpassed (Some j)) (Wait k unpassed None) (h, e) h)
  short_next (Wait k unpassed (Some i)) Weighs (NumberOf j) v some h =
      guarded (j == i) _ _ some (λ e. short_if ((v == 0) || is_before k p v j) (Wait k (without j unpassed) None) (Wait k unpassed (Some i)) (fewer unpassed j h.0) h)
  short_next (Wait k [] None) Marks (InsideOf q) v some h = guarded _ _ _ some (λ e. tt)
  short_next Leaving Drops (NumberOf q) v some h = guarded _ _ _ some (λ e. tt)
  short_next Withdrawing Drops (NumberOf q) v some h = guarded _ _ _ some (λ e. tt)
  short_next (Unmarking call) Marks (InsideOf q) v some h = guarded _ _ _ some (λ e. short_unmarked call)
  short_next s Glances (ChoosingOf q) v some h = h
  short_next s Glances (NumberOf q) v some h = h
  short_next s Glances (InsideOf q) v some h = h
  short_next _ _ _ _ some h = absurd (cc)

  short_started : (s : Place) (call : CoreCall) → Short n s → Short n (unwrap_or (place_after_start s call) s)
  short_started (Wait k unpassed looked) Withdraw h = tt
  short_started s Withdraw h = h
  short_started _ _ h = h

  short_moved : (s : Place) (e : Event) → p ≡ process e → IsSome (place_after_event n limit s e) → Short n s → Short n (unwrap_or (place_after_event n limit s e) s)
  short_moved s (Starts q call) is some h = short_started s call h
  short_moved s (Crashes q) is some h = tt
  short_moved s (Steps q kind word v) is some h =
      subst (λ r. IsSome (next n limit r s kind word v) → Short n (unwrap_or (next n limit r s kind word v) s)) is (λ some. short_next s kind word v some h) some

-- the invariant of rmecore, and that scans are short
pub record Kept (n : ℕ) (w : World) : Type 0 where
  pub sound : Sound n w
  pub short : (p : ℕ) → p < n → Short n (w.places p)

pub kept_after : (n limit : ℕ) (w : World) (e : Event) → May n limit w e → Kept n w → Kept n (after n limit w e)
kept_after n limit w e may h =
    record {
      sound = sound_after n limit w e may h.sound;
      short = λ p low. elim (cases_eq p (process e)) [
        | inl is ↦ subst (λ r. Short n ((after n limit w e).places r)) (sym is)
            (subst (Short n) (sym (put_same w.places (process e) _)) (short_moved n limit (process e) may.0 (w.places (process e)) e refl may.1 (h.short (process e) may.0)))
        | inr ne ↦ subst (Short n) (sym (put_other w.places (process e) _ p ne)) (h.short p low)
      ];
    }

pub kept_final : (n limit : ℕ) (w : World) (es : List Event) → Kept n w → Run n limit w es → Kept n (final n limit w es)
kept_final n limit w [] h run = h
kept_final n limit w (e ∷ es) h run = kept_final n limit (after n limit w e) es (kept_after n limit w e run.0 h) run.1

pub kept_rest : (n : ℕ) → Kept n at_rest
kept_rest n = record { sound = sound_rest n; short = λ p low. tt }

pub kept_image : (n limit : ℕ) (words : ℕ → Own) → IsLawful n limit words → Kept n (all_dead words)
kept_image n limit words h = record { sound = sound_image n limit words h; short = λ p low. tt }
