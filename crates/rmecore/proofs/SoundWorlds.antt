-- What every world of a run keeps: the invariant with some abstract lock, and that a process waits for other processes alone.
use Rattle.std.proofs.Common.{◌≡◌, ◌≢◌, ℕ, zero, suc, ◌<◌, true, List, [], ◌∷◌, Some, None, IsSome, unwrap_or, refl, sym, subst, inl, inr}
use Rattle.rmecore.proofs.Common.{cases_eq, CoreCall, Lock, Withdraw, Kind}
use Rattle.rmecore.proofs.Common.{Own, Word, Abstract, nobody, IsLawful, all_dead, start_of, Place}
use Rattle.rmecore.proofs.Common.{Wait, has, next, Event, Starts, Crashes, Steps, others, restart, place_after_start, shut, place_after_unmark}
use Rattle.rmecore.proofs.Common.{process, place_after_event, World, at_rest, May, after, Run, final, deed}
use Rattle.rmecore.proofs.Invariant.{Tied, put_same, put_other}
use Rattle.rmecore.proofs.AllowedSteps.{by_step}
use Rattle.rmecore.proofs.Runs.{kept, at_first}
use Rattle.rmecore.proofs.Images.{at_image}
use Rattle.rmecore.proofs.Rows.{after_deed}
use Rattle.rmecore.proofs.Scans.{lined_above, has-span-other, without_has}

-- another of n processes than p
abbrev pub IsOther : ℕ → ℕ → ℕ → Type 0
IsOther n p j = (j < n) × (j ≢ p)

-- a process waits for others alone
abbrev pub Awaits : ℕ → ℕ → Place → Type 0
Awaits n p (Wait k unpassed None) = (j : ℕ) → has unpassed j ≡ true → IsOther n p j
Awaits n p (Wait k unpassed (Some i)) = ((j : ℕ) → has unpassed j ≡ true → IsOther n p j) × IsOther n p i
Awaits n p _ = Unit {0}

module _ (n limit p : ℕ) where
  awaits_others : (j : ℕ) → has (others n p) j ≡ true → IsOther n p j
  awaits_others j h = ((lined_above n p 0).below j h, has-span-other p 0 _ j h)

  awaits_restart : (call : CoreCall) (c k i : ℕ) → Awaits n p (restart n p call c k i)
  awaits_restart Lock zero (suc k) zero = awaits_others
  awaits_restart _ (suc c) zero i = tt
  awaits_restart _ zero zero (suc i) = tt
  awaits_restart _ zero (suc k) (suc i) = tt
  awaits_restart _ _ _ _ = tt

  awaits_shut : (call : CoreCall) (k : ℕ) → Awaits n p (shut n p call k)
  awaits_shut Lock k = awaits_others
  awaits_shut _ k = tt

  awaits_unmarked : (call : CoreCall) → Awaits n p (place_after_unmark call)
  awaits_unmarked Lock = tt
  awaits_unmarked _ = tt

  pub awaits_next : (s : Place) (kind : Kind) (word : Word) (v : ℕ) → IsSome (next n limit p s kind word v) → Awaits n p s → Awaits n p (unwrap_or (next n limit p s kind word v) s)
  awaits_next =
      by_step {C = λ s kind word v t. Awaits n p s → Awaits n p t} (
      record {
        rereads_choosing = λ call v h. tt;
        rereads_number = λ call c v h. tt;
        rereads_inside = λ call c k v h. awaits_restart call c k v;
        opens = λ h. tt;
        peeks = λ unread m j v there h. tt;
        takes = λ m less h. tt;
        spends = λ m most h. tt;
        shuts = λ call k h. awaits_shut call k;
        looks = λ k unpassed j there h. (h, h j there);
        looks_again = λ k unpassed j v there blocked h. h;
        weighs = λ k unpassed j v passes h. λ r there. h.0 r (without_has unpassed r j there);
        weighs_again = λ k unpassed j v blocked h. h;
        marks = λ k h. tt;
        drops = λ h. tt;
        withdraws = λ h. tt;
        unmarks = λ call h. awaits_unmarked call;
        glances = λ s word v h. h;
      })

  awaits_started : (s : Place) (call : CoreCall) → Awaits n p s → Awaits n p (unwrap_or (place_after_start s call) s)
  awaits_started (Wait k unpassed looked) Withdraw h = tt
  awaits_started s Withdraw h = h
  awaits_started _ _ h = h

  awaits_moved : (s : Place) (e : Event) → p ≡ process e → IsSome (place_after_event n limit s e) → Awaits n p s → Awaits n p (unwrap_or (place_after_event n limit s e) s)
  awaits_moved s (Starts q call) is some h = awaits_started s call h
  awaits_moved s (Crashes q) is some h = tt
  awaits_moved s (Steps q kind word v) is some h =
      subst (λ r. IsSome (next n limit r s kind word v) → Awaits n p (unwrap_or (next n limit r s kind word v) s)) is (λ some. awaits_next s kind word v some h) some

-- the invariant of a world alone
pub record Sound (n : ℕ) (w : World) : Type 0 where
  pub lock : Abstract
  pub tied : Tied n w lock
  pub awaits : (p : ℕ) → Awaits n p (w.places p)

pub sound_after : (n limit : ℕ) (w : World) (e : Event) → May n limit w e → Sound n w → Sound n (after n limit w e)
sound_after n limit w e may sound =
    record {
      lock = after_deed sound.lock (deed (w.places (process e)) e);
      tied = (kept n limit w sound.lock e may sound.tied).1;
      awaits = λ p. elim (cases_eq p (process e)) [
        | inl is ↦ subst (λ r. Awaits n r ((after n limit w e).places r)) (sym is)
            (subst (Awaits n (process e)) (sym (put_same w.places (process e) _)) (awaits_moved n limit (process e) (w.places (process e)) e refl may.1 (sound.awaits (process e))))
        | inr ne ↦ subst (Awaits n p) (sym (put_other w.places (process e) _ p ne)) (sound.awaits p)
      ];
    }

pub sound_final : (n limit : ℕ) (w : World) (es : List Event) → Sound n w → Run n limit w es → Sound n (final n limit w es)
sound_final n limit w [] sound run = sound
sound_final n limit w (e ∷ es) sound run = sound_final n limit (after n limit w e) es (sound_after n limit w e run.0 sound) run.1

pub sound_rest : (n : ℕ) → Sound n at_rest
sound_rest n = record { lock = nobody; tied = at_first n; awaits = λ p. tt }

pub sound_image : (n limit : ℕ) (words : ℕ → Own) → IsLawful n limit words → Sound n (all_dead words)
sound_image n limit words h = record { lock = start_of words; tied = at_image n limit words h; awaits = λ p. tt }
