-- How far the fast path of a lock gets, from its parts.
use Rattle.std.proofs.Common.{◌≡◌, ℕ, ◌+◌, Bool, true, false, if◌then◌else◌, refl, ap, ◌∙◌, subst}
use Rattle.robust.proofs.AccessCommon.{place_of, Clean, is_waiting, Setup, process_state_now, SeatView, Begun, free_process_state, IsSame, Unanswered, EndsIn, FastPathReaches, checked_process_state}
use Rattle.rmecore.specs.declared.stage.Stage.{Stage}
use Rattle.rmeworld.specs.declared.call.Call.TheVariants.{Lock}
use Rattle.robust.specs.declared.access.fast_path.Reached.{Reached}
use Rattle.robust.specs.declared.access.fast_path.Reached.TheVariants as Reaches
use Rattle.robust.proofs.FreeSteps.{unanswered_then, ends_then, same_then}

-- after the line, by the two steps of the entry
pub enters_in : (x y z : SeatView) (k : ℕ) (r : Bool) (e : Reached) → e ≡ (if r then Reaches.Ruined else Reaches.Clean) → Unanswered x k 0 y → IsSame x y → process_state_now z ≡ checked_process_state r → (r ≡ false → EndsIn y 2 Clean z) → (r ≡ true → Unanswered y 2 0 z) → IsSame y z → (process_state_now x).barred ≡ false → FastPathReaches x e (k + 2) z
enters_in x y z k true e is p s at clean ruined t free = record {
  blocked = λ b h. absurd (cc);
  stands = λ b h. absurd (cc);
  clean = λ h. absurd (cc);
  ruined = λ h. (at, unanswered_then x y z k 2 0 p (ruined refl));
  same = same_then x y z s t;
  barred = free;
}
enters_in x y z k false e is p s at clean ruined t free = record {
  blocked = λ b h. absurd (cc);
  stands = λ b h. absurd (cc);
  clean = λ h. (at, ends_then x y z k 2 Clean p (clean refl));
  ruined = λ h. absurd (cc);
  same = same_then x y z s t;
  barred = free;
}

module _ (x y : SeatView) (k : ℕ) (t : Stage) (at : process_state_now y ≡ free_process_state (place_of x.setup.layout.procs x.by t) (process_state_now x).mended) (same : IsSame x y) (begun : Begun Lock x.setup.layout.procs (process_state_now y)) (free : (process_state_now x).barred ≡ false) where
  pub enters_blocked : Unanswered x k 1 y → is_waiting (process_state_now y).lock ≡ true → FastPathReaches x (Reaches.Blocked t) k y
  enters_blocked p waits = record {
    blocked = λ u h. (at ∙ ap (λ (q : Stage). free_process_state (place_of x.setup.layout.procs x.by q) (process_state_now x).mended) (let e : t ≡ u = cc in e), p, begun, waits);
    stands = λ u h. absurd (cc);
    clean = λ h. absurd (cc);
    ruined = λ h. absurd (cc);
    same = same;
    barred = free;
  }

  pub enters_stands : Unanswered x k 0 y → FastPathReaches x (Reaches.Stands t) k y
  enters_stands p = record {
    blocked = λ u h. absurd (cc);
    stands = λ u h. (at ∙ ap (λ (q : Stage). free_process_state (place_of x.setup.layout.procs x.by q) (process_state_now x).mended) (let e : t ≡ u = cc in e), p, begun);
    clean = λ h. absurd (cc);
    ruined = λ h. absurd (cc);
    same = same;
    barred = free;
  }

-- some steps before it
pub enters_then : (x y z : SeatView) (j k : ℕ) (r : Reached) → Unanswered x j 0 y → IsSame x y → (process_state_now y).mended ≡ (process_state_now x).mended → (process_state_now x).barred ≡ false → FastPathReaches y r k z → FastPathReaches x r (j + k) z
enters_then x y z j k r p s mended free e = record {
  blocked = λ t h. (let b = e.blocked t h in (there t b.0, unanswered_then x y z j k 1 p b.1, begun b.2, b.3));
  stands = λ t h. (let b = e.stands t h in (there t b.0, unanswered_then x y z j k 0 p b.1, begun b.2));
  clean = λ h. (let b = e.clean h in (b.0, ends_then x y z j k Clean p b.1));
  ruined = λ h. (let b = e.ruined h in (b.0, unanswered_then x y z j k 0 p b.1));
  same = same_then x y z s e.same;
  barred = free;
}
  where
    there : (t : Stage) → process_state_now z ≡ free_process_state (place_of y.setup.layout.procs y.by t) (process_state_now y).mended → process_state_now z ≡ free_process_state (place_of x.setup.layout.procs x.by t) (process_state_now x).mended
    there t at = at ∙ (λ i. free_process_state (place_of (s.0 i).layout.procs (s.1 i) t) (mended i))

    begun : Begun Lock y.setup.layout.procs (process_state_now z) → Begun Lock x.setup.layout.procs (process_state_now z)
    begun b = subst (λ (u : Setup). Begun Lock u.layout.procs (process_state_now z)) s.0 b
