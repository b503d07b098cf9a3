-- A lock or a recovery that may start finds no call under way.
use Rattle.std.proofs.Common.{◌≡◌, ◌⊎◌, Bool, true, false, not, if◌then◌else◌, [], ◌∷◌, Some, None, refl, ap, subst, inl, inr}
use Rattle.rmecore.specs.declared.refusal.Refusal.{Refusal}
use Rattle.rmecore.specs.declared.refusal.Refusal.TheVariants.{CallUnderWay, AlreadyIn}
use Rattle.rmeworld.specs.Refused.{first_cause, is_inside}
use Rattle.robust.proofs.Common.{Call, Lock, Recover, is_idle, Seated, fell, free_to_start, refusal_now, process_state_now}

some_none : (e : Refusal) → Some e ≡ None → ⊥
some_none e is = cc

first_holds : (b c : Bool) → first_cause ((b, CallUnderWay) ∷ (c, AlreadyIn) ∷ []) ≡ None → b ≡ true
first_holds true c none = refl
first_holds false c none = absurd (some_none CallUnderWay none)

-- no crash comes before it
pub ready_here : (x : Seated) (call : Call) → ((call ≡ Lock) ⊎ (call ≡ Recover)) → refusal_now x call ≡ None → free_to_start x ≡ x
ready_here x call which may = ap (λ (b : Bool). if b then x else fell x) (idle which)
  where
    idle : ((call ≡ Lock) ⊎ (call ≡ Recover)) → is_idle (process_state_now x.seat_view) ≡ true
    idle (inl is) = first_holds (is_idle (process_state_now x.seat_view)) (not (is_inside (process_state_now x.seat_view).lock)) (subst (λ (k : Call). refusal_now x k ≡ None) is may)
    idle (inr is) = first_holds (is_idle (process_state_now x.seat_view)) (not (is_inside (process_state_now x.seat_view).lock)) (subst (λ (k : Call). refusal_now x k ≡ None) is may)
