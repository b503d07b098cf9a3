-- After a step of the lock that does not answer its call the process can take another.
use Rattle.std.proofs.Common.{◌≡◌, ℕ, zero, suc, ◌+◌, ◌==◌, ◌||◌, ◌&&◌, nat_lt, max, Bool, true, false, if◌then◌else◌, List, [], ◌∷◌, Some, None, IsSome, IfSome, unwrap_or, refl, inl, inr}
use Rattle.std.proofs.lemmas.Bool.{cases_Bool}
use Rattle.rmecore.specs.Machine.{access, kind_of, word_of, carried_value, answer, recovery_answer, again, reread_answer}
use Rattle.rmecore.specs.Place.{Place, Rest, Dead, Reread, Opening, Door, Shutting, Wait, Inside, Leaving, Withdrawing, Unmarking, has, without, others, is_before, only, next, lock_restart, recovery_restart, restart}
use Rattle.rmecore.specs.declared.access.Access.{Access}
use Rattle.rmecore.specs.declared.access.Access.TheVariants.{Store}
use Rattle.rmecore.specs.declared.core_call.CoreCall.{CoreCall}
use Rattle.rmecore.specs.declared.core_call.CoreCall.TheVariants.{Lock, Unlock, Recover, Withdraw}
use Rattle.rmecore.specs.declared.kind.Kind.TheVariants.{Take as Takes, Shut as Shuts}
use Rattle.rmecore.specs.declared.word.Word.TheVariants.{Choosing as ChoosingOf, Number as NumberOf}

module _ (n limit p : ℕ) where
  abbrev pub Busy : Place → Type 0
  Busy place = IsSome (access limit p place)

  either : (t : Bool) (x y : Access) → IsSome (if t then Some x else Some y)
  either true x y = refl
  either false x y = refl

  door_busy : (unread : List ℕ) (m : ℕ) → Busy (Door unread m)
  door_busy [] m = either (nat_lt m limit) (Store Takes (NumberOf p) (m + 1)) (Store Shuts (ChoosingOf p) 0)
  door_busy (j ∷ js) m = refl

  wait_busy : (k : ℕ) (unpassed : List ℕ) → Busy (Wait k unpassed None)
  wait_busy k [] = refl
  wait_busy k (j ∷ js) = refl

  only_busy : (t : Bool) (to from : Place) → Busy to → Busy from → Busy (unwrap_or (only t to) from)
  only_busy true to from there here = there
  only_busy false to from there here = here

  relocked_busy : (c k i : ℕ) → again c k i ≡ None → Busy (lock_restart n p c k i)
  relocked_busy zero zero zero none = refl
  relocked_busy zero zero (suc i) none = refl
  relocked_busy zero (suc k) zero none = wait_busy (suc k) (others n p)
  relocked_busy zero (suc k) (suc i) none = absurd (cc)
  relocked_busy (suc c) zero i none = door_busy (others n p) 0
  relocked_busy (suc c) (suc k) i none = refl

  recovered_busy : (c k i : ℕ) → recovery_answer c k i ≡ None → Busy (recovery_restart c k i)
  recovered_busy zero zero zero none = absurd (cc)
  recovered_busy zero zero (suc i) none = refl
  recovered_busy zero (suc k) zero none = absurd (cc)
  recovered_busy zero (suc k) (suc i) none = absurd (cc)
  recovered_busy (suc c) zero i none = absurd (cc)
  recovered_busy (suc c) (suc k) i none = refl

  restart_busy : (call : CoreCall) (c k i : ℕ) → reread_answer call c k i ≡ None → Busy (restart n p call c k i)
  restart_busy Lock c k i none = relocked_busy c k i none
  restart_busy Unlock c k i none = recovered_busy c k i none
  restart_busy Recover c k i none = recovered_busy c k i none
  restart_busy Withdraw c k i none = recovered_busy c k i none

  look_busy : (t : Bool) (k : ℕ) (unpassed : List ℕ) (j : ℕ) → Busy (if t then Wait k unpassed (Some j) else Wait k unpassed None)
  look_busy true k unpassed j = refl
  look_busy false k unpassed j = wait_busy k unpassed

  weigh_busy : (t : Bool) (k : ℕ) (unpassed : List ℕ) (j : ℕ) → Busy (if t then Wait k (without j unpassed) None else Wait k unpassed (Some j))
  weigh_busy true k unpassed j = wait_busy k (without j unpassed)
  weigh_busy false k unpassed j = refl

  -- a step with this access, which reads this
  abbrev pub GoesOn : Place → ℕ → Access → Type 0
  GoesOn place v acc = answer place (kind_of acc) (carried_value acc v) ≡ None → Busy (unwrap_or (next n limit p place (kind_of acc) (word_of acc) (carried_value acc v)) place)

  pub goes_on : (place : Place) (v : ℕ) → IfSome (access limit p place) (GoesOn place v)
  goes_on Rest v = tt
  goes_on Dead v = tt
  goes_on Inside v = tt
  goes_on (Reread call []) v = λ none. only_busy (p == p) (Reread call (v ∷ [])) (Reread call []) refl refl
  goes_on (Reread call (c ∷ [])) v = λ none. only_busy (p == p) (Reread call (c ∷ v ∷ [])) (Reread call (c ∷ [])) refl refl
  goes_on (Reread call (c ∷ k ∷ [])) v = λ none. only_busy (p == p) (restart n p call c k v) (Reread call (c ∷ k ∷ [])) (restart_busy call c k v none) refl
  goes_on (Reread call (c ∷ k ∷ i ∷ seen)) v = tt
  goes_on Opening v = λ none. only_busy ((p == p) && (1 == 1)) (Door (others n p) 0) Opening (door_busy (others n p) 0) refl
  goes_on (Door (j ∷ js) m) v = λ none. only_busy (has (j ∷ js) j) (Door (without j (j ∷ js)) (max m v)) (Door (j ∷ js) m) (door_busy (without j (j ∷ js)) (max m v)) refl
  goes_on (Door [] m) v = elim (cases_Bool (nat_lt m limit)) [
    | inl e ↦ rw e (λ none. only_busy ((p == p) && (nat_lt m limit && (m + 1 == m + 1))) (Shutting Lock (m + 1)) (Door [] m) refl (door_busy [] m))
    | inr e ↦ rw e (λ none. absurd (cc))
  ]
  goes_on (Shutting Lock k) v = λ none. only_busy ((p == p) && (0 == 0)) (Wait k (others n p) None) (Shutting Lock k) (wait_busy k (others n p)) refl
  goes_on (Shutting Unlock k) v = λ none. absurd (cc)
  goes_on (Shutting Recover k) v = λ none. absurd (cc)
  goes_on (Shutting Withdraw k) v = λ none. absurd (cc)
  goes_on (Wait k [] None) v = λ none. absurd (cc)
  goes_on (Wait k (j ∷ js) None) v = λ none. only_busy (has (j ∷ js) j) (if v == 0 then Wait k (j ∷ js) (Some j) else Wait k (j ∷ js) None) (Wait k (j ∷ js) None) (look_busy (v == 0) k (j ∷ js) j) refl
  goes_on (Wait k unpassed (Some j)) v =
      λ none. only_busy (j == j) (if (v == 0) || is_before k p v j then Wait k (without j unpassed) None else Wait k unpassed (Some j)) (Wait k unpassed (Some j)) (weigh_busy ((v == 0) || is_before k p v j) k unpassed j) refl
  goes_on Leaving v = λ none. only_busy ((p == p) && (0 == 0)) (Unmarking Unlock) Leaving refl refl
  goes_on Withdrawing v = λ none. absurd (cc)
  goes_on (Unmarking Lock) v = λ none. only_busy ((p == p) && (0 == 0)) Opening (Unmarking Lock) refl refl
  goes_on (Unmarking Unlock) v = λ none. absurd (cc)
  goes_on (Unmarking Recover) v = λ none. absurd (cc)
  goes_on (Unmarking Withdraw) v = λ none. absurd (cc)
