-- The places that a process's machine can have. Its scans go by rising index, so its next step is one of the least process.
use Rattle.std.proofs.Common.{◌≡◌, ℕ, zero, suc, ◌+◌, ◌<◌, max, Bool, true, false, ◌||◌, ◌&&◌, ◌==◌, nat_lt, nat_le, if◌then◌else◌, List, [], ◌∷◌, Option, Some, None, IfSome, unwrap_or, refl, sym, ap, ◌∙◌, subst}
use Rattle.rmeworld.proofs.Common.{cond_both, Access, Store, CoreCall, Take as Takes, Shut as Shuts, Choosing as ChoosingOf, Number as NumberOf, Standing, first, after_access}
use Rattle.rmeworld.proofs.Common.{lock_access as next_access, access, IsLeastOfLock, Place, above, Door, Wait, Rest, Reread, Shutting, Leaving, Withdrawing, Unmarking, Opening, Inside, has, without}
use Rattle.rmeworld.proofs.Common.{others, is_before, restart, shut, place_after_unmark, only, is_idle}
use Rattle.rmecore.specs.declared.core_call.CoreCall.TheVariants.{Lock, Unlock}
use Rattle.rmecore.proofs.Accesses.{Orderly, all_least}
use Rattle.rmecore.proofs.Scans.{Lined, lined_above, above_first, without-first, has-first}

-- a scan has the processes from some index on left, and a reread ends with its third word
abbrev pub IsScanned : ℕ → ℕ → Place → Type 0
IsScanned n p (Reread call (c ∷ k ∷ i ∷ seen)) = ⊥
IsScanned n p (Door unread m) = (i : ℕ) × (unread ≡ above n p i)
IsScanned n p (Wait k unpassed None) = (i : ℕ) × (unpassed ≡ above n p i)
IsScanned n p (Wait k unpassed (Some j)) = (j < n) × (unpassed ≡ j ∷ above n p (j + 1))
IsScanned n p _ = Unit {0}

orderly : (n p : ℕ) (place : Place) → IsScanned n p place → Orderly n place
orderly n p (Door unread m) h = subst (Lined n) (sym h.1) (lined_above n p h.0)
orderly n p (Wait k unpassed None) h = subst (Lined n) (sym h.1) (lined_above n p h.0)
orderly n p (Wait k unpassed (Some j)) h = h.0
orderly n p _ h = tt

pub least_of_lock : (s : Standing) → IsScanned s.procs s.index s.place → IfSome (next_access s) (IsLeastOfLock s)
least_of_lock s h = all_least s (orderly s.procs s.index s.place h)

-- the place after the next step
abbrev after : ℕ → ℕ → ℕ → Place → ℕ → Place
after n limit p place v = after_access (record { procs = n; limit = limit; index = p; place = place }) (access limit p place) v

module _ (n limit p : ℕ) where
  if_may : (b : Bool) (t s : Place) → IsScanned n p t → IsScanned n p s → IsScanned n p (unwrap_or (only b t) s)
  if_may true t s h k = h
  if_may false t s h k = k

  restart_is : (call : CoreCall) (c k i : ℕ) → IsScanned n p (restart n p call c k i)
  restart_is Lock (suc c) zero i = (0, refl)
  restart_is Lock zero (suc k) zero = (0, refl)
  restart_is _ (suc c) zero i = tt
  restart_is _ zero zero (suc i) = tt
  restart_is _ zero (suc k) (suc i) = tt
  restart_is _ _ _ _ = tt

  shut_is : (call : CoreCall) (k : ℕ) → IsScanned n p (shut n p call k)
  shut_is Lock k = (0, refl)
  shut_is _ k = tt

  unmarked_is : (call : CoreCall) → IsScanned n p (place_after_unmark call)
  unmarked_is Lock = tt
  unmarked_is _ = tt

  -- the processes after the first of a list
  after_it : (j i : ℕ) (js : List ℕ) → j ∷ js ≡ above n p i → j ∷ js ≡ j ∷ above n p (j + 1)
  after_it j i js is = is ∙ above_first n p i j (ap first (sym is))

  without_is : (j : ℕ) (js : List ℕ) → js ≡ j ∷ above n p (j + 1) → without j js ≡ above n p (j + 1)
  without_is j js is = ap (without j) is ∙ without-first n p j

  pub scanned_after : (place : Place) (v : ℕ) → IsScanned n p place → IsScanned n p (after n limit p place v)
  scanned_after (Reread call []) v h = if_may (p == p) (Reread call (v ∷ [])) (Reread call []) tt tt
  scanned_after (Reread call (c ∷ [])) v h = if_may (p == p) (Reread call (c ∷ v ∷ [])) (Reread call (c ∷ [])) tt tt
  scanned_after (Reread call (c ∷ k ∷ [])) v h = if_may (p == p) (restart n p call c k v) (Reread call (c ∷ k ∷ [])) (restart_is call c k v) tt
  scanned_after (Reread call (c ∷ k ∷ i ∷ seen)) v h = absurd h
  scanned_after Opening v h = if_may ((p == p) && (1 == 1)) (Door (others n p) 0) Opening (0, refl) tt
  scanned_after (Door (j ∷ js) m) v h = if_may (has (j ∷ js) j) (Door (without j (j ∷ js)) (max m v)) (Door (j ∷ js) m) (j + 1, without_is j (j ∷ js) (after_it j h.0 js h.1)) h
  scanned_after (Door [] m) v h =
      cond_both (nat_lt m limit) (Some (Store Takes (NumberOf p) (m + 1))) (Some (Store Shuts (ChoosingOf p) 0)) (λ o. IsScanned n p (after_access (record { procs = n; limit = limit; index = p; place = Door [] m }) o v))
      (λ _. if_may ((p == p) && (nat_lt m limit && (m + 1 == m + 1))) (Shutting Lock (m + 1)) (Door [] m) tt h) (λ _. if_may ((p == p) && (nat_le limit m && (0 == 0))) Rest (Door [] m) tt h)
  scanned_after (Shutting call k) v h = if_may ((p == p) && (0 == 0)) (shut n p call k) (Shutting call k) (shut_is call k) tt
  scanned_after (Wait k unpassed (Some j)) v h =
      let passed : Place = Wait k (without j unpassed) None in
      let held : Place = Wait k unpassed (Some j) in
      if_may (j == j) (if (v == 0) || is_before k p v j then passed else held) held (cond_both ((v == 0) || is_before k p v j) passed held (IsScanned n p) (λ _. (j + 1, without_is j unpassed h.1)) (λ _. h)) h
  scanned_after (Wait k (j ∷ js) None) v h =
      let less : j < n = (lined_above n p h.0).below j (subst (λ list. has list j ≡ true) h.1 (has-first j js)) in
      let looked : Place = Wait k (j ∷ js) (Some j) in
      let held : Place = Wait k (j ∷ js) None in
      if_may (has (j ∷ js) j) (if v == 0 then looked else held) held (cond_both (v == 0) looked held (IsScanned n p) (λ _. (less, after_it j h.0 js h.1)) (λ _. h)) h
  scanned_after (Wait k [] None) v h = if_may ((p == p) && (1 == 1)) Inside (Wait k [] None) tt h
  scanned_after Leaving v h = if_may ((p == p) && (0 == 0)) (Unmarking Unlock) Leaving tt tt
  scanned_after Withdrawing v h = if_may ((p == p) && (0 == 0)) Rest Withdrawing tt tt
  scanned_after (Unmarking call) v h = if_may ((p == p) && (0 == 0)) (place_after_unmark call) (Unmarking call) (unmarked_is call) tt
  scanned_after _ v h = tt

  -- if there is no next step, no call is under way
  pub no_step_is_idle : (place : Place) → IsScanned n p place → access limit p place ≡ None → is_idle place ≡ true
  no_step_is_idle (Door [] m) h e = absurd (cond_both (nat_lt m limit) _ _ (λ (o : Option Access). o ≡ None → ⊥) (λ _ x. cc) (λ _ x. cc) e)
  no_step_is_idle (Reread call (c ∷ k ∷ i ∷ seen)) h e = absurd h
  no_step_is_idle (Wait k unpassed (Some j)) h e = cc
  no_step_is_idle (Wait k (j ∷ js) None) h e = cc
  no_step_is_idle _ h e = cc
