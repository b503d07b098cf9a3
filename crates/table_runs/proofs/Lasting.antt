-- Each step that isn't blocked leaves one step fewer.
use Rattle.std.proofs.Common.{◌≡◌, ℕ, zero, suc, ◌+◌, ◌-◌, ◌*◌, ◌<◌, ◌≤◌, max, Bool, true, false, ◌||◌, ◌==◌, if◌then◌else◌, List, [], ◌∷◌, length, Some, None, IsSome, unwrap_or, refl, sym, ap, ◌∙◌, subst, inl, inr, arith, eqb-true, eq-eqb, ne_eqb}
use Rattle.table_runs.proofs.Common.{cases_eq, cases_Bool, Kind, Look as Looks, Weigh as Weighs, Open as Opens, Peek as Peeks, Take as Takes, Shut as Shuts, Mark as Marks, Drop as Drops, Glance as Glances}
use Rattle.table_runs.proofs.Common.{Word, Choosing as ChoosingOf, Number as NumberOf, is_blocked, is_glance, Place, Rest, Wait, Inside, Reread, Opening, Door, Shutting, Leaving, Withdrawing, Unmarking}
use Rattle.table_runs.proofs.Common.{is_before, next, without, span, others, lock_restart, recovery_restart, restart, shut, place_after_unmark, guard, lock_left, IsFair}
use Rattle.rmecore.specs.Place.{has}
use Rattle.rmecore.specs.declared.core_call.CoreCall.{CoreCall}
use Rattle.rmecore.specs.declared.core_call.CoreCall.TheVariants.{Lock, Unlock}
use Rattle.rmecore.specs.declared.kind.Kind.TheVariants.{Reread as Rereads}
use Rattle.rmecore.specs.declared.word.Word.TheVariants.{Inside as InsideOf}

without_less : (js : List ℕ) (j : ℕ) → length (without j js) ≤ length js
without_less [] j = omega arith
without_less (i ∷ is) j =
    let later = without_less is j in
    elim (cases_Bool (i == j)) [ inl e ↦ rw e (omega arith) | inr e ↦ rw e (omega arith) ]

without_fewer : (js : List ℕ) (j : ℕ) → has js j ≡ true → length (without j js) + 1 ≤ length js
without_fewer [] j h = absurd (cc)
without_fewer (i ∷ is) j h =
    elim (cases_eq i j) [
      | inl e ↦ let yes : (i == j) ≡ true = eq-eqb i j e in let less = without_less is j in rw yes (omega arith)
      | inr ne ↦
          let no : (i == j) ≡ false = ne_eqb i j ne in
          let no' : (j == i) ≡ false = ne_eqb j i (λ e. ne (sym e)) in
          let there : has is j ≡ true = rw no' at h in
          let later = without_fewer is j there in
          rw no (omega arith)
    ]

span_short : (p i k : ℕ) → length (span p i k) ≤ k
span_short p i zero = omega arith
span_short p i (suc k) =
    let later = span_short p (i + 1) k in
    elim (cases_Bool (i == p)) [ inl e ↦ rw e (omega arith) | inr e ↦ rw e (omega arith) ]

-- after a step the place is the same, if it was blocked, or fewer steps are left
abbrev pub Burns : ℕ → Bool → Place → Place → Type 0
Burns n true s t = t ≡ s
Burns n false s t = IsFair t × (lock_left n t < lock_left n s)

module _ (n p : ℕ) where
  short : length (others n p) ≤ n
  short = let h = span_short p 0 (n - 0) in omega arith

  relocks : (c k i : ℕ) → IsFair (lock_restart n p c k i) × (lock_left n (lock_restart n p c k i) < 3 * n + 9)
  relocks zero zero zero = (tt, omega arith)
  relocks zero (suc k) zero = let l = short in (tt, omega arith)
  relocks (suc c) zero i = let l = short in (tt, omega arith)
  relocks _ _ _ = (tt, omega arith)

  recovers : (c k i : ℕ) → IsFair (recovery_restart c k i) × (lock_left n (recovery_restart c k i) < 3 * n + 9)
  recovers zero zero zero = (tt, omega arith)
  recovers zero (suc k) zero = (tt, omega arith)
  recovers (suc c) zero i = (tt, omega arith)
  recovers _ _ _ = (tt, omega arith)

  restarts : (call : CoreCall) (c k i : ℕ) → IsFair (restart n p call c k i) × (lock_left n (restart n p call c k i) < 3 * n + 9)
  restarts Lock c k i = relocks c k i
  restarts _ c k i = recovers c k i

  shuts : (call : CoreCall) (k : ℕ) → IsFair (shut n p call k) × (lock_left n (shut n p call k) < 2 * n + 5)
  shuts Lock k = let l = short in (tt, omega arith)
  shuts _ k = (tt, omega arith)

  unmarks : (call : CoreCall) → IsFair (place_after_unmark call) × (lock_left n (place_after_unmark call) < lock_left n (Unmarking call))
  unmarks Lock = (tt, omega arith)
  unmarks _ = (tt, omega arith)

  pub burns : (limit : ℕ) (s : Place) (kind : Kind) (word : Word) (v : ℕ) → IsSome (next n limit p s kind word v) → is_glance kind ≡ false → IsFair s → Burns n (is_blocked p s kind v) s (unwrap_or (next n limit p s kind word v) s)
  burns limit (Reread call []) Rereads (ChoosingOf q) v some moves fair = guard _ (Reread call (v ∷ [])) _ (Burns n false (Reread call [])) some (λ e. (tt, omega arith))
  burns limit (Reread call (x ∷ [])) Rereads (NumberOf q) v some moves fair = guard _ (Reread call (x ∷ v ∷ [])) _ (Burns n false (Reread call (x ∷ []))) some (λ e. (tt, omega arith))
  burns limit (Reread call (x ∷ y ∷ [])) Rereads (InsideOf q) v some moves fair = guard _ (restart n p call x y v) _ (Burns n false (Reread call (x ∷ y ∷ []))) some (λ e. restarts call x y v)
  burns limit Opening Opens (ChoosingOf q) v some moves fair = guard _ (Door (others n p) 0) _ (Burns n false Opening) some (λ e. let l = short in (tt, omega arith))
  burns limit (Door unread m) Peeks (NumberOf j) v some moves fair = guard _ (Door (without j unread) (max m v)) _ (Burns n false (Door unread m)) some (λ e. let l = without_fewer unread j e in (tt, omega arith))
  burns limit (Door [] m) Takes (NumberOf q) v some moves fair = guard _ (Shutting Lock v) _ (Burns n false (Door [] m)) some (λ e. (tt, omega arith))
  burns limit (Door [] m) Shuts (ChoosingOf q) v some moves fair = guard _ Rest _ (Burns n false (Door [] m)) some (λ e. (tt, omega arith))
  burns limit (Shutting call k) Shuts (ChoosingOf q) v some moves fair = guard _ (shut n p call k) _ (Burns n false (Shutting call k)) some (λ e. shuts call k)
  burns limit (Wait k unpassed None) Looks (ChoosingOf j) v some moves fair =
      guard (has unpassed j) (if v == 0 then Wait k unpassed (Some j) else Wait k unpassed None) (Wait k unpassed None) (Burns n (is_blocked p (Wait k unpassed None) Looks v) (Wait k unpassed None)) some
      (λ e. elim (cases_Bool (v == 0)) [ inl z ↦ rw z (e, omega arith) | inr z ↦ rw z refl ])
  burns limit (Wait k unpassed (Some i)) Weighs (NumberOf j) v some moves fair =
      guard (j == i) (if (v == 0) || is_before k p v j then Wait k (without j unpassed) None else Wait k unpassed (Some i)) (Wait k unpassed (Some i)) (Burns n (is_blocked p (Wait k unpassed (Some i)) Weighs v) (Wait k unpassed (Some i))) some
      (λ e.
      let is : j ≡ i = eqb-true j i e in
      elim (cases_Bool ((v == 0) || is_before k p v j)) [
        | inl z ↦
            let z' : ((v == 0) || is_before k p v i) ≡ true = subst (λ r. ((v == 0) || is_before k p v r) ≡ true) is z in
            let l = without_fewer unpassed j (ap (has unpassed) is ∙ fair) in
            rw (z, z') (tt, omega arith)
        | inr z ↦ let z' : ((v == 0) || is_before k p v i) ≡ false = subst (λ r. ((v == 0) || is_before k p v r) ≡ false) is z in rw (z, z') refl
      ])
  burns limit (Wait k [] None) Marks (InsideOf q) v some moves fair = guard _ Inside _ (Burns n false (Wait k [] None)) some (λ e. (tt, omega arith))
  burns limit Leaving Drops (NumberOf q) v some moves fair = guard _ (Unmarking Unlock) _ (Burns n false Leaving) some (λ e. (tt, omega arith))
  burns limit Withdrawing Drops (NumberOf q) v some moves fair = guard _ Rest _ (Burns n false Withdrawing) some (λ e. (tt, omega arith))
  burns limit (Unmarking call) Marks (InsideOf q) v some moves fair = guard _ (place_after_unmark call) _ (Burns n false (Unmarking call)) some (λ e. unmarks call)
  burns limit s Glances word v some moves fair = absurd (cc)
  burns limit _ _ _ v some moves fair = absurd (cc)
