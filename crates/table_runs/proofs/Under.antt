-- After a step of a call it is still under way, or has an answer that fits it.
use Rattle.std.proofs.Common.{◌≡◌, ℕ, zero, suc, max, Bool, true, false, ◌||◌, ◌==◌, if◌then◌else◌, ◌⊎◌, [], ◌∷◌, Option, Some, None, IsSome, unwrap_or, refl, inl, inr}
use Rattle.table_runs.proofs.Common.{cases_Bool, Kind, Look as Looks, Weigh as Weighs, Open as Opens, Peek as Peeks, Take as Takes, Shut as Shuts, Mark as Marks, Drop as Drops, Glance as Glances, Word}
use Rattle.table_runs.proofs.Common.{Choosing as ChoosingOf, Number as NumberOf, answer, is_blocked, again, recovery_answer, is_glance, Place, Rest, Wait, Inside, Reread, Opening, Door, Shutting, Leaving}
use Rattle.table_runs.proofs.Common.{Withdrawing, Unmarking, is_before, next, without, others, lock_restart, recovery_restart, guard, Answer, NumbersSpent, NotRecoverable, Unlocked, Call, Lock, Unlock, Recover}
use Rattle.table_runs.proofs.Common.{Withdraw, by_lock, is_entry, ProcessState, under_place, IsAnswerOf, Leaves}
use Rattle.table_runs.specs.Under.{is_part_of}
use Rattle.rmecore.specs.Place.{has}
use Rattle.rmecore.specs.Refused.{is_idle as is_idle_place}
use Rattle.rmecore.specs.Named.{own_call, lock_part}
use Rattle.rmecore.specs.declared.core_call.CoreCall.{CoreCall}
use Rattle.rmecore.specs.declared.core_call.CoreCall.TheVariants as core
use Rattle.rmecore.specs.declared.kind.Kind.TheVariants.{Reread as Rereads}
use Rattle.rmecore.specs.declared.word.Word.TheVariants.{Inside as InsideOf}

-- after a step of the lock's part
abbrev pub LockTo : Call → Bool → Place → Option Answer → Place → Type 0
LockTo call c s (Some a) t = IsAnswerOf call a × ((u : ProcessState) → u.lock ≡ t → Leaves call a u)
LockTo call c s None t = ((is_entry s t ≡ true) × (call ≡ Lock)) ⊎ ((is_entry s t ≡ false) × (is_idle_place t ≡ false) × (under_place call c t ≡ true))

module _ (n limit p : ℕ) where
  relock : (x y v : ℕ) → LockTo Lock false (Reread core.Lock (x ∷ y ∷ [])) (by_lock false (again x y v)) (lock_restart n p x y v)
  relock zero (suc y) (suc v) = inl (refl, refl)
  relock zero zero zero = inr (refl, refl, refl)
  relock (suc x) zero v = inr (refl, refl, refl)
  relock _ _ _ = inr (refl, refl, refl)

  recover : (x y v : ℕ) → LockTo Recover false (Reread core.Recover (x ∷ y ∷ [])) (by_lock false (recovery_answer x y v)) (recovery_restart x y v)
  recover (suc x) (suc y) v = inr (refl, refl, refl)
  recover zero zero (suc v) = inr (refl, refl, refl)
  recover zero (suc y) zero = (tt, λ u e. tt)
  recover _ _ _ = (tt, λ u e. tt)

  -- a step of a lock on its way in
  lock_in : (s : Place) (kind : Kind) (word : Word) (v : ℕ) → under_place Lock false s ≡ true → IsSome (next n limit p s kind word v) → is_glance kind ≡ false → LockTo Lock false s (by_lock false (answer s kind v)) (unwrap_or (next n limit p s kind word v) s)
  lock_in (Reread core.Lock []) Rereads (ChoosingOf q) v u some moves = guard _ (Reread core.Lock (v ∷ [])) _ (LockTo Lock false (Reread core.Lock []) None) some (λ e. inr (refl, refl, refl))
  lock_in (Reread core.Lock (x ∷ [])) Rereads (NumberOf q) v u some moves = guard _ (Reread core.Lock (x ∷ v ∷ [])) _ (LockTo Lock false (Reread core.Lock (x ∷ [])) None) some (λ e. inr (refl, refl, refl))
  lock_in (Reread core.Lock (x ∷ y ∷ [])) Rereads (InsideOf q) v u some moves =
      guard _ (lock_restart n p x y v) _ (LockTo Lock false (Reread core.Lock (x ∷ y ∷ [])) (by_lock false (again x y v))) some (λ e. relock x y v)
  lock_in Opening Opens (ChoosingOf q) v u some moves = guard _ (Door (others n p) 0) _ (LockTo Lock false Opening None) some (λ e. inr (refl, refl, refl))
  lock_in (Door unread m) Peeks (NumberOf j) v u some moves = guard _ (Door (without j unread) (max m v)) _ (LockTo Lock false (Door unread m) None) some (λ e. inr (refl, refl, refl))
  lock_in (Door [] m) Takes (NumberOf q) v u some moves = guard _ (Shutting core.Lock v) _ (LockTo Lock false (Door [] m) None) some (λ e. inr (refl, refl, refl))
  lock_in (Door [] m) Shuts (ChoosingOf q) v u some moves = guard _ Rest _ (LockTo Lock false (Door [] m) (Some NumbersSpent)) some (λ e. (tt, λ t is. is))
  lock_in (Shutting core.Lock k) Shuts (ChoosingOf q) v u some moves = guard _ (Wait k (others n p) None) _ (LockTo Lock false (Shutting core.Lock k) None) some (λ e. inr (refl, refl, refl))
  lock_in (Wait k unpassed None) Looks (ChoosingOf j) v u some moves =
      guard (has unpassed j) (if v == 0 then Wait k unpassed (Some j) else Wait k unpassed None) (Wait k unpassed None) (LockTo Lock false (Wait k unpassed None) None) some
      (λ e. elim (cases_Bool (v == 0)) [ inl z ↦ rw z (inr (refl, refl, refl)) | inr z ↦ rw z (inr (refl, refl, refl)) ])
  lock_in (Wait k unpassed (Some i)) Weighs (NumberOf j) v u some moves =
      guard (j == i) (if (v == 0) || is_before k p v j then Wait k (without j unpassed) None else Wait k unpassed (Some i)) (Wait k unpassed (Some i)) (LockTo Lock false (Wait k unpassed (Some i)) None) some
      (λ e. elim (cases_Bool ((v == 0) || is_before k p v j)) [ inl z ↦ rw z (inr (refl, refl, refl)) | inr z ↦ rw z (inr (refl, refl, refl)) ])
  lock_in (Wait k [] None) Marks (InsideOf q) v u some moves = guard _ Inside _ (LockTo Lock false (Wait k [] None) None) some (λ e. inl (refl, refl))
  lock_in (Unmarking core.Lock) Marks (InsideOf q) v u some moves = guard _ Opening _ (LockTo Lock false (Unmarking core.Lock) None) some (λ e. inr (refl, refl, refl))
  lock_in s Glances word v u some moves = absurd (cc)
  lock_in _ _ _ v u some moves = absurd (cc)

  -- a step of a lock that found the lock ruined
  lock_out : (s : Place) (kind : Kind) (word : Word) (v : ℕ) → under_place Lock true s ≡ true → IsSome (next n limit p s kind word v) → is_glance kind ≡ false → LockTo Lock true s (by_lock true (answer s kind v)) (unwrap_or (next n limit p s kind word v) s)
  lock_out Leaving Drops (NumberOf q) v u some moves = guard _ (Unmarking core.Unlock) _ (LockTo Lock true Leaving None) some (λ e. inr (refl, refl, refl))
  lock_out (Unmarking core.Unlock) Marks (InsideOf q) v u some moves = guard _ Rest _ (LockTo Lock true (Unmarking core.Unlock) (Some NotRecoverable)) some (λ e. (tt, λ t is. is))
  lock_out s Glances word v u some moves = absurd (cc)
  lock_out (Reread core.Recover seen) kind word v u some moves = absurd (cc)
  lock_out (Shutting core.Recover k) kind word v u some moves = absurd (cc)
  lock_out _ _ _ v u some moves = absurd (cc)

  recovers : (s : Place) (kind : Kind) (word : Word) (v : ℕ) → under_place Recover false s ≡ true → IsSome (next n limit p s kind word v) → is_glance kind ≡ false → LockTo Recover false s (by_lock false (answer s kind v)) (unwrap_or (next n limit p s kind word v) s)
  recovers (Reread core.Recover []) Rereads (ChoosingOf q) v u some moves = guard _ (Reread core.Recover (v ∷ [])) _ (LockTo Recover false (Reread core.Recover []) None) some (λ e. inr (refl, refl, refl))
  recovers (Reread core.Recover (x ∷ [])) Rereads (NumberOf q) v u some moves = guard _ (Reread core.Recover (x ∷ v ∷ [])) _ (LockTo Recover false (Reread core.Recover (x ∷ [])) None) some (λ e. inr (refl, refl, refl))
  recovers (Reread core.Recover (x ∷ y ∷ [])) Rereads (InsideOf q) v u some moves =
      guard _ (recovery_restart x y v) _ (LockTo Recover false (Reread core.Recover (x ∷ y ∷ [])) (by_lock false (recovery_answer x y v))) some (λ e. recover x y v)
  recovers (Shutting core.Recover k) Shuts (ChoosingOf q) v u some moves = (tt, λ t is. tt)
  recovers (Unmarking core.Recover) Marks (InsideOf q) v u some moves = (tt, λ t is. tt)
  recovers s Glances word v u some moves = absurd (cc)
  recovers _ _ _ v u some moves = absurd (cc)

  unlocks : (s : Place) (kind : Kind) (word : Word) (v : ℕ) → under_place Unlock false s ≡ true → IsSome (next n limit p s kind word v) → is_glance kind ≡ false → LockTo Unlock false s (by_lock false (answer s kind v)) (unwrap_or (next n limit p s kind word v) s)
  unlocks Leaving Drops (NumberOf q) v u some moves = guard _ (Unmarking core.Unlock) _ (LockTo Unlock false Leaving None) some (λ e. inr (refl, refl, refl))
  unlocks (Unmarking core.Unlock) Marks (InsideOf q) v u some moves = guard _ Rest _ (LockTo Unlock false (Unmarking core.Unlock) (Some Unlocked)) some (λ e. (tt, λ t is. is))
  unlocks s Glances word v u some moves = absurd (cc)
  unlocks (Reread core.Recover seen) kind word v u some moves = absurd (cc)
  unlocks (Shutting core.Recover k) kind word v u some moves = absurd (cc)
  unlocks _ _ _ v u some moves = absurd (cc)

  withdraws : (s : Place) (kind : Kind) (word : Word) (v : ℕ) → under_place Withdraw false s ≡ true → IsSome (next n limit p s kind word v) → is_glance kind ≡ false → LockTo Withdraw false s (by_lock false (answer s kind v)) (unwrap_or (next n limit p s kind word v) s)
  withdraws Withdrawing Drops (NumberOf q) v u some moves = (tt, λ t is. tt)
  withdraws s Glances word v u some moves = absurd (cc)
  withdraws (Reread core.Recover seen) kind word v u some moves = absurd (cc)
  withdraws (Shutting core.Recover k) kind word v u some moves = absurd (cc)
  withdraws (Unmarking core.Recover) kind word v u some moves = absurd (cc)
  withdraws _ _ _ v u some moves = absurd (cc)

  pub lock_to : (call : Call) (c : Bool) (s : Place) (kind : Kind) (word : Word) (v : ℕ) → under_place call c s ≡ true → IsSome (next n limit p s kind word v) → is_glance kind ≡ false → LockTo call c s (by_lock c (answer s kind v)) (unwrap_or (next n limit p s kind word v) s)
  lock_to Lock false s kind word v u some moves = lock_in s kind word v u some moves
  lock_to Lock true s kind word v u some moves = lock_out s kind word v u some moves
  lock_to Recover false s kind word v u some moves = recovers s kind word v u some moves
  lock_to Unlock false s kind word v u some moves = unlocks s kind word v u some moves
  lock_to Withdraw false s kind word v u some moves = withdraws s kind word v u some moves
  lock_to _ _ s kind word v u some moves = absurd (cc)

  blocked_in : (s : Place) (kind : Kind) (v : ℕ) → is_blocked p s kind v ≡ true → under_place Lock false s ≡ true
  blocked_in (Wait k unpassed None) Looks v b = refl
  blocked_in (Wait k unpassed (Some j)) Weighs v b = refl
  blocked_in _ _ v b = absurd (cc)

  only_lock : (call : Call) (c : Bool) (part own : Option CoreCall) → is_part_of Lock false part own ≡ true → is_part_of call c part own ≡ true → call ≡ Lock
  only_lock Lock c part own a u = refl
  only_lock _ true (Some core.Lock) own a u = absurd (cc)
  only_lock _ false (Some core.Lock) own a u = absurd (cc)
  only_lock _ _ _ _ a u = absurd (cc)

  -- no call but a lock is blocked
  pub blocked_lock : (call : Call) (c : Bool) (s : Place) (kind : Kind) (v : ℕ) → under_place call c s ≡ true → is_blocked p s kind v ≡ true → call ≡ Lock
  blocked_lock call c s kind v u b = only_lock call c (lock_part s) (own_call s) (blocked_in s kind v b) u
