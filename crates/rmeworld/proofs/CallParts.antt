-- A step of the lock's part, for the call that it belongs to: the part goes on, or ends with its answer.
use Rattle.std.proofs.Common.{◌≡◌, ℕ, zero, suc, ◌==◌, ◌||◌, max, false, if◌then◌else◌, [], ◌∷◌, Option, Some, None, IsSome, unwrap_or, refl, inl, inr}
use Rattle.rmeworld.proofs.Common.{cases_Bool, CoreCall, CoreDone, In, InAgain, Spent, Out, Found as Finds, Withdrawn, Kind, Open as Opens, Rereads, Peek as Peeks, Take as Takes, Shut as Shuts}
use Rattle.rmeworld.proofs.Common.{Look as Looks, Weigh as Weighs, Mark as Marks, Drop as Drops, Glance as Glances, Word, Choosing as ChoosingOf, Number as NumberOf, answer, reread_answer}
use Rattle.rmeworld.proofs.Common.{shut_answer, unmark_answer, is_glance, Place, Door, Wait, next, Rest, Reread, Shutting, Leaving, Withdrawing, Unmarking, Opening, Inside, has, without, others}
use Rattle.rmeworld.proofs.Common.{is_before, restart, shut, place_after_unmark, guard, lock_part}
use Rattle.rmecore.specs.declared.core_call.CoreCall.TheVariants.{Lock, Recover, Unlock, Withdraw}
use Rattle.rmecore.specs.declared.word.Word.TheVariants.{Inside as InsideOf}
use Rattle.rmeworld.proofs.Entries.{Enters}

-- the part that an answer ends
abbrev pub done_part : CoreDone → CoreCall
done_part In = Lock
done_part InAgain = Lock
done_part Spent = Lock
done_part Out = Unlock
done_part (Finds found) = Recover
done_part Withdrawn = Withdraw

abbrev pub Follows : Option CoreCall → Option CoreDone → Place → Type 0
Follows part None t = lock_part t ≡ part
Follows part (Some d) t = (part ≡ Some (done_part d)) × (lock_part t ≡ None)

abbrev pub On : Option CoreDone → Place → Place → Type 0
On done s t = IsSome (lock_part s) × Enters done s t × Follows (lock_part s) done t

module _ (n p : ℕ) where
  rereads : (call : CoreCall) (c k i : ℕ) → On (reread_answer call c k i) (Reread call (c ∷ k ∷ [])) (restart n p call c k i)
  rereads Lock (suc c) zero i = (refl, (refl, λ b. refl), refl)
  rereads _ (suc c) zero i = (refl, (refl, λ b. refl), (refl, refl))
  rereads _ zero zero (suc i) = (refl, (refl, λ b. refl), refl)
  rereads _ zero (suc k) (suc i) = (refl, (refl, λ b. refl), (refl, refl))
  rereads _ (suc c) (suc k) i = (refl, (refl, λ b. refl), refl)
  rereads Lock _ _ _ = (refl, (refl, λ b. refl), refl)
  rereads _ _ _ _ = (refl, (refl, λ b. refl), (refl, refl))

  shuts : (call : CoreCall) (k : ℕ) → On (shut_answer call) (Shutting call k) (shut n p call k)
  shuts Lock k = (refl, (refl, λ b. refl), refl)
  shuts _ k = (refl, (refl, λ b. refl), (refl, refl))

  unmarks : (call : CoreCall) → On (unmark_answer call) (Unmarking call) (place_after_unmark call)
  unmarks Lock = (refl, (refl, λ b. refl), refl)
  unmarks _ = (refl, (refl, λ b. refl), (refl, refl))

  pub goes_on : (limit : ℕ) (s : Place) (kind : Kind) (word : Word) (v : ℕ) → IsSome (next n limit p s kind word v) → is_glance kind ≡ false → On (answer s kind v) s (unwrap_or (next n limit p s kind word v) s)
  goes_on limit (Reread Lock []) Rereads (ChoosingOf q) v some moves = guard _ (Reread Lock (v ∷ [])) _ (On None (Reread Lock [])) some (λ e. (refl, (refl, λ b. refl), refl))
  goes_on limit (Reread _ []) Rereads (ChoosingOf q) v some moves = guard _ _ _ (On None _) some (λ e. (refl, (refl, λ b. refl), refl))
  goes_on limit (Reread Lock (x ∷ [])) Rereads (NumberOf q) v some moves = guard _ (Reread Lock (x ∷ v ∷ [])) _ (On None (Reread Lock (x ∷ []))) some (λ e. (refl, (refl, λ b. refl), refl))
  goes_on limit (Reread _ (x ∷ [])) Rereads (NumberOf q) v some moves = guard _ _ _ (On None _) some (λ e. (refl, (refl, λ b. refl), refl))
  goes_on limit (Reread call (x ∷ y ∷ [])) Rereads (InsideOf q) v some moves = guard _ (restart n p call x y v) _ (On (reread_answer call x y v) (Reread call (x ∷ y ∷ []))) some (λ e. rereads call x y v)
  goes_on limit Opening Opens (ChoosingOf q) v some moves = guard _ (Door (others n p) 0) _ (On None Opening) some (λ e. (refl, (refl, λ b. refl), refl))
  goes_on limit (Door unread m) Peeks (NumberOf j) v some moves = guard _ (Door (without j unread) (max m v)) _ (On None (Door unread m)) some (λ e. (refl, (refl, λ b. refl), refl))
  goes_on limit (Door [] m) Takes (NumberOf q) v some moves = guard _ (Shutting Lock v) _ (On None (Door [] m)) some (λ e. (refl, (refl, λ b. refl), refl))
  goes_on limit (Door [] m) Shuts (ChoosingOf q) v some moves = guard _ Rest _ (On (Some Spent) (Door [] m)) some (λ e. (refl, (refl, λ b. refl), (refl, refl)))
  goes_on limit (Shutting call k) Shuts (ChoosingOf q) v some moves = guard _ (shut n p call k) _ (On (shut_answer call) (Shutting call k)) some (λ e. shuts call k)
  goes_on limit (Wait k unpassed None) Looks (ChoosingOf j) v some moves =
      guard (has unpassed j) (if v == 0 then Wait k unpassed (Some j) else Wait k unpassed None) (Wait k unpassed None) (On None (Wait k unpassed None)) some
      (λ e. elim (cases_Bool (v == 0)) [ inl z ↦ rw z (refl, (refl, λ b. refl), refl) | inr z ↦ rw z (refl, (refl, λ b. refl), refl) ])
  goes_on limit (Wait k unpassed (Some i)) Weighs (NumberOf j) v some moves =
      guard (j == i) (if (v == 0) || is_before k p v j then Wait k (without j unpassed) None else Wait k unpassed (Some i)) (Wait k unpassed (Some i)) (On None (Wait k unpassed (Some i))) some
      (λ e. elim (cases_Bool ((v == 0) || is_before k p v j)) [ inl z ↦ rw z (refl, (refl, λ b. refl), refl) | inr z ↦ rw z (refl, (refl, λ b. refl), refl) ])
  goes_on limit (Wait k [] None) Marks (InsideOf q) v some moves = guard _ Inside _ (On (Some In) (Wait k [] None)) some (λ e. (refl, (refl, λ b. refl), (refl, refl)))
  goes_on limit Leaving Drops (NumberOf q) v some moves = guard _ (Unmarking Unlock) _ (On None Leaving) some (λ e. (refl, (refl, λ b. refl), refl))
  goes_on limit Withdrawing Drops (NumberOf q) v some moves = guard _ Rest _ (On (Some Withdrawn) Withdrawing) some (λ e. (refl, (refl, λ b. refl), (refl, refl)))
  goes_on limit (Unmarking call) Marks (InsideOf q) v some moves = guard _ (place_after_unmark call) _ (On (unmark_answer call) (Unmarking call)) some (λ e. unmarks call)
  goes_on limit s Glances word v some moves = absurd (cc)
  goes_on limit _ _ _ v some moves = absurd (cc)
