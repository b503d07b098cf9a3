-- In each wait-free part of a call a process has fewer steps left after each of its steps.
use Rattle.std.proofs.Common.{◌≡◌, ◌≢◌, ℕ, zero, suc, ◌+◌, ◌<◌, ◌≤◌, max, Bool, true, false, not, ◌==◌, if◌then◌else◌, List, [], ◌∷◌, length, Some, None, IsSome, unwrap_or, refl, sym, ap, subst, inl, inr, arith, eq-eqb, ne_eqb}
use Rattle.std.proofs.lemmas.Bool.{cases_Bool}
use Rattle.progress.proofs.Common.{cases_eq, CoreCall, Lock, Recover, Unlock, Kind, Take as Takes, Shut as Shuts, Rereads, Open as Opens, Peek as Peeks, Mark as Marks, Drop as Drops, Glance as Glances}
use Rattle.progress.proofs.Common.{Word, Choosing as ChoosingOf, Number as NumberOf, InsideOf, is_glance, Place, Rest, Dead, Reread, Opening, Door, Shutting, Wait, Inside, Leaving, Withdrawing, Unmarking, has, only, next, Event, Starts, Crashes, Steps}
use Rattle.progress.proofs.Common.{without, others, restart, place_after_start, shut, place_after_unmark, process, place_after_event, World, May, after, Run}
use Rattle.progress.proofs.Short.{others_fewer}
use Rattle.progress.specs.Bypass.{Throughout}
use Rattle.progress.specs.WaitFree.{steps_of, IsBeforeLine, IsRereadOfLock, IsLeaving, IsRecovering}
use Rattle.rmecore.proofs.Invariant.{put_same, put_other}
use Rattle.rmecore.proofs.Runs.{guard}
use Rattle.rmecore.proofs.Scans.{without_less}

-- the steps that are left before the line, in a recovery and in an exit
abbrev pub steps_left : ℕ → Place → ℕ
steps_left n (Reread Lock []) = n + 6
steps_left n (Reread Lock (c ∷ [])) = n + 5
steps_left n (Reread Lock (c ∷ k ∷ seen)) = n + 4
steps_left n (Reread _ []) = 4
steps_left n (Reread _ (c ∷ [])) = 3
steps_left n (Reread _ (c ∷ k ∷ seen)) = 2
steps_left n (Unmarking Lock) = n + 3
steps_left n (Unmarking _) = 1
steps_left n Opening = n + 2
steps_left n (Door unread m) = length unread + 2
steps_left n (Shutting call k) = 1
steps_left n Leaving = 2
steps_left n _ = 0

-- the rereads that are left
abbrev pub rereads_left : Place → ℕ
rereads_left (Reread call []) = 3
rereads_left (Reread call (c ∷ [])) = 2
rereads_left (Reread call (c ∷ k ∷ seen)) = 1
rereads_left _ = 0

-- a place of one of the parts
abbrev pub Busy : Place → Type 0
Busy (Wait k unpassed looked) = ⊥
Busy Rest = ⊥
Busy Dead = ⊥
Busy Inside = ⊥
Busy Withdrawing = ⊥
Busy _ = Unit {0}

module _ (n limit p : ℕ) (below : p < n) where
  others_more : (m : ℕ) → n + 2 ≤ m → length (others n p) + 2 + 1 ≤ m
  others_more m h = let few = others_fewer n p below in omega arith

  restarted : (call : CoreCall) (c k i : ℕ) → steps_left n (restart n p call c k i) + 1 ≤ steps_left n (Reread call (c ∷ k ∷ []))
  restarted Lock (suc c) zero i = others_more (n + 4) (omega arith)
  restarted Lock (suc c) (suc k) i = omega arith
  restarted Lock zero zero zero = omega arith
  restarted Lock zero zero (suc i) = omega arith
  restarted Lock zero (suc k) zero = omega arith
  restarted Lock zero (suc k) (suc i) = omega arith
  restarted _ (suc c) zero i = omega arith
  restarted _ (suc c) (suc k) i = omega arith
  restarted _ zero zero zero = omega arith
  restarted _ zero zero (suc i) = omega arith
  restarted _ zero (suc k) zero = omega arith
  restarted _ zero (suc k) (suc i) = omega arith

  shuts : (call : CoreCall) (k : ℕ) → steps_left n (shut n p call k) + 1 ≤ 1
  shuts Lock k = omega arith
  shuts _ k = omega arith

  unmarks : (call : CoreCall) → steps_left n (place_after_unmark call) + 1 ≤ steps_left n (Unmarking call)
  unmarks Lock = omega arith
  unmarks _ = omega arith

  abbrev Less : ℕ → Place → Type 0
  Less most t = steps_left n t + 1 ≤ most

  guarded : (b : Bool) (t s : Place) (most : ℕ) → IsSome (only b t) → (b ≡ true → Less most t) → Less most (unwrap_or (only b t) s)
  guarded b t s most some h = guard b t s (Less most) some h

  pub falls : (s : Place) (kind : Kind) (word : Word) (v : ℕ) → Busy s → IsSome (next n limit p s kind word v) → is_glance kind ≡ false → steps_left n (unwrap_or (next n limit p s kind word v) s) + 1 ≤ steps_left n s
  falls (Reread Lock []) Rereads (ChoosingOf q) v busy some counts = guarded (q == p) _ _ _ some (λ e. omega arith)
  falls (Reread call []) Rereads (ChoosingOf q) v busy some counts = guarded (q == p) _ _ _ some (λ e. omega arith)
  falls (Reread Lock (c ∷ [])) Rereads (NumberOf q) v busy some counts = guarded (q == p) _ _ _ some (λ e. omega arith)
  falls (Reread call (c ∷ [])) Rereads (NumberOf q) v busy some counts = guarded (q == p) _ _ _ some (λ e. omega arith)
  falls (Reread call (c ∷ k ∷ [])) Rereads (InsideOf q) v busy some counts = guarded (q == p) (restart n p call c k v) _ (steps_left n (Reread call (c ∷ k ∷ []))) some (λ e. restarted call c k v)
  falls Opening Opens (ChoosingOf q) v busy some counts = guarded _ (Door (others n p) 0) _ _ some (λ e. others_more (n + 2) (omega arith))
  falls (Door unread m) Peeks (NumberOf j) v busy some counts = guarded (has unread j) (Door (without j unread) (max m v)) _ (length unread + 2) some (λ e. let less = without_less unread j e in omega arith)
  falls (Door [] m) Takes (NumberOf q) v busy some counts = guarded _ (Shutting Lock v) _ _ some (λ e. omega arith)
  falls (Door [] m) Shuts (ChoosingOf q) v busy some counts = guarded _ Rest _ _ some (λ e. omega arith)
  falls (Shutting call k) Shuts (ChoosingOf q) v busy some counts = guarded _ (shut n p call k) _ 1 some (λ e. shuts call k)
  falls Leaving Drops (NumberOf q) v busy some counts = guarded _ (Unmarking Unlock) _ _ some (λ e. omega arith)
  falls (Unmarking call) Marks (InsideOf q) v busy some counts = guarded _ (place_after_unmark call) _ (steps_left n (Unmarking call)) some (λ e. unmarks call)
  falls (Wait k unpassed looked) kind word v busy some counts = absurd busy
  falls Rest kind word v busy some counts = absurd busy
  falls Dead kind word v busy some counts = absurd busy
  falls Inside kind word v busy some counts = absurd busy
  falls Withdrawing kind word v busy some counts = absurd busy
  falls s Glances word v busy some counts = absurd (cc)
  falls _ _ _ _ busy some counts = absurd (cc)

  -- a glance leaves the place as it is
  glanced : (s : Place) (word : Word) (v : ℕ) → IsSome (next n limit p s Glances word v) → next n limit p s Glances word v ≡ Some s
  glanced Rest (ChoosingOf q) v some = refl
  glanced Rest (NumberOf q) v some = refl
  glanced Rest (InsideOf q) v some = refl
  glanced Dead (ChoosingOf q) v some = refl
  glanced Dead (NumberOf q) v some = refl
  glanced Dead (InsideOf q) v some = refl
  glanced (Reread call []) (ChoosingOf q) v some = refl
  glanced (Reread call []) (NumberOf q) v some = refl
  glanced (Reread call []) (InsideOf q) v some = refl
  glanced (Reread call (c ∷ [])) (ChoosingOf q) v some = refl
  glanced (Reread call (c ∷ [])) (NumberOf q) v some = refl
  glanced (Reread call (c ∷ [])) (InsideOf q) v some = refl
  glanced (Reread call (c ∷ k ∷ [])) (ChoosingOf q) v some = refl
  glanced (Reread call (c ∷ k ∷ [])) (NumberOf q) v some = refl
  glanced (Reread call (c ∷ k ∷ [])) (InsideOf q) v some = refl
  glanced (Reread call (c ∷ k ∷ i ∷ seen)) (ChoosingOf q) v some = refl
  glanced (Reread call (c ∷ k ∷ i ∷ seen)) (NumberOf q) v some = refl
  glanced (Reread call (c ∷ k ∷ i ∷ seen)) (InsideOf q) v some = refl
  glanced Opening (ChoosingOf q) v some = refl
  glanced Opening (NumberOf q) v some = refl
  glanced Opening (InsideOf q) v some = refl
  glanced (Door [] m) (ChoosingOf q) v some = refl
  glanced (Door [] m) (NumberOf q) v some = refl
  glanced (Door [] m) (InsideOf q) v some = refl
  glanced (Door (j ∷ js) m) (ChoosingOf q) v some = refl
  glanced (Door (j ∷ js) m) (NumberOf q) v some = refl
  glanced (Door (j ∷ js) m) (InsideOf q) v some = refl
  glanced (Shutting call k) (ChoosingOf q) v some = refl
  glanced (Shutting call k) (NumberOf q) v some = refl
  glanced (Shutting call k) (InsideOf q) v some = refl
  glanced (Wait k [] None) (ChoosingOf q) v some = refl
  glanced (Wait k [] None) (NumberOf q) v some = refl
  glanced (Wait k [] None) (InsideOf q) v some = refl
  glanced (Wait k (j ∷ js) None) (ChoosingOf q) v some = refl
  glanced (Wait k (j ∷ js) None) (NumberOf q) v some = refl
  glanced (Wait k (j ∷ js) None) (InsideOf q) v some = refl
  glanced (Wait k unpassed (Some i)) (ChoosingOf q) v some = refl
  glanced (Wait k unpassed (Some i)) (NumberOf q) v some = refl
  glanced (Wait k unpassed (Some i)) (InsideOf q) v some = refl
  glanced Inside (ChoosingOf q) v some = refl
  glanced Inside (NumberOf q) v some = refl
  glanced Inside (InsideOf q) v some = refl
  glanced Leaving (ChoosingOf q) v some = refl
  glanced Leaving (NumberOf q) v some = refl
  glanced Leaving (InsideOf q) v some = refl
  glanced Withdrawing (ChoosingOf q) v some = refl
  glanced Withdrawing (NumberOf q) v some = refl
  glanced Withdrawing (InsideOf q) v some = refl
  glanced (Unmarking call) (ChoosingOf q) v some = refl
  glanced (Unmarking call) (NumberOf q) v some = refl
  glanced (Unmarking call) (InsideOf q) v some = refl
  glanced _ _ v some = absurd (cc)

  pub glances : (s : Place) (kind : Kind) (word : Word) (v : ℕ) → is_glance kind ≡ true → IsSome (next n limit p s kind word v) → unwrap_or (next n limit p s kind word v) s ≡ s
  glances s Glances word v e some = ap (λ o. unwrap_or o s) (glanced s word v some)
  glances s _ word v e some = absurd (cc)

-- so it does in each part of them
falls_in : (n limit p : ℕ) → p < n → {Part : Place → Type 0} → ((s : Place) → Part s → Busy s) → (s : Place) (kind : Kind) (word : Word) (v : ℕ) → Part s → IsSome (next n limit p s kind word v)
    → is_glance kind ≡ false → Part (unwrap_or (next n limit p s kind word v) s) → steps_left n (unwrap_or (next n limit p s kind word v) s) + 1 ≤ steps_left n s
falls_in n limit p below busy s kind word v h some counts there = falls n limit p below s kind word v (busy s h) some counts

-- a part of a call, and a measure that falls with each step in it
pub record Measure (n limit p : ℕ) (Part : Place → Type 0) (left : Place → ℕ) : Type 0 where
  pub alive : Part Dead → ⊥
  pub unstarted : (s : Place) (call : CoreCall) → Part s → IsSome (place_after_start s call) → ⊥
  pub some_left : (s : Place) → Part s → 0 < left s
  pub fewer : (s : Place) (kind : Kind) (word : Word) (v : ℕ) → Part s → IsSome (next n limit p s kind word v) → is_glance kind ≡ false → Part (unwrap_or (next n limit p s kind word v) s) → left (unwrap_or (next n limit p s kind word v) s) + 1 ≤ left s

module _ (n limit p : ℕ) (below : p < n) {Part : Place → Type 0} {left : Place → ℕ} (h : Measure n limit p Part left) where
  stepped : (s : Place) (kind : Kind) (word : Word) (v more : ℕ) → Part s → IsSome (next n limit p s kind word v) → Part (unwrap_or (next n limit p s kind word v) s) → more + 1 ≤ left (unwrap_or (next n limit p s kind word v) s)
      → (if not (is_glance kind) then suc more else more) + 1 ≤ left s
  stepped s kind word v more here some there rest =
      elim (cases_Bool (is_glance kind)) [
        | inl e ↦ rw e (subst (λ t. more + 1 ≤ left t) (glances n limit p below s kind word v e some) rest)
        | inr e ↦ let less = h.fewer s kind word v here some e there in rw e (omega arith)
      ]

  first_part : (w : World) (es : List Event) → Throughout (λ v. Part (v.places p)) n limit w es → Part (w.places p)
  first_part w [] all = all
  first_part w (e ∷ es) all = all.0

  elsewhere : (w : World) (e : Event) (more : ℕ) → process e ≢ p → more + 1 ≤ left ((after n limit w e).places p) → more + 1 ≤ left (w.places p)
  elsewhere w e more away rest = subst (λ s. more + 1 ≤ left s) (put_other w.places (process e) _ p (λ is. away (sym is))) rest

  place_after_own : (w : World) (e : Event) → process e ≡ p → (after n limit w e).places p ≡ unwrap_or (place_after_event n limit (w.places p) e) (w.places p)
  place_after_own w e is = subst (λ r. (after n limit w e).places r ≡ unwrap_or (place_after_event n limit (w.places r) e) (w.places r)) is (put_same w.places (process e) _)

  pub leaves : (w : World) (es : List Event) → Run n limit w es → Throughout (λ v. Part (v.places p)) n limit w es → steps_of p es + 1 ≤ left (w.places p)
  leaves w [] run all = let some = h.some_left (w.places p) all in omega arith
  leaves w (e ∷ es) run all = go e run.0 (first_part (after n limit w e) es all.1) (leaves (after n limit w e) es run.1 all.1)
    where
      go : (e : Event) → May n limit w e → Part ((after n limit w e).places p) → steps_of p es + 1 ≤ left ((after n limit w e).places p) → steps_of p (e ∷ es) + 1 ≤ left (w.places p)
      go (Starts q call) may there rest =
          elim (cases_eq q p) [
            | inl is ↦ absurd (h.unstarted (w.places p) call all.0 (subst (λ r. IsSome (place_after_start (w.places r) call)) is may.1))
            | inr away ↦ elsewhere w (Starts q call) (steps_of p es) away rest
          ]
      go (Crashes q) may there rest =
          elim (cases_eq q p) [
            | inl is ↦ absurd (h.alive (subst Part (place_after_own w (Crashes q) is) there))
            | inr away ↦ elsewhere w (Crashes q) (steps_of p es) away rest
          ]
      go (Steps q kind word v) may there rest =
          elim (cases_eq q p) [
            | inl is ↦
                let yes : (q == p) ≡ true = eq-eqb q p is in
                let at = place_after_own w (Steps q kind word v) is in
                let own : (r : ℕ) → r ≡ p → IsSome (next n limit r (w.places r) kind word v) → Part (unwrap_or (next n limit r (w.places p) kind word v) (w.places p))
                → steps_of p es + 1 ≤ left (unwrap_or (next n limit r (w.places p) kind word v) (w.places p)) → (if not (is_glance kind) then suc (steps_of p es) else steps_of p es) + 1 ≤ left (w.places p)
                = λ r same. subst (λ r. IsSome (next n limit r (w.places r) kind word v) → Part (unwrap_or (next n limit r (w.places p) kind word v) (w.places p))
                → steps_of p es + 1 ≤ left (unwrap_or (next n limit r (w.places p) kind word v) (w.places p)) → (if not (is_glance kind) then suc (steps_of p es) else steps_of p es) + 1 ≤ left (w.places p)) (sym same)
                (λ some part more. stepped (w.places p) kind word v (steps_of p es) all.0 some part more) in
                rw yes (own q is may.1 (subst Part at there) (subst (λ s. steps_of p es + 1 ≤ left s) at rest))
            | inr away ↦ let no : (q == p) ≡ false = ne_eqb q p away in rw no (elsewhere w (Steps q kind word v) (steps_of p es) away rest)
          ]

-- the parts

module _ (n limit p : ℕ) (below : p < n) where
  pub before_line : Measure n limit p IsBeforeLine (steps_left n)
  before_line = record { alive = λ h. h; unstarted = unstarted; some_left = some_left; fewer = falls_in n limit p below busy }
    where
      unstarted : (s : Place) (call : CoreCall) → IsBeforeLine s → IsSome (place_after_start s call) → ⊥
      unstarted (Reread Lock seen) call h some = cc
      unstarted (Unmarking Lock) call h some = cc
      unstarted Opening call h some = cc
      unstarted (Door unread m) call h some = cc
      unstarted (Shutting Lock k) call h some = cc
      unstarted _ call h some = h

      some_left : (s : Place) → IsBeforeLine s → 0 < steps_left n s
      some_left (Reread Lock []) h = omega arith
      some_left (Reread Lock (c ∷ [])) h = omega arith
      some_left (Reread Lock (c ∷ k ∷ seen)) h = omega arith
      some_left (Unmarking Lock) h = omega arith
      some_left Opening h = omega arith
      some_left (Door unread m) h = omega arith
      some_left (Shutting Lock k) h = omega arith
      some_left _ h = absurd h

      busy : (s : Place) → IsBeforeLine s → Busy s
      busy (Reread Lock seen) h = tt
      busy (Unmarking Lock) h = tt
      busy Opening h = tt
      busy (Door unread m) h = tt
      busy (Shutting Lock k) h = tt
      busy _ h = absurd h

  pub leaving : Measure n limit p IsLeaving (steps_left n)
  leaving = record { alive = λ h. h; unstarted = unstarted; some_left = some_left; fewer = falls_in n limit p below busy }
    where
      unstarted : (s : Place) (call : CoreCall) → IsLeaving s → IsSome (place_after_start s call) → ⊥
      unstarted Leaving call h some = cc
      unstarted (Unmarking Unlock) call h some = cc
      unstarted (Reread Recover seen) call h some = h
      unstarted (Shutting Recover k) call h some = h
      unstarted _ call h some = h

      some_left : (s : Place) → IsLeaving s → 0 < steps_left n s
      some_left Leaving h = omega arith
      some_left (Unmarking Unlock) h = omega arith
      some_left (Reread Recover seen) h = absurd h
      some_left (Shutting Recover k) h = absurd h
      some_left _ h = absurd h

      busy : (s : Place) → IsLeaving s → Busy s
      busy Leaving h = tt
      busy (Unmarking Unlock) h = tt
      busy (Reread Recover seen) h = absurd h
      busy (Shutting Recover k) h = absurd h
      busy _ h = absurd h

  pub recovering : Measure n limit p IsRecovering (steps_left n)
  recovering = record { alive = λ h. h; unstarted = unstarted; some_left = some_left; fewer = falls_in n limit p below busy }
    where
      unstarted : (s : Place) (call : CoreCall) → IsRecovering s → IsSome (place_after_start s call) → ⊥
      unstarted (Reread Recover seen) call h some = cc
      unstarted (Shutting Recover k) call h some = cc
      unstarted (Unmarking Recover) call h some = cc
      unstarted _ call h some = h

      some_left : (s : Place) → IsRecovering s → 0 < steps_left n s
      some_left (Reread Recover []) h = omega arith
      some_left (Reread Recover (c ∷ [])) h = omega arith
      some_left (Reread Recover (c ∷ k ∷ seen)) h = omega arith
      some_left (Shutting Recover k) h = omega arith
      some_left (Unmarking Recover) h = omega arith
      some_left _ h = absurd h

      busy : (s : Place) → IsRecovering s → Busy s
      busy (Reread Recover seen) h = tt
      busy (Shutting Recover k) h = tt
      busy (Unmarking Recover) h = tt
      busy _ h = absurd h

  pub rereading : Measure n limit p IsRereadOfLock rereads_left
  rereading = record { alive = λ h. h; unstarted = unstarted; some_left = some_left; fewer = fewer }
    where
      unstarted : (s : Place) (call : CoreCall) → IsRereadOfLock s → IsSome (place_after_start s call) → ⊥
      unstarted (Reread Lock seen) call h some = cc
      unstarted _ call h some = h

      some_left : (s : Place) → IsRereadOfLock s → 0 < rereads_left s
      some_left (Reread Lock []) h = omega arith
      some_left (Reread Lock (c ∷ [])) h = omega arith
      some_left (Reread Lock (c ∷ k ∷ seen)) h = omega arith
      some_left _ h = absurd h

      no_reread : (c k i : ℕ) → rereads_left (restart n p Lock c k i) + 1 ≤ 1
      no_reread (suc c) zero i = omega arith
      no_reread (suc c) (suc k) i = omega arith
      no_reread zero zero zero = omega arith
      no_reread zero zero (suc i) = omega arith
      no_reread zero (suc k) zero = omega arith
      no_reread zero (suc k) (suc i) = omega arith

      fewer : (s : Place) (kind : Kind) (word : Word) (v : ℕ) → IsRereadOfLock s → IsSome (next n limit p s kind word v) → is_glance kind ≡ false → IsRereadOfLock (unwrap_or (next n limit p s kind word v) s)
          → rereads_left (unwrap_or (next n limit p s kind word v) s) + 1 ≤ rereads_left s
      fewer (Reread Lock []) Rereads (ChoosingOf q) v h some not there = guard (q == p) _ _ (λ t. rereads_left t + 1 ≤ 3) some (λ e. omega arith)
      fewer (Reread Lock (c ∷ [])) Rereads (NumberOf q) v h some not there = guard (q == p) _ _ (λ t. rereads_left t + 1 ≤ 2) some (λ e. omega arith)
      fewer (Reread Lock (c ∷ k ∷ [])) Rereads (InsideOf q) v h some not there = guard (q == p) _ _ (λ t. rereads_left t + 1 ≤ 1) some (λ e. no_reread c k v)
      fewer s Glances word v h some not there = absurd (cc)
      fewer (Reread Lock seen) kind word v h some not there = absurd (cc)
      fewer _ kind word v h some not there = absurd h
