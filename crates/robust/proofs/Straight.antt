-- The steps of a lock between its scans, and those of an unlock.
use Rattle.std.proofs.Common.{◌≡◌, ◌≢◌, ℕ, zero, suc, ◌+◌, ◌-◌, ◌<◌, ◌≤◌, Bool, true, false, ◌==◌, nat_lt, List, [], ◌∷◌, length, Option, Some, None, IsSome, unwrap_or, refl, sym, ap, ◌∙◌, subst, inl, inr, arith, eq-eqb}
use Rattle.robust.proofs.AccessCommon.{Load, Store, Get as Gets, Reread as Rereads, Open as Opens, Take as Takes, Shut as Shuts, Mark as Marks, Drop as Drops, Data as DataAt, Number as NumberOf}
use Rattle.robust.proofs.AccessCommon.{Choosing as ChoosingOf, access, first, Place, Inside, Wait, Leaving, Rest, Door, above, Opening, Shutting, Unmarking, others, lock_restart, span, has-first, Unlocked}
use Rattle.robust.proofs.AccessCommon.{Clean, answer_at, blocked_by, is_idle, ProcessState, next_process_state, access_by, process_state_now, SeatView, moved_process_state, CarriesPending, next_of, outcome_of, access_event, Begun, under_place}
use Rattle.robust.proofs.AccessCommon.{process_state_moves, free_process_state, Unanswered, EndsIn, checked_process_state, Way, waits_at, checking_process_state}
use Rattle.std.proofs.lemmas.Bool.{cases_Bool, lt-ltb}
use Rattle.rmecore.specs.StepsLeft.{lock_left, IsFair}
use Rattle.rmecore.specs.Place.{Reread, has}
use Rattle.rmecore.specs.declared.core_call.CoreCall.TheVariants.{Lock, Unlock}
use Rattle.rmecore.specs.declared.kind.Kind.{Kind}
use Rattle.rmecore.specs.declared.word.Word.{Word}
use Rattle.rmecore.specs.declared.word.Word.TheVariants.{Inside as InsideOf}
use Rattle.rmeworld.specs.declared.call.Call.TheVariants as call
use Rattle.robust.proofs.FreeSteps.{unanswered_none, silent_by, ended_by, silent, ended, there_by, there, moves}

-- steps at the own words, named by an index that is the process's
module _ (y z : SeatView) (own : ℕ) (is : own ≡ y.by) where
  itself : (y.by == y.by) ≡ true
  itself = eq-eqb y.by y.by refl

  pub at_own : (kind : Kind) (word : ℕ → Word) (v : ℕ) → CarriesPending y kind (word own) v z → CarriesPending y kind (word y.by) v z
  at_own kind word v adv = subst (λ (q : ℕ). CarriesPending y kind (word q) v z) is adv

  pub choosing_read : (v : ℕ) → process_state_now y ≡ free_process_state (Reread Lock []) (process_state_now y).mended → CarriesPending y Rereads (ChoosingOf own) v z → Way y 1 z (Reread Lock (v ∷ []))
  choosing_read v at adv = moves y z (Reread Lock []) (Reread Lock (v ∷ [])) (Load Rereads (ChoosingOf y.by)) v at refl (at_own Rereads ChoosingOf v adv) (rw itself refl) refl refl refl refl

  pub number_read : (c v : ℕ) → process_state_now y ≡ free_process_state (Reread Lock (c ∷ [])) (process_state_now y).mended → CarriesPending y Rereads (NumberOf own) v z → Way y 1 z (Reread Lock (c ∷ v ∷ []))
  number_read c v at adv = moves y z (Reread Lock (c ∷ [])) (Reread Lock (c ∷ v ∷ [])) (Load Rereads (NumberOf y.by)) v at refl (at_own Rereads NumberOf v adv) (rw itself refl) refl refl refl refl

  pub inside_read : (v : ℕ) → process_state_now y ≡ free_process_state (Reread Lock (0 ∷ 0 ∷ [])) (process_state_now y).mended → CarriesPending y Rereads (InsideOf own) v z → Way y 1 z (lock_restart y.setup.layout.procs y.by 0 0 v)
  inside_read zero at adv = moves y z (Reread Lock (0 ∷ 0 ∷ [])) Opening (Load Rereads (InsideOf y.by)) 0 at refl (at_own Rereads InsideOf 0 adv) (rw itself refl) refl refl refl refl
  inside_read (suc v) at adv = moves y z (Reread Lock (0 ∷ 0 ∷ [])) (Unmarking Lock) (Load Rereads (InsideOf y.by)) (suc v) at refl (at_own Rereads InsideOf (suc v) adv) (rw itself refl) refl refl refl refl

  pub opened : process_state_now y ≡ free_process_state Opening (process_state_now y).mended → CarriesPending y Opens (ChoosingOf own) 1 z → Way y 1 z (Door (others y.setup.layout.procs y.by) 0)
  opened at adv = moves y z Opening (Door (others y.setup.layout.procs y.by) 0) (Store Opens (ChoosingOf y.by) 1) 0 at refl (at_own Opens ChoosingOf 1 adv) (rw itself refl) refl refl refl refl

  pub shut_again : (k : ℕ) → process_state_now y ≡ free_process_state (Shutting Lock k) (process_state_now y).mended → CarriesPending y Shuts (ChoosingOf own) 0 z → Way y 1 z (Wait k (others y.setup.layout.procs y.by) None)
  shut_again k at adv = moves y z (Shutting Lock k) (Wait k (others y.setup.layout.procs y.by) None) (Store Shuts (ChoosingOf y.by) 0) 0 at refl (at_own Shuts ChoosingOf 0 adv) (rw itself refl) refl refl refl refl

  pub number_taken : (m : ℕ) → m < y.setup.limit → process_state_now y ≡ free_process_state (Door [] m) (process_state_now y).mended → CarriesPending y Takes (NumberOf own) (m + 1) z → Way y 1 z (Shutting Lock (m + 1))
  number_taken m lt at adv =
      let below : nat_lt m y.setup.limit ≡ true = lt-ltb m y.setup.limit lt in
      let next : access y.setup.limit y.by (Door [] m) ≡ Some (Store Takes (NumberOf y.by) (m + 1)) = rw below refl in
      let same : (m + 1 == m + 1) ≡ true = eq-eqb (m + 1) (m + 1) refl in
      moves y z (Door [] m) (Shutting Lock (m + 1)) (Store Takes (NumberOf y.by) (m + 1)) 0 at next (at_own Takes NumberOf (m + 1) adv) (rw (below, itself, same) (rw below refl)) refl refl refl refl

  pub marked : (k : ℕ) → process_state_now y ≡ free_process_state (Wait k [] None) (process_state_now y).mended → CarriesPending y Marks (InsideOf own) 1 z → (process_state_now z ≡ checking_process_state y) × Unanswered y 1 0 z
  marked k at adv = (
    there_by y y z 0 (unanswered_none y) (Wait k [] None) (process_state_now y).mended at (Store Marks (InsideOf y.by) 1) 0 refl (at_own Marks InsideOf 1 adv) Inside (rw itself refl),
    silent y y z 0 (unanswered_none y) (Wait k [] None) (process_state_now y).mended at (Store Marks (InsideOf y.by) 1) 0 refl (at_own Marks InsideOf 1 adv) refl refl,
  )

  pub dropped : process_state_now y ≡ free_process_state Leaving (process_state_now y).mended → CarriesPending y Drops (NumberOf own) 0 z → Way y 1 z (Unmarking Unlock)
  dropped at adv = moves y z Leaving (Unmarking Unlock) (Store Drops (NumberOf y.by) 0) 0 at refl (at_own Drops NumberOf 0 adv) (rw itself refl) refl refl refl refl

  pub unmarked : process_state_now y ≡ free_process_state (Unmarking Unlock) (process_state_now y).mended → CarriesPending y Marks (InsideOf own) 0 z → process_state_now z ≡ free_process_state Rest (process_state_now y).mended
  unmarked at adv = there y y z 0 (unanswered_none y) (Unmarking Unlock) (process_state_now y).mended at (Store Marks (InsideOf y.by) 0) 0 refl (at_own Marks InsideOf 0 adv) Rest (rw itself refl) refl refl

pub has_left : (x y z : SeatView) (k : ℕ) (b : Bool) → Unanswered x k 0 y → process_state_now y ≡ free_process_state (Unmarking Unlock) b → CarriesPending y Marks (InsideOf y.by) 0 z → EndsIn x (k + 1) Unlocked z
has_left x y z k b p at adv = ended x y z k p (Unmarking Unlock) b at (Store Marks (InsideOf y.by) 0) 0 refl adv Unlocked refl

pub way_begun : (x y : SeatView) (j : ℕ) (t : Place) → Way x j y t → under_place call.Lock false t ≡ true → is_idle (free_process_state t (process_state_now x).mended) ≡ false → IsFair t → lock_left x.setup.layout.procs t ≤ 256 → Begun call.Lock x.setup.layout.procs (process_state_now y)
way_begun x y j t w under busy fair few = subst (Begun call.Lock x.setup.layout.procs) (sym w.at) (under, busy, (fair, few))

span_short : (p i k : ℕ) → length (span p i k) ≤ k
span_short p i zero = omega arith
span_short p i (suc k) =
    let later = span_short p (i + 1) k in
    elim (cases_Bool (i == p)) [ inl e ↦ rw e (omega arith) | inr e ↦ rw e (omega arith) ]

pub above_short : (n p j : ℕ) → length (above n p j) ≤ n
above_short n p j = let h = span_short p j (n - j) in omega arith

pub relocked_none : (n p v : ℕ) → v ≡ 0 → lock_restart n p 0 0 v ≡ Opening
relocked_none n p v e = ap (lock_restart n p 0 0) e

pub relocked_some : (n p v : ℕ) → v ≢ 0 → lock_restart n p 0 0 v ≡ Unmarking Lock
relocked_some n p zero ne = absurd (ne refl)
relocked_some n p (suc v) ne = refl

fair_of : (n k : ℕ) (js : List ℕ) (o : Option ℕ) → first js ≡ o → length js ≤ 64 → IsFair (Wait k js o) × (lock_left n (Wait k js o) ≤ 256)
fair_of n k js None e h = (tt, omega arith)
fair_of n k [] (Some j) e h = absurd (cc)
fair_of n k (i ∷ is) (Some j) e h = ((let same : i ≡ j = cc in subst (λ (r : ℕ). has (i ∷ is) r ≡ true) same (has-first i is)), omega arith)

-- a process in the line is under way
pub wait_begun : (x y : SeatView) (k i : ℕ) (l : Bool) → x.setup.layout.procs ≤ 64 → process_state_now y ≡ waits_at x k i l → Begun call.Lock x.setup.layout.procs (process_state_now y)
wait_begun x y k i l few at = subst (Begun call.Lock x.setup.layout.procs) (sym at) (go l)
  where
    n : ℕ
    n = x.setup.layout.procs

    short : length (above x.setup.layout.procs x.by i) ≤ 64
    short = let s = above_short x.setup.layout.procs x.by i in omega arith

    go : (l : Bool) → Begun call.Lock x.setup.layout.procs (waits_at x k i l)
    go true = (refl, refl, fair_of x.setup.layout.procs k (above x.setup.layout.procs x.by i) (first (above x.setup.layout.procs x.by i)) refl short)
    go false = (refl, refl, (tt, (let s = short in omega arith)))

-- the ruin check after an entry
module _ (y z : SeatView) where
  pub check_may : (v : ℕ) → process_state_now y ≡ checking_process_state y → IsSome (moved_process_state y Gets (DataAt 0) v)
  check_may v at = subst (λ (q : ProcessState). IsSome (next_process_state y.setup.layout y.setup.limit q (access_event y.by Gets (DataAt 0) v))) (sym at) refl

  pub check_goes : (v : ℕ) (b : Bool) → (v == 1) ≡ b → process_state_now y ≡ checking_process_state y → CarriesPending y Gets (DataAt 0) v z → process_state_now z ≡ checked_process_state b
  check_goes v true e at adv = process_state_moves y z Gets (DataAt 0) v adv ∙ ap (λ (q : ProcessState). unwrap_or (next_process_state y.setup.layout y.setup.limit q (access_event y.by Gets (DataAt 0) v)) q) at ∙ rw e refl
  check_goes v false e at adv = process_state_moves y z Gets (DataAt 0) v adv ∙ ap (λ (q : ProcessState). unwrap_or (next_process_state y.setup.layout y.setup.limit q (access_event y.by Gets (DataAt 0) v)) q) at ∙ rw e refl

  says_clean : (v : ℕ) → (v == 1) ≡ false → process_state_now y ≡ checking_process_state y → (outcome_of y (Load Gets (DataAt 0)) v).answer ≡ Some Clean
  says_clean v e at = ap (λ (q : ProcessState). answer_at q Gets v) at ∙ rw e refl

  says_none : (v : ℕ) → (v == 1) ≡ true → process_state_now y ≡ checking_process_state y → (outcome_of y (Load Gets (DataAt 0)) v).answer ≡ None
  says_none v e at = ap (λ (q : ProcessState). answer_at q Gets v) at ∙ rw e refl

  never_blocked : (v : ℕ) → process_state_now y ≡ checking_process_state y → (outcome_of y (Load Gets (DataAt 0)) v).progress.blocked ≡ false
  never_blocked v at = ap (λ (q : ProcessState). blocked_by y.by q.lock q.script_state Gets v) at

  module _ (x : SeatView) (k : ℕ) (p : Unanswered x k 0 y) (v : ℕ) (at : process_state_now y ≡ checking_process_state y) (adv : CarriesPending y Gets (DataAt 0) v z) where
    next : next_of y ≡ Some (Load Gets (DataAt 0))
    next = ap (λ (q : ProcessState). access_by y.setup.limit y.by q.lock q.script_state) at

    pub comes_in : (v == 1) ≡ false → EndsIn x (k + 1) Clean z
    comes_in e = ended_by x y z k p (Load Gets (DataAt 0)) v next (check_may v at) adv Clean (says_clean v e at)

    pub turned_away : (v == 1) ≡ true → Unanswered x (k + 1) 0 z
    turned_away e = silent_by x y z k p (Load Gets (DataAt 0)) v next (check_may v at) adv (says_none v e at) (never_blocked v at)
