-- The invariant of each process's private memory in a world, under which its machine takes the definition's steps.
use Rattle.std.proofs.Common.{◌≡◌, ℕ, Bool, true, false, ◌&&◌, ◌==◌, nat_lt, [], ◌∷◌, length, Option, Some, None, IfSome, refl, sym, ◌∙◌, subst, inl, inr, arith, eqb-true, ltb-true, true≢false}
use Rattle.rmeworld.proofs.Common.{cases_Bool, Access, Store, Refusal, Data as DataAt, after_access, lock_access, IsLeastOfLock, Place, Wait, Rest, Inside, Dead, Layout, Reply, Ruined, IsLayout, Pending}
use Rattle.rmeworld.proofs.Common.{script_left, job_after_word, Script, Get as Asks, Put as Writes, Done, tail, stage_after, Call, Lock, Unlock, Consistent, Recover, Append, Close, Withdraw, Chore, IsFree, Does, Purpose, HasStep}
use Rattle.rmeworld.proofs.Common.{Checking, is_entry, script_state_of, HoldsJob, first_cause, start_refusal, is_idle_by, Doing, ProcessState, Begins, begun_from, next_process_state, only_process_state, end_place, MachineState, standing, IsLeast}
use Rattle.rmeworld.proofs.Common.{resting, IsAllowed, process_state_of, lock_moved, job_left, machine_after_step, stepped_by, access_by, next_access, process_state_after, StoresOwn, machine_state_started as started, machine_after_crash}
use Rattle.rmecore.specs.declared.refusal.Refusal.TheVariants.{Unmended, BadIndex, BadWidth}
use Rattle.rmecore.specs.Machine.{StoresOwn as IsLockOwn}
use Rattle.rmecore.proofs.Accesses.{all_allowed, stores_own}
use Rattle.redomail.specs.declared.task.Task.TheVariants as task
use Rattle.redomail.specs.Jobs.{FitsStage}
use Rattle.redomail.proofs.Feeding.{fits_first, fits_usable, fits_after, left_after}
use Rattle.rmeworld.specs.declared.call.Call.TheVariants.{Get, Put}
use Rattle.rmeworld.specs.Refused.{is_idle}
use Rattle.rmeworld.proofs.Scanned.{IsScanned, least_of_lock, scanned_after, no_step_is_idle}
use Rattle.rmeworld.proofs.Chores.{with, lock_goes, job_goes, Goes, lock_allowed, script_allowed}
use Rattle.rmeworld.proofs.Projection.{entry_inside}
use Rattle.rmeworld.proofs.WorldTallies.{at_lock_some}

-- a job of this layout
abbrev pub FitsChore : Layout → Chore → Type 0
FitsChore l IsFree = Unit {0}
FitsChore l (Does purpose job) = (job.layout ≡ l) × FitsStage l job.stage

pub record IsOrdered (s : MachineState) : Type 0 where
  pub held : HoldsJob s.script_state s.lock
  pub fits : FitsChore s.layout s.script_state
  pub scanned : IsScanned s.layout.procs s.index s.lock

pub ordered_rest : (l : Layout) (limit p : ℕ) → IsOrdered (resting l limit p)
ordered_rest l limit p = record { held = tt; fits = tt; scanned = tt }

pub ordered_crashed : (s : MachineState) → IsOrdered (machine_after_crash s)
ordered_crashed s = record { held = tt; fits = tt; scanned = tt }

-- the next step

job_left_after : (l : Layout) (job : Pending) (v : ℕ) → IsLayout l → job.layout ≡ l → FitsStage l job.stage → script_left (job_after_word job v) ≡ tail (script_left job) v
job_left_after l job v lawful is fits = left_after job.layout (subst IsLayout (sym is) lawful) job.sender job.stage v (subst (λ x. FitsStage x job.stage) (sym is) fits)

pub goes : (s : MachineState) (v : ℕ) → IsLayout s.layout → IsOrdered s → process_state_of (machine_after_step s v) ≡ process_state_after s (next_access s) v
goes s v lawful h = by s.script_state h.held h.fits
  where
    by : (e : Chore) → HoldsJob e s.lock → FitsChore s.layout e → Goes s e v
    by IsFree held fits = lock_goes s v (all_allowed (standing s))
    by (Does purpose job) held fits = job_goes s purpose job (job_after_word job v) v held (job_left_after s.layout job v lawful fits.0 fits.1)

pub allowed : (s : MachineState) → IfSome (next_access s) (IsAllowed s)
allowed s = by s.script_state
  where
    by : (e : Chore) → IfSome (next_access (with s e)) (IsAllowed (with s e))
    by IsFree = lock_allowed s (all_allowed (standing s))
    by (Does purpose job) = script_allowed s purpose job

-- a store of the lock's part is into a word of its process
lock_owns : (p : ℕ) (a : Access) → IsLockOwn p a → StoresOwn p a
lock_owns p (Store kind (DataAt i) x) own = (own.0, tt)
lock_owns p _ own = own

pub owns : (s : MachineState) → IfSome (next_access s) (StoresOwn s.index)
owns s = by s.script_state
  where
    lifted : (o : Option Access) → IfSome o (IsLockOwn s.index) → IfSome o (StoresOwn s.index)
    lifted None h = tt
    lifted (Some a) h = lock_owns s.index a h

    doing : (purpose : Purpose) (x : Script Reply) → IfSome (access_by s.limit s.index s.lock (Doing purpose x)) (StoresOwn s.index)
    doing purpose (Asks i rest) = refl
    doing purpose (Writes i x rest) = (refl, tt)
    doing purpose (Done reply) = tt

    by : (e : Chore) → IfSome (next_access (with s e)) (StoresOwn s.index)
    by IsFree = lifted (lock_access (standing s)) (stores_own s.limit s.index s.lock)
    by (Does purpose job) = doing purpose (script_left job)

-- the end of a script
end_scanned : (n p : ℕ) (purpose : Purpose) (reply : Reply) → IsScanned n p (end_place purpose reply)
end_scanned n p Checking (Ruined true) = tt
end_scanned n p _ _ = tt

pub ordered_stepped : (s : MachineState) (v : ℕ) → IsLayout s.layout → IsOrdered s → IsOrdered (machine_after_step s v)
ordered_stepped s v lawful h = by s.script_state h.held h.fits
  where
    moved : (t : Place) → IsScanned s.layout.procs s.index t → IsOrdered (lock_moved s t)
    moved t scanned = elim (cases_Bool (is_entry s.lock t)) [
      | inl e ↦ rw e (record { held = (entry_inside s.lock t e, tt); fits = (refl, fits_first s.layout lawful task.Check tt); scanned = scanned })
      | inr e ↦ rw e (record { held = tt; fits = tt; scanned = scanned })
    ]

    on : (purpose : Purpose) (job : Pending) → s.lock ≡ Inside → FitsChore s.layout (Does purpose job) → (x : Script Reply) → script_left job ≡ x → IsOrdered (job_left s purpose job x)
    on purpose job inside fits (Done reply) is = record { held = tt; fits = tt; scanned = end_scanned s.layout.procs s.index purpose reply }
    on purpose job inside fits (Asks i rest) is = record { held = (inside, subst HasStep (sym is) tt); fits = fits; scanned = h.scanned }
    on purpose job inside fits (Writes i x rest) is = record { held = (inside, subst HasStep (sym is) tt); fits = fits; scanned = h.scanned }

    by : (e : Chore) → HoldsJob e s.lock → FitsChore s.layout e → IsOrdered (stepped_by s e v)
    by IsFree held fits = moved (after_access (standing s) (lock_access (standing s)) v) (scanned_after s.layout.procs s.limit s.index s.lock v h.scanned)
    by (Does purpose job) held fits =
        let stage = fits_after s.layout lawful job.stage v fits.1 in
        let next : FitsChore s.layout (Does purpose (job_after_word job v)) = (fits.0, subst (λ l. FitsStage s.layout (stage_after l job.stage v)) (sym fits.0) stage) in
        on purpose (job_after_word job v) held.0 next (script_left (job_after_word job v)) refl

-- the next step is one of the least process
pub least : (s : MachineState) → IsOrdered s → IfSome (next_access s) (IsLeast s)
least s h = by s.script_state
  where
    lifted : (o : Option Access) → IfSome o (IsLeastOfLock (standing s)) → IfSome o (IsLeast (with s IsFree))
    lifted None h = tt
    lifted (Some a) h = λ word v some. h word v (at_lock_some s.layout s.index s.lock s.mended s.barred _ some)

    doing : (e : Chore) (purpose : Purpose) (x : Script Reply) → IfSome (access_by s.limit s.index s.lock (Doing purpose x)) (IsLeast (with s e))
    doing e purpose (Asks i rest) = λ word v some. omega arith
    doing e purpose (Writes i x rest) = λ word v some. omega arith
    doing e purpose (Done reply) = tt

    by : (e : Chore) → IfSome (next_access (with s e)) (IsLeast (with s e))
    by IsFree = lifted (lock_access (standing s)) (least_of_lock (standing s) h.scanned)
    by (Does purpose job) = doing (Does purpose job) purpose (script_left job)

-- if a call is under way there is a next step
pub has_step : (s : MachineState) → IsOrdered s → is_idle (process_state_of s) ≡ false → next_access s ≡ None → ⊥
has_step s h = by s.script_state h.held
  where
    doing : (purpose : Purpose) (x : Script Reply) → HasStep x → access_by s.limit s.index s.lock (Doing purpose x) ≡ None → ⊥
    doing purpose (Asks i rest) has none = cc
    doing purpose (Writes i x rest) has none = cc
    doing purpose (Done reply) has none = has

    by : (e : Chore) → HoldsJob e s.lock → is_idle_by s.lock (script_state_of e) ≡ false → access_by s.limit s.index s.lock (script_state_of e) ≡ None → ⊥
    by IsFree held busy none = true≢false (sym (no_step_is_idle s.layout.procs s.limit s.index s.lock h.scanned none) ∙ busy)
    by (Does purpose job) held busy none = doing purpose (script_left job) held.1 none

-- a start that is not refused
fits_only : (b : Bool) (x : ProcessState) → b ≡ true → only_process_state b x ≡ Some x
fits_only true x e = refl
fits_only false x e = cc

unless_cause : (b : Bool) (r : Refusal) → first_cause ((b, r) ∷ []) ≡ None → b ≡ true
unless_cause true r h = refl
unless_cause false r h = cc

both_causes : (b c : Bool) (q r : Refusal) → first_cause ((b, q) ∷ (c, r) ∷ []) ≡ None → (b ≡ true) × (c ≡ true)
both_causes true c q r h = (refl, unless_cause c r h)
both_causes false c q r h = cc

refused : {r : Refusal} → Some r ≡ None → ⊥
refused h = cc

module _ (l : Layout) (limit p : ℕ) (lawful : IsLayout l) (barred : Bool) where
  abbrev at : Place → Bool → MachineState
  at lock mended = record { layout = l; limit = limit; index = p; lock = lock; mended = mended; barred = barred; script_state = IsFree }

  abbrev Starts : MachineState → Call → Type 0
  Starts s call = (begun_from l p s.lock s.mended (script_state_of s.script_state) call ≡ Some (process_state_of (started s call))) × IsOrdered (started s call)

  idle : {s : MachineState} → HoldsJob s.script_state s.lock → FitsChore s.layout s.script_state → IsScanned s.layout.procs s.index s.lock → IsOrdered s
  idle held fits scanned = record { held = held; fits = fits; scanned = scanned }

  starts : (lock : Place) (mended : Bool) (call : Call) → start_refusal l (process_state_of (at lock mended)) call ≡ None → Starts (at lock mended) call
  starts Rest b Lock h = (refl, idle tt tt tt)
  starts Dead b Lock h = (refl, idle tt tt tt)
  starts Rest b Recover h = (refl, idle tt tt tt)
  starts Dead b Recover h = (refl, idle tt tt tt)
  starts (Wait k unpassed looked) b Withdraw h = (refl, idle tt tt tt)
  starts Inside true Unlock h = (refl, idle tt tt tt)
  starts Inside false Unlock h = (refl, idle (refl, tt) (refl, fits_first l lawful task.Ruin tt) tt)
  starts Inside false Consistent h = (refl, idle (refl, tt) (refl, fits_usable l lawful) tt)
  starts Inside b (Append seq value) h =
      let both = both_causes b (length value == l.width) Unmended BadWidth h in
      let may : (b && (length value == l.width)) ≡ true = rw (both.0, both.1) refl in
      (fits_only _ _ may, idle (refl, tt) (refl, fits_first l lawful (task.Append seq value) (eqb-true _ _ both.1)) tt)
  starts Inside b Close h = (fits_only b _ (unless_cause b Unmended h), idle (refl, tt) (refl, fits_first l lawful task.Close tt) tt)
  starts Inside b (Get i) h = let less = unless_cause (nat_lt i 4) BadIndex h in (fits_only _ _ less, idle (refl, tt) (refl, fits_first l lawful (task.BoardGet i) (ltb-true i 4 less)) tt)
  starts Inside b (Put i v) h = let less = unless_cause (nat_lt i 4) BadIndex h in (fits_only _ _ less, idle (refl, tt) (refl, fits_first l lawful (task.BoardPut i v) (ltb-true i 4 less)) tt)
  starts _ _ Lock h = absurd (refused h)
  starts _ _ Recover h = absurd (refused h)
  starts _ _ Withdraw h = absurd (refused h)
  starts _ _ Unlock h = absurd (refused h)
  starts _ _ Consistent h = absurd (refused h)
  starts _ _ (Append seq value) h = absurd (refused h)
  starts _ _ Close h = absurd (refused h)
  starts _ _ (Get i) h = absurd (refused h)
  starts _ _ (Put i v) h = absurd (refused h)

-- a process with a job is inside, and starts nothing
busy : (l : Layout) (lock : Place) (b c : Bool) (purpose : Purpose) (e : Script Reply) (call : Call) → lock ≡ Inside → start_refusal l (record { lock = lock; mended = b; barred = c; script_state = Doing purpose e }) call ≡ None → ⊥
busy l lock b c purpose e Withdraw inside h = let no : start_refusal l (record { lock = Inside; mended = b; barred = c; script_state = Doing purpose e }) Withdraw ≡ None = subst (λ x. start_refusal l (record { lock = x; mended = b; barred = c; script_state = Doing purpose e }) Withdraw ≡ None) inside h in cc
busy l lock b c purpose e _ inside h = refused h

pub begins :
    (s : MachineState) (call : Call) → IsLayout s.layout → IsOrdered s → start_refusal s.layout (process_state_of s) call ≡ None
    → (next_process_state s.layout s.limit (process_state_of s) (Begins s.index call) ≡ Some (process_state_of (started s call))) × IsOrdered (started s call)
begins s call lawful h may = by s.script_state refl h.held may
  where
    by : (e : Chore) → s.script_state ≡ e → HoldsJob e s.lock → start_refusal s.layout (record { lock = s.lock; mended = s.mended; barred = s.barred; script_state = script_state_of e }) call ≡ None
        → (next_process_state s.layout s.limit (process_state_of s) (Begins s.index call) ≡ Some (process_state_of (started s call))) × IsOrdered (started s call)
    by IsFree is held may =
        let free : record s { script_state = IsFree } ≡ s = λ i. record s { script_state = sym is i } in
        subst (λ (t : MachineState). (next_process_state t.layout t.limit (process_state_of t) (Begins t.index call) ≡ Some (process_state_of (started t call))) × IsOrdered (started t call)) free
        (starts s.layout s.limit s.index lawful s.barred s.lock s.mended call may)
    by (Does purpose job) is held may = absurd (busy s.layout s.lock s.mended s.barred purpose (script_left job) call held.0 may)
