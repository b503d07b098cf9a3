-- A process's machine does what the definition says, in every process state.
use Rattle.std.proofs.Common.{◌≡◌, ℕ, Bool, true, false, ◌&&◌, ◌==◌, if◌then◌else◌, [], ◌∷◌, Option, Some, None, IsSome, IfSome, unwrap_or, refl, sym, ap, ◌∙◌, subst, eq-eqb}
use Rattle.rmeworld.proofs.Common.{Access, Progress, Refusal, Standing, kind_of, word_of, progress, after_access, lock_access, carried_value, Place, next, Inside, Layout, Reply, Pending, script_left}
use Rattle.rmeworld.proofs.Common.{pending_task, Script, Get as Asks, Put as Writes, Done, tail, script, Call, Lock, Unlock, Consistent, Append, Close, Chore, IsFree, Does, Purpose, Checking}
use Rattle.rmeworld.proofs.Common.{by_lock, is_entry, script_state_of, HasStep, HoldsJob, first_cause, start_refusal, ScriptState, Free, Doing, ProcessState, process_after_script, script_state_entered, at_lock, begun_from, moved_by}
use Rattle.rmeworld.proofs.Common.{only_process_state, mended_entered, MachineState, standing, outcome, IsAllowed, process_state_of, lock_moved, job_left, machine_after_step, stepped_by, access_by, next_access, after_at, process_state_after}
use Rattle.rmeworld.specs.declared.call.Call.TheVariants.{Get, Put}
use Rattle.redomail.specs.declared.task.Task.TheVariants as task
use Rattle.rmeworld.proofs.Entries.{stays}
use Rattle.rmecore.specs.Machine.{IsAllowed as IsLockAllowed}

-- the process with this script state
abbrev pub with : MachineState → Chore → MachineState
with s e = record s { script_state = e }

abbrev pub Goes : MachineState → Chore → ℕ → Type 0
Goes s e v = process_state_of (stepped_by s e v) ≡ process_state_after (with s e) (next_access (with s e)) v

checks : (l : Layout) (p : ℕ) (b : Bool) → script_state_of (if b then Does Checking (pending_task l p task.Check) else IsFree) ≡ (if b then Doing Checking (script l p task.Check) else Free)
checks l p true = refl
checks l p false = refl

at_lock_goes : (s : MachineState) (o : Option Place) → IsSome o
    → unwrap_or (at_lock s.layout s.index s.lock s.mended s.barred o) (process_state_of (with s IsFree)) ≡ record { lock = unwrap_or o s.lock; mended = mended_entered s.mended s.lock (unwrap_or o s.lock); barred = s.barred; script_state = script_state_entered s.layout s.index s.lock (unwrap_or o s.lock) }
at_lock_goes s None some = cc
at_lock_goes s (Some t) some = refl

-- a step of the lock's part
pub lock_goes : (s : MachineState) (v : ℕ) → IfSome (lock_access (standing s)) (IsLockAllowed (standing s)) → Goes s IsFree v
lock_goes s v h = by (lock_access (standing s)) h
  where
    by : (o : Option Access) → IfSome o (IsLockAllowed (standing s)) → process_state_of (lock_moved s (after_access (standing s) o v)) ≡ process_state_after (with s IsFree) o v
    by None h =
        let calm = stays s.lock in
        λ i. record { lock = s.lock; mended = sym (calm.1 s.mended) i; barred = s.barred; script_state = (ap (λ b. script_state_of (if b then Does Checking (pending_task s.layout s.index task.Check) else IsFree)) (sym calm.0)) i }
    by (Some a) h =
        let t : Place = after_access (standing s) (Some a) v in
        (λ i. record { lock = t; mended = mended_entered s.mended s.lock t; barred = s.barred; script_state = checks s.layout s.index (is_entry s.lock t) i })
        ∙ sym (at_lock_goes s (next s.layout.procs s.limit s.index s.lock (kind_of a) (word_of a) (carried_value a v)) (h v))

-- with this rest of a script, or its reply
left_goes : (s : MachineState) (purpose : Purpose) (job : Pending) (e : Script Reply) → script_left job ≡ e → s.lock ≡ Inside → process_state_of (job_left s purpose job e) ≡ process_after_script s.mended s.barred purpose e
left_goes s purpose job (Done reply) is f = refl
left_goes s purpose job (Asks i rest) is f = λ k. record { lock = f k; mended = s.mended; barred = s.barred; script_state = Doing purpose (is k) }
left_goes s purpose job (Writes i v rest) is f = λ k. record { lock = f k; mended = s.mended; barred = s.barred; script_state = Doing purpose (is k) }

-- a step of a script
pub job_goes : (s : MachineState) (purpose : Purpose) (job job' : Pending) (v : ℕ) → HoldsJob (Does purpose job) s.lock → script_left job' ≡ tail (script_left job) v
    → process_state_of (job_left s purpose job' (script_left job')) ≡ process_state_after (with s (Does purpose job)) (next_access (with s (Does purpose job))) v
job_goes s purpose job job' v h e = left_goes s purpose job' (script_left job') refl h.0 ∙ ap (process_after_script s.mended s.barred purpose) e ∙ by (script_left job) h.1
  where
    by : (x : Script Reply) → HasStep x → process_after_script s.mended s.barred purpose (tail x v) ≡ after_at s.layout s.limit s.index (record { lock = s.lock; mended = s.mended; barred = s.barred; script_state = Doing purpose x }) (access_by s.limit s.index s.lock (Doing purpose x)) v
    by (Asks i rest) h = let own : (i == i) ≡ true = eq-eqb i i refl in rw own refl
    by (Writes i x rest) h =
        let own : (i == i) ≡ true = eq-eqb i i refl in
        let same : (x == x) ≡ true = eq-eqb x x refl in
        rw (own, same) refl
    by (Done reply) h = absurd h

at_lock_some : (l : Layout) (p : ℕ) (s : Place) (b c : Bool) (o : Option Place) → IsSome o → IsSome (at_lock l p s b c o)
at_lock_some l p s b c None some = some
at_lock_some l p s b c (Some t) some = refl

-- the lock's step is allowed, whatever a load reads
pub lock_allowed : (s : MachineState) → IfSome (lock_access (standing s)) (IsLockAllowed (standing s)) → IfSome (next_access (with s IsFree)) (IsAllowed (with s IsFree))
lock_allowed s h = by (lock_access (standing s)) h
  where
    by : (o : Option Access) → IfSome o (IsLockAllowed (standing s)) → IfSome o (IsAllowed (with s IsFree))
    by None h = tt
    by (Some a) h = λ v. at_lock_some s.layout s.index s.lock s.mended s.barred _ (h v)

-- and so is a script's
pub doing_allowed : (s : MachineState) (purpose : Purpose) (x : Script Reply) → IfSome (access_by s.limit s.index s.lock (Doing purpose x)) (λ a. (v : ℕ) → IsSome (moved_by s.layout s.limit s.index s.lock s.mended s.barred (Doing purpose x) (kind_of a) (word_of a) (carried_value a v)))
doing_allowed s purpose (Asks i rest) = λ v. let own : (i == i) ≡ true = eq-eqb i i refl in rw own refl
doing_allowed s purpose (Writes i x rest) = λ v.
    let own : (i == i) ≡ true = eq-eqb i i refl in
    let same : (x == x) ≡ true = eq-eqb x x refl in
    rw (own, same) refl
doing_allowed s purpose (Done reply) = tt

pub script_allowed : (s : MachineState) (purpose : Purpose) (job : Pending) → IfSome (next_access (with s (Does purpose job))) (IsAllowed (with s (Does purpose job)))
script_allowed s purpose job = doing_allowed s purpose (script_left job)

-- the effects of a step of the lock's part
pub lock_outcome : (s : MachineState) (v : ℕ)
    → outcome (with s IsFree) (next_access (with s IsFree)) v ≡ record { progress = progress (standing s) (lock_access (standing s)) v; answer = by_lock s.barred (progress (standing s) (lock_access (standing s)) v).done }
lock_outcome s v = by (lock_access (standing s))
  where
    by : (o : Option Access) → outcome (with s IsFree) o v ≡ record { progress = progress (standing s) o v; answer = by_lock s.barred (progress (standing s) o v).done }
    by None = refl
    by (Some a) = refl

-- the lock's machine as the process has it
pub standing_is : (s : MachineState) (t : Standing) → t.procs ≡ s.layout.procs → t.limit ≡ s.limit → t.index ≡ s.index → t.place ≡ s.lock → standing s ≡ t
standing_is s t a b c d = λ i. record { procs = sym a i; limit = sym b i; index = sym c i; place = sym d i }

-- a step of the lock's part as a process takes it: the process is seen as now, and its lock's part is t
module _ {seen now : MachineState} (view : seen ≡ now) (t : Standing) (procs : t.procs ≡ seen.layout.procs) (limited : t.limit ≡ seen.limit) (index : t.index ≡ seen.index) (place : t.place ≡ seen.lock) (free : now.script_state ≡ IsFree) (v : ℕ) where
  is : standing now ≡ t
  is = standing_is now t (procs ∙ ap (λ (s : MachineState). s.layout.procs) view) (limited ∙ ap (λ (s : MachineState). s.limit) view) (index ∙ ap (λ (s : MachineState). s.index) view) (place ∙ ap (λ (s : MachineState). s.lock) view)

  may : IfSome (lock_access t) (IsLockAllowed t) → IfSome (lock_access (standing now)) (IsLockAllowed (standing now))
  may h = subst (λ (x : Standing). IfSome (lock_access x) (IsLockAllowed x)) (sym is) h

  pub part_allowed : IfSome (lock_access t) (IsLockAllowed t) → IfSome (next_access now) (IsAllowed now)
  part_allowed h = subst (λ e. IfSome (next_access (with now e)) (IsAllowed (with now e))) (sym free) (lock_allowed now (may h))

  pub part_progress : (p : Progress) → p ≡ progress t (lock_access t) v → p ≡ progress (standing now) (lock_access (standing now)) v
  part_progress p e = e ∙ ap (λ (x : Standing). progress x (lock_access x) v) (sym is)

  pub part_moved : (lock : Standing) (mended checked : Bool) (script_state : Chore) → lock ≡ record t { place = after_access t (lock_access t) v } → mended ≡ mended_entered seen.mended seen.lock lock.place → checked ≡ is_entry seen.lock lock.place
      → script_state ≡ (if checked then Does Checking (pending_task seen.layout seen.index task.Check) else IsFree)
      → record { layout = seen.layout; limit = lock.limit; index = seen.index; lock = lock.place; mended = mended; barred = seen.barred; script_state = script_state } ≡ machine_after_step now v
  part_moved lock mended checked script_state moved m c e =
      let to : Place = after_access (standing now) (lock_access (standing now)) v in
      let there : lock.place ≡ to = ap (λ (x : Standing). x.place) moved ∙ ap (λ (x : Standing). after_access x (lock_access x) v) (sym is) in
      let limits : lock.limit ≡ now.limit = ap (λ (x : Standing). x.limit) moved ∙ ap (λ (x : Standing). x.limit) (sym is) in
      let mends : mended ≡ mended_entered now.mended now.lock to = m ∙ (λ i. mended_entered (view i).mended (view i).lock (there i)) in
      let checks_now : checked ≡ is_entry now.lock to = c ∙ (λ i. is_entry (view i).lock (there i)) in
      let does : script_state ≡ (if is_entry now.lock to then Does Checking (pending_task now.layout now.index task.Check) else IsFree) = e ∙ (λ i. if checks_now i then Does Checking (pending_task (view i).layout (view i).index task.Check) else IsFree) in
      (λ i. record { layout = (view i).layout; limit = limits i; index = (view i).index; lock = there i; mended = mends i; barred = (view i).barred; script_state = does i }) ∙ ap (λ x. stepped_by now x v) (sym free)

  pub part_goes : IfSome (lock_access t) (IsLockAllowed t) → process_state_of (machine_after_step now v) ≡ process_state_after now (next_access now) v
  part_goes h = subst (λ e. process_state_of (stepped_by now e v) ≡ process_state_after (with now e) (next_access (with now e)) v) (sym free) (lock_goes now v (may h))

failing : (test : Bool) (r e : Refusal) (process_state : ProcessState) → first_cause ((test, r) ∷ []) ≡ Some e → only_process_state test process_state ≡ None
failing true r e process_state h = cc
failing false r e process_state h = refl

failing_both : (b test : Bool) (q r e : Refusal) (process_state : ProcessState) → first_cause ((b, q) ∷ (test, r) ∷ []) ≡ Some e → only_process_state (b && test) process_state ≡ None
failing_both true test q r e process_state h = failing test r e process_state h
failing_both false true q r e process_state h = refl
failing_both false false q r e process_state h = refl

-- a start that is refused is not allowed by the definition
pub refuses : (l : Layout) (p : ℕ) (s : Place) (b c : Bool) (e : ScriptState) (call : Call) (r : Refusal)
    → start_refusal l (record { lock = s; mended = b; barred = c; script_state = e }) call ≡ Some r → begun_from l p s b e call ≡ None
refuses l p s b c (Doing purpose script_left) call r h = refl
refuses l p Inside b c Free (Append seq value) r h = failing_both b _ _ _ _ _ h
refuses l p Inside b c Free Close r h = failing b _ _ _ h
refuses l p Inside b c Free (Get i) r h = failing _ _ _ _ h
refuses l p Inside b c Free (Put i v) r h = failing _ _ _ _ h
refuses l p Inside false c Free Unlock r h = cc
refuses l p Inside false c Free Consistent r h = cc
refuses l p s true c Free Lock r h = cc
refuses l p s false c Free Lock r h = cc
refuses l p _ _ c _ _ r h = cc
