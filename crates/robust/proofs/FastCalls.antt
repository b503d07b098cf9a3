-- The fast path, for a member and its plan.
use Rattle.std.proofs.Common.{◌≡◌, ℕ, ◌+◌, ◌-◌, ◌^◌, ◌≤◌, ◌==◌, min, Bool, true, false, List, [], ◌∷◌, length, None, Some, IsSome, if◌then◌else◌, unwrap_or, refl, sym, ap, ◌∙◌, subst, arith, eq-eqb}
use Rattle.robust.proofs.CallCommon.{Place, Inside, Wait, Leaving, Rest, Layout, Answer, Unlocked, Call, Append, Unlock, Begins, Free, ProcessState, next_process_state, MachineState, machine_after_step, TakenStep, Setup}
use Rattle.robust.proofs.CallCommon.{Going, Ran, Askings, NeverCrashes, AnsweredIn, IsSeatView, process_state_now, SeatView, Seated, began, IsRunBy, many_more, served_of, append_begun, free_process_state, IsSame, Unanswered, EndsIn}
use Rattle.rmecore.specs.declared.stage.Stage.{Stage}
use Rattle.rmecore.specs.Machine.{place_of}
use Rattle.redomail.specs.declared.task.Task.TheVariants.{Check}
use Rattle.redomail.specs.Left.{pending_task}
use Rattle.rmeworld.specs.declared.purpose.Purpose.TheVariants.{Checking}
use Rattle.rmeworld.specs.ScriptStates.{script_state_of}
use Rattle.table_runs.proofs.Running.{process_state_begun}
use Rattle.std.proofs.lemmas.Bool.{eqb-true}
use Rattle.rmecore.specs.declared.refusal.Refusal.TheVariants.{BadWidth}
use Rattle.rmeworld.specs.Refused.{start_refusal}
use Rattle.crash_plans.proofs.Counted.{many_is}
use Rattle.rmeworld.specs.declared.script_state.ScriptState.{ScriptState as Chore}
use Rattle.rmeworld.specs.declared.script_state.ScriptState.TheVariants.{Free as IsFree, Doing as Does}
use Rattle.rmeworld.specs.MachineState.{process_state_of as standing_at}
use Rattle.robust.proofs.FreeSteps.{seat}

module _ (x z : SeatView) (k s0 s1 : ℕ) (a0 a1 : Askings) (small : s0 ≤ 2 ^ 64 - 1) (steps : s1 ≡ min (s0 + k) (2 ^ 64 - 1)) (asked : NeverCrashes k a0 a1) where
  counted : (mine : List TakenStep) → length mine ≡ k → s1 ≡ many_more (length mine) s0
  counted mine long = steps ∙ sym (many_is k s0 small) ∙ ap (λ (n : ℕ). many_more n s0) (sym long)

  never_crashes : (mine : List TakenStep) → length mine ≡ k → NeverCrashes (length mine) a0 a1
  never_crashes mine long = subst (λ (n : ℕ). NeverCrashes n a0 a1) (sym long) asked

  pub fast_going : Unanswered x k 0 z → (mine : List TakenStep) × Going (seat x s0) mine (seat z s1) × NeverCrashes (length mine) a0 a1
  fast_going p = (p.mine, record { takes = p.takes; answers = p.answers; blocked = p.blocked; steps = counted p.mine p.long }, never_crashes p.mine p.long)

  pub fast_blocked : Unanswered x k 1 z → (mine : List TakenStep) × Ran (seat x s0) None (seat z s1) mine × NeverCrashes (length mine) a0 a1
  fast_blocked p = (p.mine, record { takes = p.takes; answers = p.answers; blocked = p.blocked; steps = counted p.mine p.long }, never_crashes p.mine p.long)

  pub fast_answered : (a : Answer) → EndsIn x k a z → (mine : List TakenStep) × Ran (seat x s0) (Some a) (seat z s1) mine × NeverCrashes (length mine) a0 a1
  fast_answered a p = (p.mine, record { takes = p.takes; answers = p.answers; blocked = p.blocked; steps = counted p.mine p.long }, never_crashes p.mine p.long)

-- the machine whose state is set to what the fast path has reached
pub run_by_stood : (x z : SeatView) (s u : MachineState) (t : Place) (b : Bool) → IsRunBy x s → IsSame x z → (process_state_now x).barred ≡ false → s.script_state ≡ IsFree → process_state_now z ≡ free_process_state t b → u ≡ record s { lock = t; mended = b } → IsRunBy z u
run_by_stood x z s u t b r same barred free there is =
    let open_to : s.barred ≡ false = ap (λ (q : ProcessState). q.barred) r.process_state ∙ barred in
    record {
      layout = ap (λ (v : MachineState). v.layout) is ∙ r.layout ∙ ap (λ (v : Setup). v.layout) (sym same.0);
      limit = ap (λ (v : MachineState). v.limit) is ∙ r.limit ∙ ap (λ (v : Setup). v.limit) (sym same.0);
      index = ap (λ (v : MachineState). v.index) is ∙ r.index ∙ sym same.1;
      process_state = ap standing_at is ∙ (λ i. record { lock = t; mended = b; barred = open_to i; script_state = script_state_of (free i) }) ∙ sym there;
    }

pub run_by_stage : (x z : SeatView) (s u : MachineState) (t : Stage) → IsRunBy x s → IsSame x z → (process_state_now x).barred ≡ false → s.script_state ≡ IsFree → process_state_now z ≡ free_process_state (place_of x.setup.layout.procs x.by t) (process_state_now x).mended → u ≡ record s { lock = place_of s.layout.procs s.index t } → IsRunBy z u
run_by_stage x z s u t r same barred free there is =
    let here : process_state_now z ≡ free_process_state (place_of s.layout.procs s.index t) s.mended = there ∙ (λ i. free_process_state (place_of (sym r.layout i).procs (sym r.index i) t) (sym r.process_state i).mended) in
    run_by_stood x z s u (place_of s.layout.procs s.index t) s.mended r same barred free here is

-- a process that found the lock ruined
module _ (l : Layout) (limit p : ℕ) (b : Bool) where
  abbrev pub last_wait : MachineState
  last_wait = record { layout = l; limit = limit; index = p; lock = Wait 1 [] None; mended = b; barred = false; script_state = IsFree }

  abbrev pub asks_ruin : MachineState
  asks_ruin = record { layout = l; limit = limit; index = p; lock = Inside; mended = true; barred = false; script_state = Does Checking (pending_task l p Check) }

  abbrev pub goes_out : MachineState
  goes_out = record { layout = l; limit = limit; index = p; lock = Leaving; mended = true; barred = true; script_state = IsFree }

  pub comes_there : machine_after_step (record { layout = l; limit = limit; index = p; lock = Wait 1 [] None; mended = b; barred = false; script_state = IsFree }) 1 ≡ record { layout = l; limit = limit; index = p; lock = Inside; mended = true; barred = false; script_state = Does Checking (pending_task l p Check) }
  comes_there = let own : (p == p) ≡ true = eq-eqb p p refl in rw own refl

  pub goes_there : machine_after_step (record { layout = l; limit = limit; index = p; lock = Inside; mended = true; barred = false; script_state = Does Checking (pending_task l p Check) }) 1 ≡ record { layout = l; limit = limit; index = p; lock = Leaving; mended = true; barred = true; script_state = IsFree }
  goes_there = refl

-- an unlock of a holder with nothing to mend
pub free_of : (e : Chore) → script_state_of e ≡ Free → e ≡ IsFree
free_of IsFree e = refl
free_of (Does purpose job) e = cc

module _ (x : SeatView) (at : process_state_now x ≡ free_process_state Inside true) where
  pub may_unlock : IsSome (next_process_state x.setup.layout x.setup.limit (process_state_now x) (Begins x.by Unlock))
  may_unlock = subst (λ (q : ProcessState). IsSome (next_process_state x.setup.layout x.setup.limit q (Begins x.by Unlock))) (sym at) refl

  pub unlock_begun : x.start ≡ None → process_state_now (record x { start = Some Unlock }) ≡ free_process_state Leaving true
  unlock_begun none = process_state_begun x Unlock none ∙ ap (λ (q : ProcessState). unwrap_or (next_process_state x.setup.layout x.setup.limit q (Begins x.by Unlock)) q) at

  pub run_by_left : (y z : SeatView) (s t : MachineState) → IsRunBy x s → y ≡ record x { start = Some Unlock } → IsSame y z → process_state_now z ≡ free_process_state Rest true → t ≡ record s { lock = Rest } → IsRunBy z t
  run_by_left y z s t r pending_task same there is =
      let was : standing_at s ≡ free_process_state Inside true = r.process_state ∙ at in
      record {
        layout = ap (λ (u : MachineState). u.layout) is ∙ r.layout ∙ ap (λ (p : SeatView). p.setup.layout) (sym pending_task) ∙ ap (λ (u : Setup). u.layout) (sym same.0);
        limit = ap (λ (u : MachineState). u.limit) is ∙ r.limit ∙ ap (λ (p : SeatView). p.setup.limit) (sym pending_task) ∙ ap (λ (u : Setup). u.limit) (sym same.0);
        index = ap (λ (u : MachineState). u.index) is ∙ r.index ∙ ap (λ (p : SeatView). p.by) (sym pending_task) ∙ sym same.1;
        process_state = ap standing_at is ∙ (λ i. record { lock = Rest; mended = (was i).mended; barred = (was i).barred; script_state = (was i).script_state }) ∙ sym there;
      }

pub unlock_served : (x : Seated) (z : SeatView) (a0 a1 : Askings) → IsSeatView (began x Unlock).seat_view → EndsIn (began x Unlock).seat_view 2 Unlocked z → NeverCrashes 3 a0 a1
    → AnsweredIn (began x Unlock) Unlock (Unlocked ∷ []) 0 (record { seat_view = z; steps = 2 }) a0 a1
unlock_served x z a0 a1 seat_view p asked =
    let two : many_more 2 0 ≡ 2 = omega arith in
    let three : length p.mine + 1 ≡ 3 = (let k = p.long in omega arith) in (
      p.mine,
      served_of (began x Unlock) (record { seat_view = z; steps = 2 }) Unlock (Unlocked ∷ []) 0 p.mine seat_view refl p.takes p.answers p.blocked (sym (ap (λ (n : ℕ). many_more n 0) p.long ∙ two)) (λ none. let l : length p.mine ≡ 0 = ap length none in let k = p.long in omega arith),
      subst (λ (n : ℕ). NeverCrashes n a0 a1) (sym three) asked,
    )

-- the start of an append by a holder with nothing to mend
module _ (x : SeatView) (seq : ℕ) (value : List ℕ) (at : process_state_now x ≡ free_process_state Inside true) (accepted : start_refusal x.setup.layout (process_state_now x) (Append seq value) ≡ None) where
  wide_by : (b : Bool) → (if b then None else Some BadWidth) ≡ None → b ≡ true
  wide_by true h = refl
  wide_by false h = absurd (cc)

  wide_enough : (length value == x.setup.layout.width) ≡ true
  wide_enough = wide_by (length value == x.setup.layout.width) (subst (λ (q : ProcessState). start_refusal x.setup.layout q (Append seq value) ≡ None) at accepted)

  pub is_wide : length value ≡ x.setup.layout.width
  is_wide = eqb-true (length value) x.setup.layout.width wide_enough

  pub may_append : IsSome (next_process_state x.setup.layout x.setup.limit (process_state_now x) (Begins x.by (Append seq value)))
  may_append = subst (λ (q : ProcessState). IsSome (next_process_state x.setup.layout x.setup.limit q (Begins x.by (Append seq value)))) (sym at) (rw wide_enough refl)

  pub append_starts : x.start ≡ None → process_state_now (record x { start = Some (Append seq value) }) ≡ append_begun x seq value
  append_starts none = process_state_begun x (Append seq value) none ∙ ap (λ (q : ProcessState). unwrap_or (next_process_state x.setup.layout x.setup.limit q (Begins x.by (Append seq value))) q) at ∙ rw wide_enough refl

-- the machine's state is the same as before
pub run_by_back : (x y z : SeatView) (s : MachineState) (call : Call) → IsRunBy x s → y ≡ record x { start = Some call } → IsSame y z → process_state_now x ≡ free_process_state Inside true → process_state_now z ≡ free_process_state Inside true → IsRunBy z s
run_by_back x y z s call r pending_task same was there = record {
  layout = r.layout ∙ ap (λ (p : SeatView). p.setup.layout) (sym pending_task) ∙ ap (λ (u : Setup). u.layout) (sym same.0);
  limit = r.limit ∙ ap (λ (p : SeatView). p.setup.limit) (sym pending_task) ∙ ap (λ (u : Setup). u.limit) (sym same.0);
  index = r.index ∙ ap (λ (p : SeatView). p.by) (sym pending_task) ∙ sym same.1;
  process_state = r.process_state ∙ was ∙ sym there;
}
