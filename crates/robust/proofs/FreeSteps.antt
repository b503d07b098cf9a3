-- Steps in a row, in terms of views alone.
use Rattle.std.proofs.Common.{◌≡◌, ℕ, suc, ◌+◌, Bool, false, if◌then◌else◌, List, [], ◌∷◌, ◌++◌, length, Option, Some, None, IsSome, IfSome, refl, sym, ap, ◌∙◌, subst, arith, length-append}
use Rattle.robust.proofs.AccessCommon.{Access, answer, kind_of, word_of, carried_value, access, is_blocked, after_access, next_access as lock_access, Place, Check, Checking, answer_at, by_lock, blocked_by}
use Rattle.robust.proofs.AccessCommon.{ProcessState, mended_entered, MachineState, machine_after_step, standing, IsAllowed, lock_moved, TakenStep, Setup, process_state_now, SeatView, moved_process_state, CarriesPending, Seated, IsRunBy, TakesStep, next_of}
use Rattle.robust.proofs.AccessCommon.{outcome_of, many_more, events_of_run, process_state_past, process_state_of, next_same, may_advance, run_by_step, more, goes_on, ran_answered, length_snoc, takes_sizes, takes_process_state, free_process_state}
use Rattle.robust.proofs.AccessCommon.{IsSame, Unanswered, EndsIn, Way}
use Rattle.rmecore.specs.Simulated.{one_more}
use Rattle.rmeworld.specs.declared.answer.Answer.{Answer}
use Rattle.table_runs.specs.Calls.{answers_from, Going, Turning, TakesSteps, answers_of, blocked_of}
use Rattle.redomail.specs.Left.{pending_task}
use Rattle.rmeworld.specs.Entered.{is_entry}
use Rattle.rmeworld.specs.ScriptStates.{script_state_of}
use Rattle.table_runs.proofs.Turned.{answers-append, later_blocked}
use Rattle.rmecore.proofs.Accesses.{all_allowed}
use Rattle.rmeworld.specs.declared.script_state.ScriptState.TheVariants.{Free as IsFree, Doing as Does}
use Rattle.rmeworld.specs.MachineState.{process_state_of as standing_at, next_access}
use Rattle.rmeworld.proofs.Chores.{lock_goes, lock_allowed}

abbrev pub seat : SeatView → ℕ → Seated
seat x k = record { seat_view = x; steps = k }

-- the state of the machine at a view's place with no script under way
abbrev pub machine_state_of : SeatView → Place → Bool → MachineState
machine_state_of x t b = record { layout = x.setup.layout; limit = x.setup.limit; index = x.by; lock = t; mended = b; barred = false; script_state = IsFree }

pub run_by_free : (x : SeatView) (t : Place) (b : Bool) → process_state_now x ≡ free_process_state t b → IsRunBy x (machine_state_of x t b)
run_by_free x t b e = record { layout = refl; limit = refl; index = refl; process_state = sym e }

pub may_free : (x : SeatView) (t : Place) (b : Bool) (a : Access) → process_state_now x ≡ free_process_state t b → access x.setup.limit x.by t ≡ Some a → (v : ℕ) → IsSome (moved_process_state x (kind_of a) (word_of a) (carried_value a v))
may_free x t b a e n v =
    let s = machine_state_of x t b in
    let all : IfSome (next_access s) (IsAllowed s) = lock_allowed s (all_allowed (standing s)) in
    may_advance x s a (run_by_free x t b e) n (subst (λ (o : Option Access). IfSome o (IsAllowed s)) n all) v

pub unanswered_none : (x : SeatView) → Unanswered x 0 0 x
unanswered_none x = record { mine = []; long = refl; takes = refl; answers = refl; blocked = refl }

-- one more step, after some without an answer
module _ (x y z : SeatView) (k : ℕ) (p : Unanswered x k 0 y) (a : Access) (v : ℕ) (next : next_of y ≡ Some a) (may : IsSome (moved_process_state y (kind_of a) (word_of a) (carried_value a v))) (adv : CarriesPending y (kind_of a) (word_of a) (carried_value a v) z) where
  step : TakesStep (seat y (many_more (length p.mine) 0)) (outcome_of y a v) (seat z (one_more (many_more (length p.mine) 0)))
  step = record { access = a; value = v; next = next; may = may; advances = adv; reports = refl; steps = refl }

  going : Going (seat x 0) p.mine (seat y (many_more (length p.mine) 0))
  going = record { takes = p.takes; answers = p.answers; blocked = p.blocked; steps = refl }

  longer : length (more (seat x 0) (seat y (many_more (length p.mine) 0)) (seat z (one_more (many_more (length p.mine) 0))) p.mine (outcome_of y a v) going step) ≡ k + 1
  longer = length_snoc p.mine _ ∙ ap suc p.long ∙ (let e : suc k ≡ k + 1 = omega arith in e)

  pub silent_by : (outcome_of y a v).answer ≡ None → (outcome_of y a v).progress.blocked ≡ false → Unanswered x (k + 1) 0 z
  silent_by none free =
      let g = goes_on (seat x 0) (seat y (many_more (length p.mine) 0)) (seat z (one_more (many_more (length p.mine) 0))) p.mine (outcome_of y a v) going step none free in
      record { mine = more (seat x 0) (seat y (many_more (length p.mine) 0)) (seat z (one_more (many_more (length p.mine) 0))) p.mine (outcome_of y a v) going step; long = longer; takes = g.takes; answers = g.answers; blocked = g.blocked }

  pub ended_by : (said : Answer) → (outcome_of y a v).answer ≡ Some said → EndsIn x (k + 1) said z
  ended_by said is =
      let r = ran_answered (seat x 0) (seat y (many_more (length p.mine) 0)) (seat z (one_more (many_more (length p.mine) 0))) p.mine (outcome_of y a v) going step said is in
      record { mine = more (seat x 0) (seat y (many_more (length p.mine) 0)) (seat z (one_more (many_more (length p.mine) 0))) p.mine (outcome_of y a v) going step; long = longer; takes = r.takes; answers = r.answers; blocked = r.blocked }

-- one more step of the lock's part
module _ (x y z : SeatView) (k : ℕ) (p : Unanswered x k 0 y) (t : Place) (b : Bool) (here : process_state_now y ≡ free_process_state t b) (a : Access) (v : ℕ) (next : access y.setup.limit y.by t ≡ Some a) (adv : CarriesPending y (kind_of a) (word_of a) (carried_value a v) z) where
  r : IsRunBy y (machine_state_of y t b)
  r = run_by_free y t b here

  is_next : next_of y ≡ Some a
  is_next = sym (next_same y (machine_state_of y t b) r) ∙ next

  says : (o : Option Answer) → by_lock false (answer t (kind_of a) (carried_value a v)) ≡ o → (outcome_of y a v).answer ≡ o
  says o h = ap (λ (q : ProcessState). answer_at q (kind_of a) (carried_value a v)) here ∙ h

  pub silent : by_lock false (answer t (kind_of a) (carried_value a v)) ≡ None → is_blocked y.by t (kind_of a) (carried_value a v) ≡ false → Unanswered x (k + 1) 0 z
  silent none free = silent_by x y z k p a v is_next (may_free y t b a here next v) adv (says None none) (ap (λ (q : ProcessState). blocked_by y.by q.lock q.script_state (kind_of a) (carried_value a v)) here ∙ free)

  pub ended : (said : Answer) → by_lock false (answer t (kind_of a) (carried_value a v)) ≡ Some said → EndsIn x (k + 1) said z
  ended said is = ended_by x y z k p a v is_next (may_free y t b a here next v) adv said (says (Some said) is)

  -- the state after the step
  pub there_by : (u : Place) → after_access (standing (machine_state_of y t b)) (lock_access (standing (machine_state_of y t b))) v ≡ u → process_state_now z ≡ standing_at (lock_moved (machine_state_of y t b) u)
  there_by u to =
      let goes = lock_goes (machine_state_of y t b) v (all_allowed (standing (machine_state_of y t b))) in
      let run = run_by_step y z (machine_state_of y t b) (machine_after_step (machine_state_of y t b) v) a v r next adv refl refl refl goes in
      sym run.process_state ∙ ap (λ (w : Place). standing_at (lock_moved (machine_state_of y t b) w)) to

  -- the state after the step, if that is no entry
  pub there : (u : Place) → after_access (standing (machine_state_of y t b)) (lock_access (standing (machine_state_of y t b))) v ≡ u → is_entry t u ≡ false → mended_entered b t u ≡ b → process_state_now z ≡ free_process_state u b
  there u to none kept = there_by u to ∙ (λ i. record { lock = u; mended = kept i; barred = false; script_state = script_state_of (if none i then Does Checking (pending_task y.setup.layout y.by Check) else IsFree) })

-- one step of the lock's part alone
pub moves : (y z : SeatView) (t u : Place) (a : Access) (v : ℕ) → process_state_now y ≡ free_process_state t (process_state_now y).mended → access y.setup.limit y.by t ≡ Some a → CarriesPending y (kind_of a) (word_of a) (carried_value a v) z
    → after_access (standing (machine_state_of y t (process_state_now y).mended)) (lock_access (standing (machine_state_of y t (process_state_now y).mended))) v ≡ u → by_lock false (answer t (kind_of a) (carried_value a v)) ≡ None → is_blocked y.by t (kind_of a) (carried_value a v) ≡ false → is_entry t u ≡ false
    → mended_entered (process_state_now y).mended t u ≡ (process_state_now y).mended → Way y 1 z u
moves y z t u a v at next adv to none free out kept = record {
  at = there y y z 0 (unanswered_none y) t (process_state_now y).mended at a v next adv u to out kept;
  unanswered = silent y y z 0 (unanswered_none y) t (process_state_now y).mended at a v next adv none free;
  clear = (adv.fallen, adv.start);
  same = (adv.adds.setup, adv.adds.by);
}

pub takes-append : (x y z : SeatView) (a b : List TakenStep) → TakesSteps x a y → TakesSteps y b z → TakesSteps x (a ++ b) z
takes-append x y z [] b h k = subst (λ (p : SeatView). TakesSteps p b z) h k
takes-append x y z (e ∷ es) b h k = (h.0, h.1, h.2, takes-append h.0 y z es b h.3 k, h.4)

-- steps without an answer, then more steps
module _ (x y z : SeatView) (j : ℕ) (p : Unanswered x j 0 y) (b : List TakenStep) (takes : TakesSteps y b z) where
  then_answers : answers_of x (p.mine ++ b) ≡ answers_of y b
  then_answers =
      let sizes = takes_sizes x y p.mine p.takes in
      answers-append x.setup (process_state_of x.setup x.by x.seen) p.mine b
      ∙ ap (λ (l : List Answer). l ++ answers_from x.setup (process_state_past x.setup (process_state_of x.setup x.by x.seen) (events_of_run p.mine)) b) p.answers
      ∙ ap (λ (u : Setup × ProcessState). answers_from u.0 u.1 b) (λ i. (sym sizes.0 i, sym (takes_process_state x y p.mine p.takes) i))

  then_blocked : blocked_of x (p.mine ++ b) ≡ blocked_of y b
  then_blocked =
      let t : Turning (seat x 0) p.mine 0 (seat y (many_more (length p.mine) 0)) = record { takes = p.takes; answers = p.answers; blocked = p.blocked; steps = refl } in
      later_blocked (seat x 0) (seat y (many_more (length p.mine) 0)) (seat z 0) p.mine b 0 t ∙ (let e : 0 + blocked_of y b ≡ blocked_of y b = omega arith in e)

  then_long : (k : ℕ) → length b ≡ k → length (p.mine ++ b) ≡ j + k
  then_long k e = let l = length-append p.mine b in let a = p.long in omega arith

pub unanswered_then : (x y z : SeatView) (j k m : ℕ) → Unanswered x j 0 y → Unanswered y k m z → Unanswered x (j + k) m z
unanswered_then x y z j k m p q = record {
  mine = p.mine ++ q.mine;
  long = then_long x y z j p q.mine q.takes k q.long;
  takes = takes-append x y z p.mine q.mine p.takes q.takes;
  answers = then_answers x y z j p q.mine q.takes ∙ q.answers;
  blocked = then_blocked x y z j p q.mine q.takes ∙ q.blocked;
}

pub ends_then : (x y z : SeatView) (j k : ℕ) (a : Answer) → Unanswered x j 0 y → EndsIn y k a z → EndsIn x (j + k) a z
ends_then x y z j k a p q = record {
  mine = p.mine ++ q.mine;
  long = then_long x y z j p q.mine q.takes k q.long;
  takes = takes-append x y z p.mine q.mine p.takes q.takes;
  answers = then_answers x y z j p q.mine q.takes ∙ q.answers;
  blocked = then_blocked x y z j p q.mine q.takes ∙ q.blocked;
}

pub same_then : (x y z : SeatView) → IsSame x y → IsSame y z → IsSame x z
same_then x y z h k = (k.0 ∙ h.0, k.1 ∙ h.1)

-- one path, then another
pub way_then : {x y z : SeatView} {j k : ℕ} {t u : Place} → Way x j y t → Way y k z u → Way x (j + k) z u
way_then {x} {y} {z} {j} {k} {t} {u} w v = record { at = v.at ∙ (λ i. free_process_state u (w.at i).mended); unanswered = unanswered_then x y z j k 0 w.unanswered v.unanswered; clear = v.clear; same = same_then x y z w.same v.same }

pub way_to : (x y : SeatView) (j k : ℕ) (t u : Place) → j ≡ k → t ≡ u → Way x j y t → Way x k y u
way_to x y j k t u e f w = subst (λ (r : ℕ × Place). Way x r.0 y r.1) (λ i. (e i, f i)) w
