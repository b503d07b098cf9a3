-- Each step of a call that isn't blocked adds one to its count. At the answer the count is the table's number.
use Rattle.std.proofs.Common.{◌≡◌, ℕ, zero, suc, ◌+◌, ◌<◌, Bool, true, false, ◌&&◌, ◌==◌, nat_lt, if◌then◌else◌, length, Option, Some, None, IsSome, unwrap_or, refl, sym, ap, ◌∙◌, subst, arith, eqb-true}
use Rattle.rmeworld.proofs.Common.{and_parts, CoreCall, CoreDone, In, InAgain, Spent, Out, Found as Finds, Withdrawn as IsWithdrawn, Kind, Gets, Puts, Own, Word, Data as DataAt, answer}
use Rattle.rmeworld.proofs.Common.{is_blocked as is_blocked_place, reentry_steps, entry_steps, is_glance, ReadsBegun, Place, Wait, next, Rest, Leaving, Inside, Dead, Layout, Reply, Mended, Ruined}
use Rattle.rmeworld.proofs.Common.{Task, Script, Get as Asks, Put as Writes, Done, script, Answer, Call, Lock, Unlock, Consistent, Recover, Append, Close, Withdraw, Purpose, Ruining, Mending, Working}
use Rattle.rmeworld.proofs.Common.{Checking, answer_at, answer_by, by_lock, by_script, blocked_by, next_or_same, checks_done, mended_done, HasStep, and_more, either, core_steps, task_steps, own_steps}
use Rattle.rmeworld.proofs.Common.{Costs, checked_steps, script_steps, PaysCore, Exits, PaysPart, PaysBy, PaysAt, entry_of, ScriptState, Free, Doing, ProcessState, Begins, Moves, process_after_script, script_state_entered, at_lock}
use Rattle.rmeworld.proofs.Common.{begun_from, moved_by, next_process_state, only_process_state, mended_entered, working, lock_part, part_call, purpose_call, call_by, call_at, task_call}
use Rattle.rmecore.specs.declared.core_call.CoreCall.TheVariants as core
use Rattle.rmecore.proofs.Payments.{Comes, pays}
use Rattle.redomail.specs.declared.task.Task.TheVariants as task
use Rattle.rmeworld.specs.declared.call.Call.TheVariants.{Get, Put}
use Rattle.rmeworld.proofs.CallBounds.{summed}
use Rattle.rmeworld.proofs.CallParts.{Follows, On, goes_on}
use Rattle.rmeworld.proofs.Costs.{append_costs, close_costs, consistent_costs}

-- a step that isn't blocked adds one
abbrev pub more : Bool → ℕ → ℕ
more blocked steps = if blocked then steps else steps + 1

more_sum : (b : Bool) (steps k x : ℕ) → steps ≡ k + x → more b steps ≡ k + more b x
more_sum true steps k x h = h
more_sum false steps k x h = omega arith

-- at an answer the count is the table's number
abbrev pub Answers : Layout → Own → Bool → Option Call → Answer → ℕ → Type 0
Answers l w m under a steps = (x : Call) × (under ≡ Some x) × (own_steps l w m x a ≡ Some steps)

abbrev pub IsOver : ProcessState → Type 0
IsOver process_state = (lock_part process_state.lock ≡ None) × (process_state.script_state ≡ Free)

-- after a step the call goes on, or has its answer
abbrev pub To : Layout → Own → Bool → Option Call → Option Answer → ProcessState → ℕ → Type 0
To l w m under None process_state steps = PaysAt l w process_state steps × (call_at process_state ≡ under) × (under ≡ Some Unlock → process_state.mended ≡ m)
To l w m under (Some a) process_state steps = PaysAt l w process_state steps × IsOver process_state × Answers l w m under a steps

-- the process state after a step of the lock's part with this answer of the core
abbrev came : Layout → ℕ → Bool → Bool → Option CoreDone → Place → ProcessState
came l p m c done t = record { lock = t; mended = mended_done m done; barred = c; script_state = if checks_done done then Doing Checking (script l p task.Check) else Free }

pub guard_process_state : (b : Bool) (t d : ProcessState) (P : ProcessState → Type 0) → IsSome (only_process_state b t) → (b ≡ true → P t) → P (unwrap_or (only_process_state b t) d)
guard_process_state true t d P some h = h refl
guard_process_state false t d P some h = absurd (cc)

module _ (l : Layout) (p : ℕ) (w : Own) where
  -- a number that exists is one more than some number
  exits_on : (o : Option ℕ) (s t : Place) (steps : ℕ) (b : Bool) → Exits l w o s steps → ((x : ℕ) → PaysCore l w s x → PaysCore l w t (more b x)) → Exits l w o t (more b steps)
  exits_on None s t steps b h f = h
  exits_on (Some k) s t steps b h f = (more b h.0, f h.0 h.1, more_sum b steps k h.0 h.2)

  placed : (part part' : Option CoreCall) (t : Place) (m c : Bool) (steps : ℕ) → part' ≡ part → PaysPart l w part t m c steps → PaysPart l w part' t m c steps
  placed part part' t m c steps e h = subst (λ x. PaysPart l w x t m c steps) (sym e) h

  nothing : (part : Option CoreCall) (t : Place) (m c : Bool) (steps : ℕ) → part ≡ None → PaysPart l w part t m c steps
  nothing part t m c steps e = subst (λ x. PaysPart l w x t m c steps) (sym e) tt

  -- the steps of a lock that entered, with its ruin check
  turned : (m : Bool) (x : ℕ) → core_steps l w (entry_of m) ≡ Some x → and_more 3 (either (core_steps l w In) (core_steps l w InAgain)) ≡ Some (x + 3)
  turned true x e = ap (λ o. and_more 3 (either o (core_steps l w InAgain))) e
  turned false x e = again w.choosing w.number w.inside e
    where
      again : (c k i : ℕ) → reentry_steps c k i ≡ Some x → and_more 3 (either (entry_steps l.procs c k i) (reentry_steps c k i)) ≡ Some (x + 3)
      again zero (suc k) (suc i) h = ap (and_more 3) h
      again _ _ _ h = absurd (cc)

  -- a step of the lock's part
  part_to : (part : Option CoreCall) (done : Option CoreDone) (s t : Place) (m c b : Bool) (steps : ℕ) → IsSome part → Follows part done t
      → ((x : ℕ) → PaysCore l w s x → Comes l.procs w.choosing w.number w.inside done t (more b x)) → PaysPart l w part s m c steps
      → To l w m (part_call part c) (by_lock c done) (came l p m c done t) (more b steps)
  part_to None done s t m c b steps some follows pays h = absurd (cc)
  part_to (Some core.Unlock) None s t m c b steps some follows pays h =
      (placed _ _ t m c _ follows (exits_on _ s t steps b h (λ x now. (pays x now).0)), ap (λ o. part_call o c) follows, λ e. refl)
  part_to (Some _) None s t m c b steps some follows pays h =
      (placed _ _ t m c _ follows (h.0, (pays steps h.1).0), ap (λ o. part_call o c) follows, λ e. refl)
  part_to (Some core.Lock) (Some In) s t m c b steps some follows pays h =
      let n = (pays steps h.1).1 in
      ((h.0, tt, λ v. ap (and_more 1) n), refl, λ e. absurd (cc))
  part_to (Some core.Lock) (Some InAgain) s t m c b steps some follows pays h =
      let n = (pays steps h.1).1 in
      ((h.0, tt, λ v. ap (and_more 1) n), refl, λ e. absurd (cc))
  part_to (Some core.Lock) (Some Spent) s t m c b steps some follows pays h =
      (nothing _ t m c _ follows.1, (follows.1, refl), (Lock, refl, (pays steps h.1).1))
  part_to (Some core.Recover) (Some (Finds found)) s t m c b steps some follows pays h =
      (nothing _ t _ c _ follows.1, (follows.1, refl), (Recover, refl, (pays steps h.1).1))
  part_to (Some core.Withdraw) (Some IsWithdrawn) s t m c b steps some follows pays h =
      (nothing _ t m c _ follows.1, (follows.1, refl), (Withdraw, refl, (pays steps h.1).1))
  part_to (Some core.Unlock) (Some Out) s t m false b steps some follows pays h =
      let e : 2 ≡ more b h.0 = let f = (pays h.0 h.1).1 in cc in
      let sum = more_sum b steps _ h.0 h.2 in
      (nothing _ t m false _ follows.1, (follows.1, refl), (Unlock, refl, of m sum e))
    where
      of : (m : Bool) → more b steps ≡ (if m then 0 else 1) + more b h.0 → 2 ≡ more b h.0 → Some (if m then 2 else 3) ≡ Some (more b steps)
      of true sum e = ap Some (let x : 2 ≡ more b steps = omega (arith, sum, e) in x)
      of false sum e = ap Some (let x : 3 ≡ more b steps = omega (arith, sum, e) in x)
  part_to (Some core.Unlock) (Some Out) s t m true b steps some follows pays h =
      (nothing _ t m true _ follows.1, (follows.1, refl), (Lock, refl, of (checked_steps l w m) refl h))
    where
      of : (o : Option ℕ) → checked_steps l w m ≡ o → Exits l w o s steps → and_more 3 (either (core_steps l w In) (core_steps l w InAgain)) ≡ Some (more b steps)
      of None is h = absurd h
      of (Some k) is h =
          let e : 2 ≡ more b h.0 = let f = (pays h.0 h.1).1 in cc in
          let sum = more_sum b steps k h.0 h.2 in
          let y = summed 1 (core_steps l w (entry_of m)) k is in
          let all : y.0 + 3 ≡ more b steps = let one = y.2 in omega (arith, sum, e, one) in
          turned m y.0 y.1 ∙ ap Some all
  part_to _ (Some _) s t m c b steps some follows pays h = absurd (cc)

  -- a script with its next step, or with its reply
  script_to : (purpose : Purpose) (left : Script Reply) (m : Bool) (steps : ℕ) → Costs (script_steps l w m purpose) left steps → To l w m (purpose_call purpose) (by_script purpose m left) (process_after_script m false purpose left) steps
  script_to purpose (Asks i rest) m steps h = ((refl, tt, h), refl, λ e. refl)
  script_to purpose (Writes i v rest) m steps h = ((refl, tt, h), refl, λ e. refl)
  script_to Checking (Done (Ruined true)) m steps h =
      let zero_more : steps ≡ steps + 0 = omega arith in
      (subst (λ o. Exits l w o Leaving steps) (sym h) (0, refl, zero_more), refl, λ e. refl)
  script_to Checking (Done _) true steps h = (tt, (refl, refl), (Lock, refl, h))
  script_to Checking (Done _) false steps h = (tt, (refl, refl), (Lock, refl, h))
  script_to Ruining (Done _) true steps h = absurd (cc)
  script_to Ruining (Done _) false steps h = ((0, refl, (let e : 1 ≡ steps = cc in let f : steps ≡ 1 + 0 = omega (arith, e) in f)), refl, λ e. refl)
  script_to Mending (Done (Mended b)) m steps h = (tt, (refl, refl), (Consistent, refl, h))
  script_to Mending (Done (Ruined true)) m steps h = (tt, (refl, refl), (Consistent, refl, h))
  script_to Mending (Done _) m steps h = absurd (cc)
  script_to (Working (task.Append seq value)) (Done a) m steps h = (tt, (refl, refl), (Append seq value, refl, h))
  script_to (Working task.Close) (Done a) m steps h = (tt, (refl, refl), (Close, refl, h))
  script_to (Working (task.BoardGet i)) (Done a) m steps h = (tt, (refl, refl), (Get i, refl, h))
  script_to (Working (task.BoardPut i v)) (Done a) m steps h = (tt, (refl, refl), (Put i v, refl, h))
  script_to (Working _) (Done a) m steps h = absurd (cc)

  at_lock_to : (o : Option Place) (s : Place) (m c : Bool) (d : ProcessState) (done : Option CoreDone) (call : Option Call) (m' : Bool) (steps : ℕ) (a : Option Answer) → IsSome (at_lock l p s m c o)
      → (IsSome o → On done s (unwrap_or o s)) → (IsSome o → To l w m' call a (came l p m c done (unwrap_or o s)) steps) → To l w m' call a (unwrap_or (at_lock l p s m c o) d) steps
  at_lock_to None s m c d done call m' steps a some on h = absurd (cc)
  at_lock_to (Some t) s m c d done call m' steps a some on h =
      let enters = (on refl).1 in
      let is : came l p m c done t ≡ record { lock = t; mended = mended_entered m s t; barred = c; script_state = script_state_entered l p s t } =
      λ i. record { lock = t; mended = enters.1 m i; barred = c; script_state = if enters.0 i then Doing Checking (script l p task.Check) else Free } in
      subst (λ process_state. To l w m' call a process_state steps) is (h refl)

  settled_to : (purpose : Purpose) (left : Script Reply) (m c : Bool) (steps : ℕ) → c ≡ false → Costs (script_steps l w m purpose) left steps → To l w m (purpose_call purpose) (by_script purpose m left) (process_after_script m c purpose left) steps
  settled_to purpose left m c steps calm h = subst (λ x. To l w m (purpose_call purpose) (by_script purpose m left) (process_after_script m x purpose left) steps) (sym calm) (script_to purpose left m steps h)

  module _ (limit : ℕ) (below : p < l.procs) where
    moved_to : (s : Place) (m c : Bool) (e : ScriptState) (d : ProcessState) (kind : Kind) (word : Word) (v steps : ℕ) → IsSome (moved_by l limit p s m c e kind word v) → is_glance kind ≡ false → (e ≡ Free → ReadsBegun w.choosing w.number w.inside s v) → PaysBy l w s m c e steps
        → To l w m (call_by s c e) (answer_by s m c e kind v) (unwrap_or (moved_by l limit p s m c e kind word v) d) (more (blocked_by p s e kind v) steps)
    moved_to s m c Free d kind word v steps some moves reads h =
        let on : IsSome (next l.procs limit p s kind word v) → On (answer s kind v) s (unwrap_or (next l.procs limit p s kind word v) s) = λ may. goes_on l.procs p limit s kind word v may moves in
        at_lock_to (next l.procs limit p s kind word v) s m c d (answer s kind v) (part_call (lock_part s) c) m _ _ some on
        (λ may. part_to (lock_part s) (answer s kind v) s _ m c (is_blocked_place p s kind v) steps (on may).0 (on may).2
        (λ x now. pays l.procs p below limit w.choosing w.number w.inside s kind word v x may moves (reads refl) now) h)
    moved_to s m c (Doing purpose (Asks j rest)) d Gets (DataAt i) v steps some moves reads h =
        guard_process_state (i == j) (process_after_script m c purpose (rest v)) d (λ process_state. To l w m (purpose_call purpose) (by_script purpose m (rest v)) process_state (steps + 1)) some (λ e. settled_to purpose (rest v) m c (steps + 1) h.0 (h.2 v))
    moved_to s m c (Doing purpose (Writes j x rest)) d Puts (DataAt i) v steps some moves reads h =
        guard_process_state ((i == j) && (v == x)) (process_after_script m c purpose rest) d (λ process_state. To l w m (purpose_call purpose) (by_script purpose m rest) process_state (steps + 1)) some (λ e. settled_to purpose rest m c (steps + 1) h.0 h.2)
    moved_to s m c (Doing purpose _) d _ _ v steps some moves reads h = absurd (cc)

    -- one step of a call, whatever it reads. In the lock's part a reread has the process's words
    pub step_by : (process_state : ProcessState) (kind : Kind) (word : Word) (v steps : ℕ) → IsSome (next_process_state l limit process_state (Moves p kind word v)) → is_glance kind ≡ false → (process_state.script_state ≡ Free → ReadsBegun w.choosing w.number w.inside process_state.lock v) → PaysAt l w process_state steps
        → To l w process_state.mended (call_at process_state) (answer_at process_state kind v) (next_or_same l limit process_state (Moves p kind word v)) (more (blocked_by p process_state.lock process_state.script_state kind v) steps)
    step_by process_state kind word v steps some moves reads h = moved_to process_state.lock process_state.mended process_state.barred process_state.script_state process_state kind word v steps some moves reads h

    -- where no call is under way no step is allowed
    pub over_rests : (process_state : ProcessState) (kind : Kind) (word : Word) (v : ℕ) → IsOver process_state → IsSome (next_process_state l limit process_state (Moves p kind word v)) → is_glance kind ≡ false → ⊥
    over_rests process_state kind word v over some moves =
        none (next l.procs limit p process_state.lock kind word v) (subst (λ e. IsSome (moved_by l limit p process_state.lock process_state.mended process_state.barred e kind word v)) over.1 some)
        (λ may. let part : IsSome (lock_part process_state.lock) = (goes_on l.procs p limit process_state.lock kind word v may moves).0 in let gone : IsSome {T = CoreCall} None = subst IsSome over.0 part in absurd (cc))
      where
        none : (o : Option Place) → IsSome (at_lock l p process_state.lock process_state.mended process_state.barred o) → (IsSome o → ⊥) → ⊥
        none None some h = absurd (cc)
        none (Some t) some h = h refl

  working_to : (s : Place) (b fits : Bool) (t : Task) (call : Call) (d : ProcessState) → task_call t ≡ Some call → IsSome (working l p s b fits t) → (fits ≡ true → Costs (task_steps l t) (script l p t) 0) → HasStep (script l p t)
      → (Some call ≡ Some Unlock → ⊥) → To l w b (Some call) None (unwrap_or (working l p s b fits t) d) 0
  working_to Inside b fits t call d is some costs has not =
      guard_process_state fits (record { lock = Inside; mended = b; barred = false; script_state = Doing (Working t) (script l p t) }) d (λ process_state. To l w b (Some call) None process_state 0) some (λ e. ((refl, has, costs e), is, λ e. refl))
  working_to _ b fits t call d is some costs has not = absurd (cc)

  begun_to : (s : Place) (m : Bool) (e : ScriptState) (call : Call) (d : ProcessState) → IsSome (begun_from l p s m e call) → To l w m (Some call) None (unwrap_or (begun_from l p s m e call) d) 0
  begun_to Rest m Free Lock d some = ((refl, refl), refl, λ e. refl)
  begun_to Dead m Free Lock d some = ((refl, refl), refl, λ e. refl)
  begun_to Rest m Free Recover d some = ((refl, refl), refl, λ e. refl)
  begun_to Dead m Free Recover d some = ((refl, refl), refl, λ e. refl)
  begun_to (Wait k unpassed looked) m Free Withdraw d some = ((refl, refl), refl, λ e. refl)
  begun_to Inside true Free Unlock d some = ((0, refl, refl), refl, λ e. refl)
  begun_to Inside false Free Unlock d some = ((refl, tt, refl), refl, λ e. refl)
  begun_to Inside false Free Consistent d some = ((refl, tt, consistent_costs l p), refl, λ e. refl)
  begun_to s m Free (Append seq value) d some =
      working_to s m (m && (length value == l.width)) (task.Append seq value) (Append seq value) d refl some (λ e. append_costs l p seq value (eqb-true _ _ (and_parts m _ e).1)) tt (λ e. cc)
  begun_to s m Free Close d some = working_to s m m task.Close Close d refl some (λ e. close_costs l p) tt (λ e. cc)
  begun_to s m Free (Get i) d some = working_to s m (nat_lt i 4) (task.BoardGet i) (Get i) d refl some (λ e. λ v. refl) tt (λ e. cc)
  begun_to s m Free (Put i v) d some = working_to s m (nat_lt i 4) (task.BoardPut i v) (Put i v) d refl some (λ e. refl) tt (λ e. cc)
  begun_to s m (Doing purpose left) call d some = absurd (cc)
  begun_to _ true Free _ d some = absurd (cc)
  begun_to _ false Free _ d some = absurd (cc)

  -- the start of a call
  pub start_to : (limit : ℕ) (process_state : ProcessState) (call : Call) → IsSome (next_process_state l limit process_state (Begins p call)) → To l w process_state.mended (Some call) None (next_or_same l limit process_state (Begins p call)) 0
  start_to limit process_state call some = begun_to process_state.lock process_state.mended process_state.script_state call process_state some
