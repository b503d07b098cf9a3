-- A call under way that is over after events without crash and withdraw was answered in them.
use Rattle.std.proofs.Common.{◌≡◌, ℕ, zero, suc, Bool, true, false, ◌||◌, ◌==◌, if◌then◌else◌, List, [], ◌∷◌, All, Option, Some, None, IsSome, unwrap_or, refl, sym, ap, ◌∙◌, subst, inl, inr, ◌⊎◌, eq-eqb, ne_eqb}
use Rattle.rmeworld.proofs.Common.{cases_Bool, cases_eq, All-head, All-tail, put_same, put_other, CoreCall, Kind, Gets, Puts, Rereads, Open, Peek, Take, Shut, Look, Weigh, Mark, Drop, Glance, Word, Choosing, Number, Data as DataAt, answer, Place, next}
use Rattle.rmeworld.proofs.Common.{Rest, Dead, Reread, Opening, Door, Shutting, Wait, Inside, Leaving, Withdrawing, Unmarking, only, is_before, restart, shut, place_after_unmark, is_idle, Layout, Reply, Ruined, Script, Get as Asks, Put as Writes, Done, Call, Lock}
use Rattle.rmeworld.proofs.Common.{Unlock, Consistent, Recover, Append, Close, Withdraw, Purpose, Ruining, Mending, Checking, Working, is_entry, ScriptState, Free, Doing, ProcessState, WorldEvent, Begins, Falls, Moves, Glances, who, process_after_script}
use Rattle.rmeworld.proofs.Common.{begun_from, moved_by, next_process_state, GlobalState, Execution, state_after_event, last_global_state, purpose_call, call_by, call_at}
use Rattle.rmecore.specs.declared.core_call.CoreCall.TheVariants as core
use Rattle.rmecore.specs.declared.word.Word.TheVariants.{Inside as InsideOf}
use Rattle.redomail.specs.Tasks.{script}
use Rattle.redomail.specs.declared.task.Task.TheVariants as task
use Rattle.rmeworld.specs.Answered.{by_lock, by_script, answer_at}
use Rattle.rmeworld.specs.HomeState.{IsUninterrupted, answer_of, IsAnswered}
use Rattle.rmeworld.specs.World.{own_world_events}
use Rattle.rmeworld.specs.declared.call.Call.TheVariants.{Get, Put}
use Rattle.rmeworld.proofs.Projection.{at_lock_some, only_some}

-- a step of the lock's part that ends it with no entry by a lock
module _ (n limit p : ℕ) (barred : Bool) where
  -- the step has an answer
  abbrev Tells : Place → Kind → ℕ → Type 0
  Tells s kind v = IsSome (by_lock barred (answer s kind v))

  out : IsSome (by_lock barred (answer (Unmarking core.Unlock) Mark 0))
  out = elim (cases_Bool barred) [ inl e ↦ rw e refl | inr e ↦ rw e refl ]

  tells_restart : (call : CoreCall) (c k i : ℕ) → is_idle (restart n p call c k i) ≡ true → is_entry (Reread call (c ∷ k ∷ [])) (restart n p call c k i) ≡ false → Tells (Reread call (c ∷ k ∷ [])) Rereads i
  tells_restart core.Lock (suc c) zero i e outside = cc
  tells_restart core.Lock (suc c) (suc k) i e outside = cc
  tells_restart core.Lock zero zero zero e outside = cc
  tells_restart core.Lock zero zero (suc i) e outside = cc
  tells_restart core.Lock zero (suc k) zero e outside = cc
  tells_restart core.Lock zero (suc k) (suc i) e outside = cc
  tells_restart _ (suc c) zero i e outside = refl
  tells_restart _ (suc c) (suc k) i e outside = cc
  tells_restart _ zero zero zero e outside = refl
  tells_restart _ zero zero (suc i) e outside = cc
  tells_restart _ zero (suc k) zero e outside = refl
  tells_restart _ zero (suc k) (suc i) e outside = refl

  tells_shut : (k v : ℕ) (call : CoreCall) → is_idle (shut n p call k) ≡ true → Tells (Shutting call k) Shut v
  tells_shut k v core.Lock e = cc
  tells_shut k v _ e = refl

  tells_unmarked : (v : ℕ) (call : CoreCall) → is_idle (place_after_unmark call) ≡ true → Tells (Unmarking call) Mark v
  tells_unmarked v core.Lock e = cc
  tells_unmarked v core.Unlock e = out
  tells_unmarked v core.Recover e = refl
  tells_unmarked v core.Withdraw e = refl

  only_is : (b : Bool) (x t : Place) → only b x ≡ Some t → x ≡ t
  only_is true x t e = cc
  only_is false x t e = absurd (cc)

  -- the place that it comes to, if the test holds
  ends : (b : Bool) (x t : Place) (A : Type 0) → only b x ≡ Some t → is_idle t ≡ true → (is_idle x ≡ true → A) → A
  ends b x t A e idle h = h (ap is_idle (only_is b x t e) ∙ idle)

  never : (b c : Bool) (x y t : Place) → is_idle x ≡ false → is_idle y ≡ false → only c (if b then x else y) ≡ Some t → is_idle t ≡ true → ⊥
  never true c x y t f g e idle = let is : x ≡ t = only_is c x t e in let busy : is_idle x ≡ true = ap is_idle is ∙ idle in cc
  never false c x y t f g e idle = let is : y ≡ t = only_is c y t e in let busy : is_idle y ≡ true = ap is_idle is ∙ idle in cc

  pub step_tells : (s : Place) (kind : Kind) (word : Word) (v : ℕ) (t : Place) → is_idle s ≡ false → next n limit p s kind word v ≡ Some t → is_idle t ≡ true → is_entry s t ≡ false → Tells s kind v
  step_tells (Reread call []) Rereads (Choosing q) v t busy e idle outside = absurd (ends (q == p) _ t ⊥ e idle (λ i. cc))
  step_tells (Reread call (c ∷ [])) Rereads (Number q) v t busy e idle outside = absurd (ends (q == p) _ t ⊥ e idle (λ i. cc))
  step_tells (Reread call (c ∷ k ∷ [])) Rereads (InsideOf q) v t busy e idle outside =
      let is : restart n p call c k v ≡ t = only_is (q == p) _ t e in
      tells_restart call c k v (ap is_idle is ∙ idle) (ap (is_entry (Reread call (c ∷ k ∷ []))) is ∙ outside)
  step_tells Opening Open (Choosing q) v t busy e idle outside = absurd (ends _ _ t ⊥ e idle (λ i. cc))
  step_tells (Door unread m) Peek (Number j) v t busy e idle outside = absurd (ends _ _ t ⊥ e idle (λ i. cc))
  step_tells (Door [] m) Take (Number q) v t busy e idle outside = absurd (ends _ _ t ⊥ e idle (λ i. cc))
  step_tells (Door [] m) Shut (Choosing q) v t busy e idle outside = refl
  step_tells (Shutting call k) Shut (Choosing q) v t busy e idle outside = ends _ _ t _ e idle (λ i. tells_shut k v call i)
  step_tells (Wait k unpassed None) Look (Choosing j) v t busy e idle outside = absurd (never (v == 0) _ _ _ t refl refl e idle)
  step_tells (Wait k unpassed (Some i)) Weigh (Number j) v t busy e idle outside = absurd (never ((v == 0) || is_before k p v j) _ _ _ t refl refl e idle)
  step_tells (Wait k [] None) Mark (InsideOf q) v t busy e idle outside =
      let is : Inside ≡ t = only_is _ Inside t e in let yes : true ≡ false = ap (is_entry (Wait k [] None)) is ∙ outside in cc
  step_tells Leaving Drop (Number q) v t busy e idle outside = absurd (ends _ _ t ⊥ e idle (λ i. cc))
  step_tells Withdrawing Drop (Number q) v t busy e idle outside = refl
  step_tells (Unmarking call) Mark (InsideOf q) v t busy e idle outside = ends _ _ t _ e idle (λ i. tells_unmarked v call i)
  step_tells s Glance (Choosing q) v t busy e idle outside = let is : s ≡ t = cc in let rests : is_idle s ≡ true = ap is_idle is ∙ idle in cc
  step_tells s Glance (Number q) v t busy e idle outside = let is : s ≡ t = cc in let rests : is_idle s ≡ true = ap is_idle is ∙ idle in cc
  step_tells s Glance (InsideOf q) v t busy e idle outside = let is : s ≡ t = cc in let rests : is_idle s ≡ true = ap is_idle is ∙ idle in cc
  step_tells _ _ _ v t busy e idle outside = absurd (cc)

-- a call of the lock's part is under way wherever the place is not idle

busy_call : (s : Place) (barred : Bool) → is_idle s ≡ false → IsSome (call_by s barred Free)
busy_call Rest barred e = cc
busy_call Dead barred e = cc
busy_call Inside barred e = cc
busy_call (Reread core.Lock seen) barred e = refl
busy_call (Reread _ seen) barred e = refl
busy_call (Shutting core.Lock k) barred e = refl
busy_call (Shutting _ k) barred e = refl
busy_call (Unmarking core.Lock) barred e = refl
busy_call (Unmarking core.Unlock) true e = refl
busy_call (Unmarking core.Unlock) false e = refl
busy_call (Unmarking _) barred e = refl
busy_call Leaving true e = refl
busy_call Leaving false e = refl
busy_call _ barred e = refl

idle_call : (s : Place) (barred : Bool) → IsSome (call_by s barred Free) → is_idle s ≡ false
idle_call Rest barred some = cc
idle_call Dead barred some = cc
idle_call Inside barred some = cc
idle_call _ barred some = refl

-- the end of a script is its call's answer, or the call goes on with the exit
script_done : (b c : Bool) (purpose : Purpose) (a : Reply) → IsSome (by_script purpose b (Done a)) ⊎ IsSome (call_at (process_after_script b c purpose (Done a)))
script_done b c Checking (Ruined true) = inr refl
script_done true c Checking a = inl refl
script_done false c Checking a = inl refl
script_done b true Ruining a = inr refl
script_done b false Ruining a = inr refl
script_done b c Mending (Ruined ruined) = inl refl
script_done b c Mending a = inl refl
script_done b c (Working t) a = inl refl

script_step : (b c : Bool) (purpose : Purpose) (left : Script Reply) → IsSome (purpose_call purpose) → IsSome (by_script purpose b left) ⊎ IsSome (call_at (process_after_script b c purpose left))
script_step b c purpose (Done a) some = script_done b c purpose a
script_step b c purpose (Asks i rest) some = inr some
script_step b c purpose (Writes i v rest) some = inr some

module _ (l : Layout) (limit p : ℕ) where
  -- the state after the event has a call under way, or the event has the answer
  abbrev Goes : ProcessState → WorldEvent → ProcessState → Type 0
  Goes s e s' = IsSome (answer_of s e) ⊎ IsSome (call_at s')

  -- no other call begins meanwhile
  no_start : (lock : Place) (b c : Bool) (script_state : ScriptState) (call : Call) (s' : ProcessState) → IsSome (call_by lock c script_state) → begun_from l p lock b script_state call ≡ Some s' → IsUninterrupted (Begins p call) → ⊥
  no_start lock b c script_state Withdraw s' some e whole = whole
  no_start Rest b c Free call s' some e whole = cc
  no_start Dead b c Free call s' some e whole = cc
  no_start Inside b c Free call s' some e whole = cc
  no_start _ b c Free Lock s' some e whole = cc
  no_start _ b c Free Recover s' some e whole = cc
  no_start _ true c Free Unlock s' some e whole = cc
  no_start _ false c Free Unlock s' some e whole = cc
  no_start _ true c Free Consistent s' some e whole = cc
  no_start _ false c Free Consistent s' some e whole = cc
  no_start _ b c Free (Append seq value) s' some e whole = cc
  no_start _ b c Free Close s' some e whole = cc
  no_start _ b c Free (Get i) s' some e whole = cc
  no_start _ b c Free (Put i v) s' some e whole = cc
  no_start lock b c (Doing purpose left) call s' some e whole = cc

  moves : (lock : Place) (b c : Bool) (script_state : ScriptState) (kind : Kind) (word : Word) (v : ℕ) (s' : ProcessState) → IsSome (call_by lock c script_state) → moved_by l limit p lock b c script_state kind word v ≡ Some s'
      → IsSome (answer_at (record { lock = lock; mended = b; barred = c; script_state = script_state }) kind v) ⊎ IsSome (call_at s')
  moves lock b c Free kind word v s' some e =
      let r = at_lock_some l p lock b c (next l.procs limit p lock kind word v) s' e in
      let t : Place = r.place in
      subst (λ (x : ProcessState). IsSome (by_lock c (answer lock kind v)) ⊎ IsSome (call_at x)) r.process_state (elim (cases_Bool (is_entry lock t)) [
        | inl enters ↦ inr (subst (λ (z : Bool). IsSome (call_by t c (if z then Doing Checking (script l p task.Check) else Free))) (sym enters) refl)
        | inr outside ↦ elim (cases_Bool (is_idle t)) [
          | inl idle ↦ inl (step_tells l.procs limit p c lock kind word v t (idle_call lock c some) r.some idle outside)
          | inr busy ↦ inr (subst (λ (z : Bool). IsSome (call_by t c (if z then Doing Checking (script l p task.Check) else Free))) (sym outside) (busy_call t c busy))
        ]
      ])
  moves lock b c (Doing purpose (Asks j rest)) Gets (DataAt i) v s' some e =
      subst (λ (x : ProcessState). IsSome (by_script purpose b (rest v)) ⊎ IsSome (call_at x)) (only_some _ _ s' e).1 (script_step b c purpose (rest v) some)
  moves lock b c (Doing purpose (Writes j x rest)) Puts (DataAt i) v s' some e =
      subst (λ (x : ProcessState). IsSome (by_script purpose b rest) ⊎ IsSome (call_at x)) (only_some _ _ s' e).1 (script_step b c purpose rest some)
  moves lock b c _ _ _ v s' some e = absurd (cc)

  event_goes : (s : ProcessState) (e : WorldEvent) (s' : ProcessState) → who e ≡ p → IsSome (call_at s) → next_process_state l limit s e ≡ Some s' → IsUninterrupted e → Goes s e s'
  event_goes s (Begins q call) s' is some e whole =
      absurd (no_start s.lock s.mended s.barred s.script_state call s' some (subst (λ r. begun_from l r s.lock s.mended s.script_state call ≡ Some s') is e) (subst (λ r. IsUninterrupted (Begins r call)) is whole))
  event_goes s (Falls q) s' is some e whole = absurd whole
  event_goes s (Moves q kind word v) s' is some e whole = moves s.lock s.mended s.barred s.script_state kind word v s' some (subst (λ r. moved_by l limit r s.lock s.mended s.barred s.script_state kind word v ≡ Some s') is e)
  event_goes s (Glances q word v) s' is some e whole = let same : s ≡ s' = cc in inr (subst (λ (x : ProcessState). IsSome (call_at x)) same some)

some_or_none : {A : Type 0} (o : Option A) → IsSome o ⊎ (o ≡ None)
some_or_none None = inr refl
some_or_none (Some x) = inl refl

some_state : (o : Option ProcessState) (d : ProcessState) → IsSome o → o ≡ Some (unwrap_or o d)
some_state None d some = absurd (cc)
some_state (Some s) d some = refl

module _ (l : Layout) (limit : ℕ) where
  -- a call under way that is over at the end was answered
  pub is_answered : (w : GlobalState) (es : List WorldEvent) (p : ℕ) → Execution l limit w es → All IsUninterrupted es → IsSome (call_at (w.process_states p)) → call_at ((last_global_state l limit w es).process_states p) ≡ None
      → IsAnswered l limit (w.process_states p) (own_world_events p es)
  is_answered w [] p execution whole some none = cc
  is_answered w (e ∷ es) p execution whole some none =
      let rest : IsSome (call_at ((state_after_event l limit w e).process_states p)) → IsAnswered l limit ((state_after_event l limit w e).process_states p) (own_world_events p es) =
      λ still. is_answered (state_after_event l limit w e) es p execution.1 (All-tail IsUninterrupted e es whole) still none in
      elim (cases_eq p (who e)) [
        | inl is ↦
            let yes_own : (who e == p) ≡ true = eq-eqb _ _ (sym is) in
            let s : ProcessState = w.process_states p in
            let t : ProcessState = unwrap_or (next_process_state l limit s e) s in
            let now : (state_after_event l limit w e).process_states p ≡ t = subst (λ r. (state_after_event l limit w e).process_states r ≡ unwrap_or (next_process_state l limit (w.process_states r) e) (w.process_states r)) (sym is) (put_same w.process_states (who e) _) in
            let can : IsSome (next_process_state l limit s e) = subst (λ r. IsSome (next_process_state l limit (w.process_states r) e)) (sym is) execution.0.1 in
            let here : IsSome (answer_of s e) ⊎ IsAnswered l limit t (own_world_events p es) = elim (event_goes l limit p s e t (sym is) some (some_state (next_process_state l limit s e) s can) (All-head IsUninterrupted e es whole)) [
              | inl answered ↦ inl answered
              | inr still ↦ inr (subst (λ (x : ProcessState). IsAnswered l limit x (own_world_events p es)) now (rest (subst (λ (x : ProcessState). IsSome (call_at x)) (sym now) still)))
            ] in
            rw yes_own here
        | inr ne ↦
            let not_own : (who e == p) ≡ false = ne_eqb _ _ (λ same. ne (sym same)) in
            let now : (state_after_event l limit w e).process_states p ≡ w.process_states p = put_other w.process_states (who e) _ p ne in
            rw not_own (subst (λ (x : ProcessState). IsAnswered l limit x (own_world_events p es)) now (rest (subst (λ (x : ProcessState). IsSome (call_at x)) (sym now) some)))
      ]
