-- A whole mailbox call from its parts.
use Rattle.std.proofs.Common.{◌≡◌, ℕ, ◌+◌, ◌≤◌, ◌⊎◌, Bool, true, List, [], ◌∷◌, Result, Ok, Err, Option, Some, None, IfOk, IfErr, refl, sym, ap, ◌∙◌, subst, inl, inr, arith, append-nil}
use Rattle.table_runs.proofs.Common.{Reply, Answer, Call, is_idle, TakenStep, Entry as Entering, LockFault, Setup, starts, Ran, CutOff, Crashes, ServedAll, Askings, NeverCrashes, Fell, CutBy, CutIn, AnsweredBy, call_series, LockBy, free_to_start}
use Rattle.table_runs.proofs.Common.{refusal_now, answer_of, IsSeatView, process_state_now, Seated, began, fell, after_further_start, IsAnswerOf, IsTask, WholeEnds, IsWholeOutcome, IsFront, AreCallsOf, calls_inside, IsInner, Inner, WholeBy, whole_task}
use Rattle.table_runs.proofs.Common.{WholeGoes, WholeFails, mended_by, SumCounts, InsideCounts}
use Rattle.redomail.specs.declared.reply.Reply.TheVariants as reply
use Rattle.rmeworld.specs.declared.call.Call.TheVariants as call
use Rattle.rmeworld.specs.declared.answer.Answer.TheVariants as answer
use Rattle.table_runs.specs.declared.lock_fault.LockFault.TheVariants as fault
use Rattle.table_runs.specs.declared.entry_kind.Entry.TheVariants as entering
use Rattle.table_runs.proofs.WholeSteps.{whole_counts}
use Rattle.table_runs.proofs.Chained.{asked_after, cut_asked, answered-append, cut_after, ran_after, cut_after_it, lock_setup}
use Rattle.table_runs.proofs.Outside.{ready_same}

pub unlocked_is : (a : Answer) → IsAnswerOf call.Unlock a → a ≡ answer.Unlocked
unlocked_is answer.Unlocked f = refl
unlocked_is _ f = absurd f

-- what the mending answers
pub mends_is : (a : Answer) (r : Reply) → a ≡ answer.Mail r → IsAnswerOf call.Consistent a → (mended : Bool) × (a ≡ answer.Mail (reply.Mended mended))
mends_is answer.NotRecoverable r e f = absurd (cc)
mends_is (answer.Mail (reply.Mended mended)) r e f = (mended, refl)
mends_is _ r e f = absurd f

-- prefixes of lists of calls
pub front_all : (order : List Call) → IsFront order order
front_all order = ([], sym (append-nil order))

pub front_one : (c : Call) (more : List Call) → IsFront (c ∷ []) (c ∷ more)
front_one c more = (more, refl)

pub front_cons : (c : Call) (done order : List Call) → IsFront done order → IsFront (c ∷ done) (c ∷ order)
front_cons c done order h = (h.0, ap (λ (l : List Call). c ∷ l) h.1)

-- after the lock
pub within_inner : (entry : Entering) (task : Call) (done : List Call) → IsInner entry task done → AreCallsOf task (call.Lock ∷ done)
within_inner entry task done (inl h) = inl (entry, front_cons call.Lock done (calls_inside entry task) h)
within_inner entry task done (inr h) = inr (front_cons call.Lock done (call.Consistent ∷ call.Unlock ∷ []) h)

pub within_lock : (task : Call) → AreCallsOf task (call.Lock ∷ [])
within_lock task = inr (front_one call.Lock (call.Consistent ∷ call.Unlock ∷ []))

pub cut_more : (x z : Seated) (a0 a1 : Askings) (P Q : List Call → Type 0) → CutBy x P z a0 a1 → ((done : List Call) → P done → Q done) → CutBy x Q z a0 a1
cut_more x z a0 a1 P Q h more =
    let s = h.1 in
    (h.0, record { calls = s.calls; unmoved = s.unmoved; crash = s.crash; started = either s.started; steps = s.steps; fallen = s.fallen; idle = s.idle }, h.2)
  where
    either : (h.0 ≡ []) ⊎ P (starts h.0) → (h.0 ≡ []) ⊎ Q (starts h.0)
    either (inl none) = inl none
    either (inr p) = inr (more (starts h.0) p)

-- cut off in the first call
pub cut_first : (x z : Seated) (a0 a1 : Askings) (c : Call) (Q : List Call → Type 0) → Q (c ∷ []) → CutIn x c z a0 a1 → CutBy x Q z a0 a1
cut_first x z a0 a1 c Q first h = cut_more x z a0 a1 (λ (order : List Call). order ≡ c ∷ []) Q h (λ done k. subst Q (sym k) first)

-- one call and others after it
module _ (x y z : Seated) (a0 a1 a2 : Askings) where
  pub one_then : (c d : Call) (ds : List Call) (a b : Answer) (reports : List Answer) → a ≡ b → AnsweredBy 0 x (call_series (c ∷ []) (a ∷ []) 0) y a0 a1 → AnsweredBy 0 y (call_series (d ∷ ds) reports 0) z a1 a2 → AnsweredBy 0 x (call_series (c ∷ d ∷ ds) (b ∷ reports) 0) z a0 a2
  one_then c d ds a b reports is h t = subst (λ (v : Answer). AnsweredBy 0 x (call_series (c ∷ d ∷ ds) (v ∷ reports) 0) z a0 a2) is (answered-append x y z c d [] ds (a ∷ []) reports 0 0 0 a0 a1 a2 h t)

  pub two_done : (c d : Call) (a b u v : Answer) → a ≡ b → u ≡ v → AnsweredBy 0 x (call_series (c ∷ []) (a ∷ []) 0) y a0 a1 → AnsweredBy 0 y (call_series (d ∷ []) (u ∷ []) 0) z a1 a2 → AnsweredBy 0 x (call_series (c ∷ d ∷ []) (b ∷ v ∷ []) 0) z a0 a2
  two_done c d a b u v is so h t = subst (λ (w : Answer). AnsweredBy 0 x (call_series (c ∷ d ∷ []) (b ∷ w ∷ []) 0) z a0 a2) so (one_then c d [] a b (u ∷ []) is h t)

  -- cut off after the first
  pub cut_then : (c : Call) (a : Answer) (P Q : List Call → Type 0) → AnsweredBy 0 x (call_series (c ∷ []) (a ∷ []) 0) y a0 a1 → CutBy y P z a1 a2 → Q (c ∷ []) → ((done : List Call) → P done → Q (c ∷ done)) → CutBy x Q z a0 a2
  cut_then c a P Q h t first more = cut_after x y z c [] (a ∷ []) 0 a0 a1 a2 P Q h t first more

inner_comes : (turns : ℕ) (entry : Entering) (task : Call) (r : Result Reply LockFault) (order : List Call) (answers : List Answer) (blocked : ℕ) → blocked ≤ turns → Inner entry task r order answers → IsWholeOutcome turns task r (call.Lock ∷ order) (answer_of entry ∷ answers) blocked
inner_comes turns entry task (Ok it) order answers blocked few h = (few, entry, h.0, ap (λ (l : List Call). call.Lock ∷ l) h.1, ap (λ (l : List Answer). answer_of entry ∷ l) h.2)
inner_comes turns entry task (Err e) order answers blocked few h =
    inr (few, inr (inr (h.0, ap (λ (l : List Call). call.Lock ∷ l) h.2, ap (λ (l : List Answer). answer_of entry ∷ l) h.3 ∙ ap (λ (en : Entering). answer_of en ∷ answer.NotRecoverable ∷ answer.Unlocked ∷ []) h.1)))

inside_some : (entry : Entering) (task : Call) → calls_inside entry task ≡ [] → ⊥
inside_some entering.Clean task e = absurd (cc)
inside_some entering.OwnerDied task e = absurd (cc)

inner_some : (entry : Entering) (task : Call) (r : Result Reply LockFault) (order : List Call) (answers : List Answer) → Inner entry task r order answers → order ≡ [] → ⊥
inner_some entry task (Ok it) order answers h none = inside_some entry task (sym h.1 ∙ none)
inner_some entry task (Err e) order answers h none = absurd (let k : call.Consistent ∷ call.Unlock ∷ [] ≡ [] = sym h.2 ∙ none in cc)

-- the asking before the answer isn't a step
counts_here : (x y z : Seated) (order : List Call) (answers : List Answer) (blocked : ℕ) → z ≡ y → SumCounts x order answers blocked y → SumCounts x order answers blocked z
counts_here x y z order answers blocked e h = subst (λ (u : Seated). SumCounts x order answers blocked u) (sym e) h

module _ (x y z : Seated) (a0 a1 a2 : Askings) where
  after_lock : (order : List Call) (a : Answer) (reports : List Answer) (j : ℕ) → (order ≡ [] → ⊥) → AnsweredBy 0 x (call_series (call.Lock ∷ []) (a ∷ []) j) y a0 a1 → AnsweredBy 0 y (call_series order reports 0) z a1 a2 → AnsweredBy 0 x (call_series (call.Lock ∷ order) (a ∷ reports) (j + 0)) z a0 a2
  after_lock [] a reports j some h t = absurd (some refl)
  after_lock (d ∷ ds) a reports j some h t = answered-append x y z call.Lock d [] ds (a ∷ []) reports j 0 0 a0 a1 a2 h t

  pub whole_of : (turns : ℕ) (entry : Entering) (task : Call) (r : Result Reply LockFault) (order : List Call) (answers : List Answer) → LockBy 0 x turns (Some (answer_of entry)) y a0 a1 → Inner entry task r order answers → AnsweredBy 0 y (call_series order answers 0) z a1 a2 → InsideCounts y (mended_by true (answer_of entry)) order answers z → WholeBy 0 x (whole_task turns task) r z a0 a2
  whole_of turns entry task r order answers h i t counts =
      let few : h.0 + 0 ≤ turns = (let k = h.1 in omega arith) in
      (call.Lock ∷ order, answer_of entry ∷ answers, h.0 + 0, inner_comes turns entry task r order answers (h.0 + 0) few i, after_lock order (answer_of entry) answers h.0 (inner_some entry task r order answers i) h.2 t, whole_counts x y z turns entry order answers a0 a1 h counts)

  pub cut_of : (turns : ℕ) (entry : Entering) (task : Call) → LockBy 0 x turns (Some (answer_of entry)) y a0 a1 → CutBy y (IsInner entry task) z a1 a2 → CutBy x (AreCallsOf task) z a0 a2
  cut_of turns entry task h t =
      cut_after x y z call.Lock [] (answer_of entry ∷ []) h.0 a0 a1 a2 (IsInner entry task) (AreCallsOf task) h.2 t (within_lock task) (λ done p. within_inner entry task done p)

  pub whole_asked : (turns : ℕ) (task : Call) (r : Result Reply LockFault) → WholeBy 0 x (whole_task turns task) r y a0 a1 → z ≡ y → NeverCrashes 1 a1 a2 → WholeEnds x turns task r z a0 a2
  whole_asked turns task r h e k = (h.0, h.1, h.2, h.3, asked_after x y z h.0 h.1 h.2 a0 a1 a2 h.4 e k, counts_here x y z h.0 h.1 h.2 e h.5)

  cut_at_lock : (order more : List Call) (reports : List Answer) (j : ℕ) (task : Call) → order ≡ call.Lock ∷ more → AreCallsOf task (call.Lock ∷ more) → AnsweredBy 0 x (call_series order reports j) y a0 a1 → z ≡ fell y → Fell 1 a1 a2 → CutBy x (AreCallsOf task) z a0 a2
  cut_at_lock order more reports j task is in_it h e k = cut_asked x y z call.Lock more reports j a0 a1 a2 (AreCallsOf task) (subst (λ (o : List Call). AnsweredBy 0 x (call_series o reports j) y a0 a1) is h) e k in_it

  pub whole_cut : (turns : ℕ) (task : Call) (r : Result Reply LockFault) → WholeBy 0 x (whole_task turns task) r y a0 a1 → z ≡ fell y → Fell 1 a1 a2 → CutBy x (AreCallsOf task) z a0 a2
  whole_cut turns task (Ok it) h e k = cut_at_lock h.0 (calls_inside h.3.1 task) h.1 h.2 task h.3.3 (inl (h.3.1, front_all (call.Lock ∷ calls_inside h.3.1 task))) h.4 e k
  whole_cut turns task (Err purpose) h e k = by_cause h.3
    where
      alone : h.0 ≡ call.Lock ∷ [] → CutBy x (AreCallsOf task) z a0 a2
      alone is = cut_at_lock h.0 [] h.1 h.2 task is (within_lock task) h.4 e k

      answered : ((purpose ≡ fault.NumbersSpent) × (h.0 ≡ call.Lock ∷ []) × (h.1 ≡ answer.NumbersSpent ∷ []))
          ⊎ (((purpose ≡ fault.NotRecoverable) × (h.0 ≡ call.Lock ∷ []) × (h.1 ≡ answer.NotRecoverable ∷ [])) ⊎ ((purpose ≡ fault.NotRecoverable) × (h.0 ≡ call.Lock ∷ call.Consistent ∷ call.Unlock ∷ []) × (h.1 ≡ answer.OwnerDied ∷ answer.NotRecoverable ∷ answer.Unlocked ∷ [])))
          → CutBy x (AreCallsOf task) z a0 a2
      answered (inl c) = alone c.1
      answered (inr (inl c)) = alone c.1
      answered (inr (inr c)) = cut_at_lock h.0 (call.Consistent ∷ call.Unlock ∷ []) h.1 h.2 task c.1 (inr (front_all (call.Lock ∷ call.Consistent ∷ call.Unlock ∷ []))) h.4 e k

      by_cause : IsWholeOutcome turns task (Err purpose) h.0 h.1 h.2 → CutBy x (AreCallsOf task) z a0 a2
      by_cause (inl c) = alone c.1
      by_cause (inr c) = answered c.1

module _ (x y : Seated) (turns : ℕ) (task : Call) (a0 a1 : Askings) where
  pub goes_idle : (r : Result Reply LockFault) → WholeGoes x turns task r y a0 a1 → y.seat_view.start ≡ None
  goes_idle r (inl h) = h.4.1.idle
  goes_idle r (inr h) = h.1.1.idle

  pub goes_ok : (r : Reply) → WholeGoes x turns task (Ok r) y a0 a1 → WholeEnds x turns task (Ok r) y a0 a1
  goes_ok r (inl h) = h
  goes_ok r (inr h) = absurd (let k = h.0 in cc)

module _ (x y : Seated) (turns : ℕ) (task : Call) (a0 a1 : Askings) (may : refusal_now (free_to_start x) call.Lock ≡ None) where
  pub goes_err : (e : LockFault) → WholeGoes (began (free_to_start x) call.Lock) turns task (Err e) y a0 a1 → WholeFails x turns task y a0 a1 e
  goes_err e (inl h) = inr (may, inr h)
  goes_err e (inr h) = inr (may, inl ((let k = h.0 in cc), h.1))

  pub lock_fails : (e : LockFault) → e ≡ fault.Crashed → CutIn (began (free_to_start x) call.Lock) call.Lock y a0 a1 → WholeFails x turns task y a0 a1 e
  lock_fails e is h =
      inr (may, inl (is, cut_more (began (free_to_start x) call.Lock) y a0 a1 (λ (order : List Call). order ≡ call.Lock ∷ []) (AreCallsOf task) h (λ done k. subst (AreCallsOf task) (sym k) (within_lock task))))

-- a call that was accepted, and its steps
pub cut_from : (y w z : Seated) (task : Call) (n : List TakenStep) → w ≡ after_further_start y task → IsSeatView w.seat_view → CutOff w n z → Crashes y task z n
cut_from y w z task n e seat_view h = cut_after_it y z task n (subst (λ (u : Seated). IsSeatView u.seat_view) e seat_view) (subst (λ (u : Seated). CutOff u n z) e h)

pub ran_from : (y w z : Seated) (task : Call) (a : Answer) (n : List TakenStep) → w ≡ after_further_start y task → IsSeatView w.seat_view → {o : Option Answer} → o ≡ Some a → Ran w o z n → ServedAll y (task ∷ []) (a ∷ []) 0 z n
ran_from y w z task a n e seat_view {o} is h =
    ran_after y z task a n (subst (λ (u : Seated). IsSeatView u.seat_view) e seat_view) (subst (λ (t : Seated × Option Answer). Ran t.0 t.1 z n) (λ i. (e i, is i)) h)

-- a lock that entered, and the calls after it
pub lock_is : (x y : Seated) (turns : ℕ) (a0 a1 : Askings) (o p : Option Answer) → o ≡ p → LockBy 0 x turns o y a0 a1 → LockBy 0 x turns p y a0 a1
lock_is x y turns a0 a1 o p is h = subst (λ (q : Option Answer). LockBy 0 x turns q y a0 a1) is h

-- the outcome of a whole mailbox call, from right after its start
module _ (x w y : Seated) (turns : ℕ) (task : Call) (a0 a1 : Askings) (e : w ≡ began (free_to_start x) call.Lock) where
  from_start : (r : Result Reply LockFault) → WholeGoes w turns task r y a0 a1 → WholeGoes (began (free_to_start x) call.Lock) turns task r y a0 a1
  from_start r h = subst (λ (u : Seated). WholeGoes u turns task r y a0 a1) e h

  pub whole_replied : (r : Result Reply LockFault) → WholeGoes w turns task r y a0 a1 → IfOk r (λ (it : Reply). WholeEnds (began (free_to_start x) call.Lock) turns task (Ok it) y a0 a1)
  whole_replied (Ok it) h = goes_ok (began (free_to_start x) call.Lock) y turns task a0 a1 it (from_start (Ok it) h)
  whole_replied (Err purpose) h = tt

  pub whole_fails : refusal_now (free_to_start x) call.Lock ≡ None → (r : Result Reply LockFault) → WholeGoes w turns task r y a0 a1 → IfErr r (WholeFails x turns task y a0 a1)
  whole_fails may (Ok it) h = tt
  whole_fails may (Err purpose) h = goes_err x y turns task a0 a1 may purpose (from_start (Err purpose) h)

  pub cut_fails : refusal_now (free_to_start x) call.Lock ≡ None → (purpose : LockFault) → purpose ≡ fault.Crashed → CutIn w call.Lock y a0 a1 → WholeFails x turns task y a0 a1 purpose
  cut_fails may purpose is h = lock_fails x y turns task a0 a1 may purpose is (subst (λ (u : Seated). CutIn u call.Lock y a0 a1) e h)

-- the task still fits
pub task_fits : (x w y : Seated) (turns : ℕ) (o : Option Answer) (task : Call) (a0 a1 : Askings) → w ≡ began (free_to_start x) call.Lock → LockBy 0 w turns o y a0 a1 → IsTask x.seat_view.setup.layout task → IsTask y.seat_view.setup.layout task
task_fits x w y turns o task a0 a1 e h fits =
    let same : y.seat_view.setup ≡ x.seat_view.setup = lock_setup w y turns o a0 a1 h ∙ ap (λ (u : Seated). u.seat_view.setup) e ∙ (ready_same (is_idle (process_state_now x.seat_view)) x).0 in
    subst (λ (s : Setup). IsTask s.layout task) (sym same) fits

-- a fact of an answer, with the number of turns that it holds for
pub ok_some : {T E : Type 0} (P : ℕ → T → Type 0) (r : Result T E) (turns : ℕ) → IfOk r (P turns) → IfOk r (λ (it : T). (k : ℕ) × P k it)
ok_some P (Ok it) turns h = (turns, h)
ok_some P (Err purpose) turns h = tt

pub err_some : {T E : Type 0} (P : ℕ → E → Type 0) (r : Result T E) (turns : ℕ) → IfErr r (P turns) → IfErr r (λ (purpose : E). (k : ℕ) × P k purpose)
err_some P (Ok it) turns h = tt
err_some P (Err purpose) turns h = (turns, h)

pub err_more : {T E : Type 0} (P Q : E → Type 0) (r : Result T E) → IfErr r P → ((purpose : E) → P purpose → Q purpose) → IfErr r Q
err_more P Q (Ok it) h more = tt
err_more P Q (Err purpose) h more = more purpose h
