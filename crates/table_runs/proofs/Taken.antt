-- Steps in a row, and their outcome.
use Rattle.std.proofs.Common.{◌≡◌, ℕ, suc, ◌+◌, ◌≤◌, Bool, true, false, if◌then◌else◌, List, [], ◌∷◌, ◌++◌, length, Option, Some, None, IsSome, unwrap_or, refl, sym, ap, ◌∙◌, subst, arith, length-append}
use Rattle.table_runs.proofs.Common.{Kind, Look, Weigh, Word, answer, is_blocked, kind_of, word_of, carried_value, Place, Wait, one_more, Answer, Call, Lock, by_lock, answer_at, blocked_by, and_answer}
use Rattle.table_runs.proofs.Common.{is_idle, is_waiting, ScriptState, Free, Doing, ProcessState, next_process_state, Moves, TakenStep, Setup, answers_of, blocked_of, TakesSteps, blocks, Ran, answers_from, blocked_from, process_state_before}
use Rattle.table_runs.proofs.Common.{is_blocked_at, Going, Still, Lasts, LastsBy, SeatView, process_state_now, next_entry, moved_process_state, Seated, Askings, many_more, NeverCrashes, TakesStep, before, world_events, events_of_run, process_state_past, process_state_of}
use Rattle.table_runs.proofs.Common.{IsUnder, IsAnswerOf, Leaves, UnderBy}
use Rattle.rmeworld.specs.declared.outcome.Outcome.{Outcome}
use Rattle.table_runs.proofs.Under.{blocked_lock}
use Rattle.table_runs.proofs.Leads.{gone-append, process_state_after, process_state_moves}
use Rattle.table_runs.proofs.Running.{taken_moves, next_moves}
use Rattle.table_runs.proofs.Goes.{ProcessStateTo, process_state_step, blocked_waits}
use Rattle.crash_plans.proofs.Counted.{asked_on}

pub takes_sizes : (x y : SeatView) (mine : List TakenStep) → TakesSteps x mine y → (y.setup ≡ x.setup) × (y.by ≡ x.by)
takes_sizes x y [] h = (ap (λ (p : SeatView). p.setup) h, ap (λ (p : SeatView). p.by) h)
takes_sizes x y (e ∷ es) h = let later = takes_sizes h.0 y es h.3 in let a = h.2.adds in (later.0 ∙ a.setup, later.1 ∙ a.by)

pub takes_process_state : (x y : SeatView) (mine : List TakenStep) → TakesSteps x mine y → process_state_of y.setup y.by y.seen ≡ process_state_past x.setup (process_state_of x.setup x.by x.seen) (events_of_run mine)
takes_process_state x y [] h = ap (λ (p : SeatView). process_state_of p.setup p.by p.seen) h
takes_process_state x y (e ∷ es) h =
    let z = h.0 in
    let here : process_state_of z.setup z.by z.seen ≡ process_state_past x.setup (process_state_of x.setup x.by x.seen) (world_events e) = process_state_after x z (next_entry x e.step.kind e.step.word e.value) refl h.2.adds ∙ ap (λ (f : TakenStep). process_state_past x.setup (process_state_of x.setup x.by x.seen) (world_events f)) (sym h.1) in
    takes_process_state z y es h.3 ∙ ap (λ (t : Setup × ProcessState). process_state_past t.0 t.1 (events_of_run es)) (λ i. (h.2.adds.setup i, here i)) ∙ sym (gone-append x.setup (process_state_of x.setup x.by x.seen) (world_events e) (events_of_run es))

pub and_append : (o : Option Answer) (xs ys : List Answer) → and_answer o (xs ++ ys) ≡ and_answer o xs ++ ys
and_append None xs ys = refl
and_append (Some a) xs ys = refl

pub takes-append : (x y z : SeatView) (a b : List TakenStep) → TakesSteps x a y → TakesSteps y b z → TakesSteps x (a ++ b) z
takes-append x y z [] b h k = subst (λ (p : SeatView). TakesSteps p b z) h k
takes-append x y z (e ∷ es) b h k = (h.0, h.1, h.2, takes-append h.0 y z es b h.3 k, h.4)

pub answers-append : (s : Setup) (q : ProcessState) (a b : List TakenStep) → answers_from s q (a ++ b) ≡ answers_from s q a ++ answers_from s (process_state_past s q (events_of_run a)) b
answers-append s q [] b = refl
answers-append s q (x ∷ xs) b =
    ap (and_answer (answer_at (process_state_before s q x) x.step.kind x.value)) (answers-append s (process_state_past s q (world_events x)) xs b ∙ ap (λ (r : ProcessState). answers_from s (process_state_past s q (world_events x)) xs ++ answers_from s r b) (sym (gone-append s q (world_events x) (events_of_run xs))))
    ∙ and_append (answer_at (process_state_before s q x) x.step.kind x.value) (answers_from s (process_state_past s q (world_events x)) xs) (answers_from s (process_state_past s q (events_of_run (x ∷ xs))) b)

assoc : (a b c : ℕ) → a + (b + c) ≡ (a + b) + c
assoc a b c = omega arith

pub blocked-append : (s : Setup) (q : ProcessState) (a b : List TakenStep) → blocked_from s q (a ++ b) ≡ blocked_from s q a + blocked_from s (process_state_past s q (events_of_run a)) b
blocked-append s q [] b = omega arith
blocked-append s q (x ∷ xs) b =
    let later = blocked-append s (process_state_past s q (world_events x)) xs b ∙ ap (λ (r : ProcessState). blocked_from s (process_state_past s q (world_events x)) xs + blocked_from s r b) (sym (gone-append s q (world_events x) (events_of_run xs))) in
    let first = if is_blocked_at (process_state_before s q x) x then 1 else 0 in
    ap (λ (m : ℕ). first + m) later ∙ assoc first (blocked_from s (process_state_past s q (world_events x)) xs) (blocked_from s (process_state_past s q (events_of_run (x ∷ xs))) b)

-- the process state at the next step of a view
at_now : (x y : SeatView) (mine : List TakenStep) (kind : Kind) (word : Word) (v : ℕ) → TakesSteps x mine y → process_state_before x.setup (process_state_past x.setup (process_state_of x.setup x.by x.seen) (events_of_run mine)) (next_entry y kind word v) ≡ process_state_now y
at_now x y mine kind word v h = ap (λ (t : Setup × ProcessState). process_state_past t.0 t.1 (before y.fallen y.start y.by)) (λ i. (sym (takes_sizes x y mine h).0 i, sym (takes_process_state x y mine h) i))

alone : (m : ℕ) → 0 + (m + 0) ≡ m
alone m = omega arith

-- one more step
module _ (x y z : Seated) (mine : List TakenStep) (o : Outcome) (g : Going x mine y) (s : TakesStep y o z) where
  abbrev pub last : TakenStep
  last = next_entry y.seat_view (kind_of s.access) (word_of s.access) (carried_value s.access s.value)

  pub steps_more : z.steps ≡ many_more (length (mine ++ last ∷ [])) x.steps
  steps_more =
      let l : length (mine ++ last ∷ []) ≡ length mine + 1 = length-append mine (last ∷ []) in
      let k : suc (length mine) ≡ length (mine ++ last ∷ []) = omega arith in
      s.steps ∙ ap one_more g.steps ∙ ap (λ (k : ℕ). many_more k x.steps) k

  pub takes_more : TakesSteps x.seat_view (mine ++ last ∷ []) z.seat_view
  takes_more = takes-append x.seat_view y.seat_view z.seat_view mine (last ∷ []) g.takes (z.seat_view, refl, s.advances, refl, next_moves y.seat_view s.access s.next)

  pub answers_more : answers_of x.seat_view (mine ++ last ∷ []) ≡ and_answer o.answer []
  answers_more =
      answers-append x.seat_view.setup (process_state_of x.seat_view.setup x.seat_view.by x.seat_view.seen) mine (last ∷ []) ∙ ap (λ (l : List Answer). l ++ and_answer (answer_at (process_state_before x.seat_view.setup (process_state_past x.seat_view.setup (process_state_of x.seat_view.setup x.seat_view.by x.seat_view.seen) (events_of_run mine)) last) (kind_of s.access) (carried_value s.access s.value)) []) g.answers
      ∙ ap (λ (q : ProcessState). and_answer (answer_at q (kind_of s.access) (carried_value s.access s.value)) []) (at_now x.seat_view y.seat_view mine (kind_of s.access) (word_of s.access) (carried_value s.access s.value) g.takes) ∙ ap (λ (u : Outcome). and_answer u.answer []) (sym s.reports)

  pub blocked_more : blocked_of x.seat_view (mine ++ last ∷ []) ≡ (if o.progress.blocked then 1 else 0)
  blocked_more =
      blocked-append x.seat_view.setup (process_state_of x.seat_view.setup x.seat_view.by x.seat_view.seen) mine (last ∷ []) ∙ ap (λ (m : ℕ). m + blocked_from x.seat_view.setup (process_state_past x.seat_view.setup (process_state_of x.seat_view.setup x.seat_view.by x.seat_view.seen) (events_of_run mine)) (last ∷ [])) g.blocked
      ∙ alone (if is_blocked_at (process_state_before x.seat_view.setup (process_state_past x.seat_view.setup (process_state_of x.seat_view.setup x.seat_view.by x.seat_view.seen) (events_of_run mine)) last) last then 1 else 0)
      ∙ ap (λ (q : ProcessState). if is_blocked_at q last then 1 else 0) (at_now x.seat_view y.seat_view mine (kind_of s.access) (word_of s.access) (carried_value s.access s.value) g.takes) ∙ ap (λ (u : Outcome). if u.progress.blocked then 1 else 0) (sym s.reports)

-- the process state after a step of a call
pub step_to : (call : Call) (y z : Seated) (o : Outcome) (k : ℕ) → TakesStep y o z → IsUnder call (process_state_now y.seat_view) → Lasts y.seat_view.setup.layout.procs (suc k) (process_state_now y.seat_view) → ProcessStateTo call y.seat_view.setup.layout.procs k o.answer o.progress.blocked (process_state_now z.seat_view)
step_to call y z o k s u lasts =
    let q = process_state_now y.seat_view in
    let l = y.seat_view.setup.layout in
    let kind = kind_of s.access in
    let word = word_of s.access in
    let v = carried_value s.access s.value in
    let moves = next_moves y.seat_view s.access s.next in
    let is : moved_process_state y.seat_view kind word v ≡ next_process_state l y.seat_view.setup.limit q (Moves y.seat_view.by kind word v) = ap (next_process_state l y.seat_view.setup.limit q) (taken_moves y.seat_view.by kind word v moves) in
    let some : IsSome (next_process_state l y.seat_view.setup.limit q (Moves y.seat_view.by kind word v)) = subst (λ (t : Option ProcessState). IsSome t) is s.may in
    let there = process_state_step l y.seat_view.by k call y.seat_view.setup.limit q.lock q.mended q.barred q.script_state kind word v some moves u lasts in
    let now : process_state_now z.seat_view ≡ unwrap_or (next_process_state l y.seat_view.setup.limit q (Moves y.seat_view.by kind word v)) q = process_state_moves y.seat_view z.seat_view kind word v s.advances ∙ ap (λ (t : Option ProcessState). unwrap_or t q) is in
    subst (λ (t : Outcome × ProcessState). ProcessStateTo call l.procs k t.0.answer t.0.progress.blocked t.1) (λ i. (sym s.reports i, sym now i)) there

-- a step that is blocked leaves the process in the line
step_waits : (y z : Seated) (o : Outcome) → TakesStep y o z → o.progress.blocked ≡ true → is_waiting (process_state_now z.seat_view).lock ≡ true
step_waits y z o s h =
    let q = process_state_now y.seat_view in
    let l = y.seat_view.setup.layout in
    let kind = kind_of s.access in
    let word = word_of s.access in
    let v = carried_value s.access s.value in
    let moves = next_moves y.seat_view s.access s.next in
    let is : moved_process_state y.seat_view kind word v ≡ next_process_state l y.seat_view.setup.limit q (Moves y.seat_view.by kind word v) = ap (next_process_state l y.seat_view.setup.limit q) (taken_moves y.seat_view.by kind word v moves) in
    let now : process_state_now z.seat_view ≡ unwrap_or (next_process_state l y.seat_view.setup.limit q (Moves y.seat_view.by kind word v)) q = process_state_moves y.seat_view z.seat_view kind word v s.advances ∙ ap (λ (t : Option ProcessState). unwrap_or t q) is in
    let b : blocked_by y.seat_view.by q.lock q.script_state kind v ≡ true = ap (λ (u : Outcome). u.progress.blocked) (sym s.reports) ∙ h in
    subst (λ (t : ProcessState). is_waiting t.lock ≡ true) (sym now) (blocked_waits l y.seat_view.by 0 y.seat_view.setup.limit q.lock q.mended q.barred q.script_state kind word v b)

lasts_more : (n k m : ℕ) (s : Place) (e : ScriptState) → k ≤ m → LastsBy n k s e → LastsBy n m s e
lasts_more n k m s Free h l = (l.0, (let few = l.1 in omega arith))
lasts_more n k m s (Doing purpose left) h l = (l.0, l.1, (let few = l.2 in omega arith), l.3)

-- a blocked reading has no answer, and is a lock's
lock_silent : (p : ℕ) (s : Place) (kind : Kind) (v : ℕ) → is_blocked p s kind v ≡ true → answer s kind v ≡ None
lock_silent p (Wait k unpassed None) Look v h = refl
lock_silent p (Wait k unpassed (Some j)) Weigh v h = refl
lock_silent p _ _ v h = absurd (cc)

blocked_silent : (p : ℕ) (s : Place) (b c : Bool) (e : ScriptState) (kind : Kind) (v : ℕ) → blocked_by p s e kind v ≡ true → answer_at (record { lock = s; mended = b; barred = c; script_state = e }) kind v ≡ None
blocked_silent p s b c Free kind v h = ap (by_lock c) (lock_silent p s kind v h)
blocked_silent p s b c (Doing purpose left) kind v h = absurd (cc)

blocked_is_lock : (n limit p : ℕ) (call : Call) (s : Place) (c : Bool) (e : ScriptState) (kind : Kind) (v : ℕ) → UnderBy call s c e → blocked_by p s e kind v ≡ true → call ≡ Lock
blocked_is_lock n limit p call s c Free kind v u h = blocked_lock n limit p call c s kind v u h
blocked_is_lock n limit p call s c (Doing purpose left) kind v u h = absurd (cc)

pub length_snoc : (mine : List TakenStep) (e : TakenStep) → length (mine ++ e ∷ []) ≡ suc (length mine)
length_snoc mine e = let l = length-append mine (e ∷ []) in omega arith

not_both : (b : Bool) (o : Option Answer) (a : Answer) → (b ≡ true → o ≡ None) → o ≡ Some a → b ≡ false
not_both true o a h e = absurd (let k = sym (h refl) ∙ e in cc)
not_both false o a h e = refl

module _ (x y z : Seated) (mine : List TakenStep) (o : Outcome) (g : Going x mine y) (s : TakesStep y o z) where
  silent : o.progress.blocked ≡ true → o.answer ≡ None
  silent h =
      let q = process_state_now y.seat_view in
      let b : blocked_by y.seat_view.by q.lock q.script_state (kind_of s.access) (carried_value s.access s.value) ≡ true = ap (λ (u : Outcome). u.progress.blocked) (sym s.reports) ∙ h in
      ap (λ (u : Outcome). u.answer) s.reports ∙ blocked_silent y.seat_view.by q.lock q.mended q.barred q.script_state (kind_of s.access) (carried_value s.access s.value) b

  abbrev pub more : List TakenStep
  more = mine ++ last x y z mine o g s ∷ []

  ran_by : (t : Option Answer) → o.answer ≡ t → (if o.progress.blocked then 1 else 0) ≡ blocks t → Ran x t z more
  ran_by t e b = record {
    takes = takes_more x y z mine o g s;
    answers = answers_more x y z mine o g s ∙ ap (λ (u : Option Answer). and_answer u []) e;
    blocked = blocked_more x y z mine o g s ∙ b;
    steps = steps_more x y z mine o g s;
  }

  pub ran_answered : (a : Answer) → o.answer ≡ Some a → Ran x (Some a) z more
  ran_answered a e = ran_by (Some a) e (ap (λ (b : Bool). if b then 1 else 0) (not_both o.progress.blocked o.answer a silent e))

  pub ran_blocked : o.progress.blocked ≡ true → Ran x None z more
  ran_blocked h = ran_by None (silent h) (ap (λ (b : Bool). if b then 1 else 0) h)

  pub goes_on : o.answer ≡ None → o.progress.blocked ≡ false → Going x more z
  goes_on e h = record {
    takes = takes_more x y z mine o g s;
    answers = answers_more x y z mine o g s ∙ ap (λ (u : Option Answer). and_answer u []) e;
    blocked = blocked_more x y z mine o g s ∙ ap (λ (b : Bool). if b then 1 else 0) h;
    steps = steps_more x y z mine o g s;
  }

  pub asked_more : {a b c : Askings} → NeverCrashes (length mine) a b → NeverCrashes 1 b c → NeverCrashes (length more) a c
  asked_more h t =
      let l = length_snoc mine (last x y z mine o g s) in
      let sum : length mine + 1 ≡ length (mine ++ last x y z mine o g s ∷ []) = omega arith in
      asked_on h t sum

-- what follows such a step
pub fits_answer : (call : Call) (y z : Seated) (o : Outcome) (k : ℕ) (a : Answer) → TakesStep y o z → IsUnder call (process_state_now y.seat_view) → Lasts y.seat_view.setup.layout.procs (suc k) (process_state_now y.seat_view) → o.answer ≡ Some a → IsAnswerOf call a × Leaves call a (process_state_now z.seat_view)
fits_answer call y z o k a s u lasts e = subst (λ (t : Option Answer). ProcessStateTo call y.seat_view.setup.layout.procs k t o.progress.blocked (process_state_now z.seat_view)) e (step_to call y z o k s u lasts)

pub goes_with : (call : Call) (y z : Seated) (o : Outcome) (k : ℕ) (b : Bool) → TakesStep y o z → IsUnder call (process_state_now y.seat_view) → Lasts y.seat_view.setup.layout.procs (suc k) (process_state_now y.seat_view) → o.answer ≡ None → o.progress.blocked ≡ b
    → IsUnder call (process_state_now z.seat_view) × (is_idle (process_state_now z.seat_view) ≡ false) × Lasts z.seat_view.setup.layout.procs (if b then suc k else k) (process_state_now z.seat_view)
goes_with call y z o k b s u lasts e h =
    let n = y.seat_view.setup.layout.procs in
    let t : ProcessStateTo call n k None b (process_state_now z.seat_view) = subst (λ (t : Option Answer × Bool). ProcessStateTo call n k t.0 t.1 (process_state_now z.seat_view)) (λ i. (e i, h i)) (step_to call y z o k s u lasts) in
    (t.1, t.0, subst (λ (m : ℕ). Lasts m (if b then suc k else k) (process_state_now z.seat_view)) (ap (λ (t : Setup). t.layout.procs) (sym s.advances.adds.setup)) t.2)

pub still_blocked : (call : Call) (y z : Seated) (o : Outcome) (k : ℕ) → suc k ≤ 256 → TakesStep y o z → IsUnder call (process_state_now y.seat_view) → Lasts y.seat_view.setup.layout.procs (suc k) (process_state_now y.seat_view) → o.answer ≡ None → o.progress.blocked ≡ true → Still call z None
still_blocked call y z o k few s u lasts e h =
    let q = process_state_now y.seat_view in
    let r = process_state_now z.seat_view in
    let t = goes_with call y z o k true s u lasts e h in
    let b : blocked_by y.seat_view.by q.lock q.script_state (kind_of s.access) (carried_value s.access s.value) ≡ true = ap (λ (u : Outcome). u.progress.blocked) (sym s.reports) ∙ h in
    (blocked_is_lock 0 0 y.seat_view.by call q.lock q.barred q.script_state (kind_of s.access) (carried_value s.access s.value) u b, t.0, t.1, lasts_more z.seat_view.setup.layout.procs (suc k) 256 r.lock r.script_state few t.2, step_waits y z o s h)

pub none_of : {A : Type 0} (o : Option A) → ((a : A) → o ≡ Some a → ⊥) → o ≡ None
none_of None h = refl
none_of (Some a) h = absurd (h a refl)
