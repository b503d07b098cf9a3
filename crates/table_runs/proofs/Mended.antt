-- A task of a holder with nothing to mend leaves nothing to mend. A mending that finds the lock ruined leaves the holder
-- unmended.
use Rattle.std.proofs.Common.{◌≡◌, ℕ, ◌==◌, ◌&&◌, Bool, true, false, List, [], ◌∷◌, length, Option, Some, None, unwrap_or, All, ◌⊎◌, inl, inr, refl, sym, ap, ◌∙◌, subst, append-nil}
use Rattle.table_runs.proofs.Common.{All-nil, All-cons, All-head, All-tail, Kind, Word, Data as DataAt, is_glance, Place, Inside, Layout, Reply, Mended, Task, Script, Get as Asks}
use Rattle.table_runs.proofs.Common.{Put as Writes, Done, script, Answer, NotRecoverable, Mail, Call, Consistent, Append, Close, Mending, Working, by_script, answer_at, answer_by, next_or_same, and_answer}
use Rattle.table_runs.proofs.Common.{answers_in, ScriptState, Free, Doing, ProcessState, begun_from, Begins, WorldEvent, Moves, at_lock, only_process_state, process_after_script, moved_by, TakenStep, Setup, Served}
use Rattle.table_runs.proofs.Common.{SeatView, process_state_now, Seated, before, process_state_past, process_state_of, crash_first, process_state_begun, IsHolder, IsTask}
use Rattle.rmecore.specs.declared.kind.Kind.TheVariants.{Get as Gets, Put as Puts}
use Rattle.redomail.specs.declared.task.Task.TheVariants as task
use Rattle.table_runs.proofs.Chained.{calls_process_state}
use Rattle.table_runs.proofs.Leads.{gone-append}
use Rattle.table_runs.proofs.OneStep.{inside_stays}
use Rattle.table_runs.proofs.Tabled.{start_leads, start_of, Stepped, stepped}
use Rattle.table_runs.proofs.Walked.{OwnMoves}

-- inside, mended or not, with the rest of a task or of a mending under way, or with no call under way
abbrev WorkBy : Bool → Place → Bool → ScriptState → Type 0
WorkBy m Inside b Free = b ≡ m
WorkBy m Inside b (Doing (Working t) left) = b ≡ m
WorkBy m Inside b (Doing Mending left) = b ≡ m
WorkBy m _ _ _ = ⊥

abbrev AtWork : Bool → ProcessState → Type 0
AtWork m t = WorkBy m t.lock t.mended t.script_state

either_process_state : (P : ProcessState → Type 0) (ok : Bool) (u v : ProcessState) → P u → P v → P (unwrap_or (only_process_state ok u) v)
either_process_state P true u v h k = h
either_process_state P false u v h k = k

-- a reply is answered only where there is nothing to mend
abbrev Fine : Bool → Option Answer → Type 0
Fine m o = (r : Reply) → o ≡ Some (Mail r) → m ≡ true

task_settles : (m b c : Bool) (t : Task) (left : Script Reply) → b ≡ m → AtWork m (process_after_script b c (Working t) left)
task_settles m b c t (Done a) h = h
task_settles m b c t _ h = h

mending_settles : (m b c : Bool) (left : Script Reply) → b ≡ m → Fine m (by_script Mending b left) → AtWork m (process_after_script b c Mending left)
mending_settles m b c (Done (Mended x)) h fine = sym (fine (Mended x) refl)
mending_settles m b c _ h fine = h

work_step : (l : Layout) (limit p : ℕ) (m : Bool) (s : Place) (b c : Bool) (e : ScriptState) (kind : Kind) (word : Word) (v : ℕ) → is_glance kind ≡ false → WorkBy m s b e → Fine m (answer_by s b c e kind v)
    → AtWork m (unwrap_or (moved_by l limit p s b c e kind word v) (record { lock = s; mended = b; barred = c; script_state = e }))
work_step l limit p m Inside b c Free kind word v moves h fine =
    subst (λ (o : Option Place). AtWork m (unwrap_or (at_lock l p Inside b c o) (record { lock = Inside; mended = b; barred = c; script_state = Free }))) (sym (inside_stays l.procs limit p kind word v moves)) h
work_step l limit p m Inside b c (Doing (Working t) (Asks j rest)) Gets (DataAt i) v moves h fine =
    either_process_state (AtWork m) (i == j) (process_after_script b c (Working t) (rest v)) (record { lock = Inside; mended = b; barred = c; script_state = Doing (Working t) (Asks j rest) }) (task_settles m b c t (rest v) h) h
work_step l limit p m Inside b c (Doing (Working t) (Writes j x rest)) Puts (DataAt i) v moves h fine =
    either_process_state (AtWork m) ((i == j) && (v == x)) (process_after_script b c (Working t) rest) (record { lock = Inside; mended = b; barred = c; script_state = Doing (Working t) (Writes j x rest) }) (task_settles m b c t rest h) h
work_step l limit p m Inside b c (Doing Mending (Asks j rest)) Gets (DataAt i) v moves h fine =
    either_process_state (AtWork m) (i == j) (process_after_script b c Mending (rest v)) (record { lock = Inside; mended = b; barred = c; script_state = Doing Mending (Asks j rest) }) (mending_settles m b c (rest v) h fine) h
work_step l limit p m Inside b c (Doing Mending (Writes j x rest)) Puts (DataAt i) v moves h fine =
    either_process_state (AtWork m) ((i == j) && (v == x)) (process_after_script b c Mending rest) (record { lock = Inside; mended = b; barred = c; script_state = Doing Mending (Writes j x rest) }) (mending_settles m b c rest h fine) h
work_step l limit p m Inside b c (Doing (Working t) left) kind word v moves h fine = h
work_step l limit p m Inside b c (Doing Mending left) kind word v moves h fine = h
work_step l limit p m _ b c _ kind word v moves h fine = absurd h

-- there is nothing to mend, or each of these answers is NotRecoverable
abbrev Ruins : Answer → Type 0
Ruins a = a ≡ NotRecoverable

abbrev NeverCrashes : Bool → List Answer → Type 0
NeverCrashes m answers = (m ≡ true) ⊎ All Ruins answers

never_crashes_now : (m : Bool) (o : Option Answer) (later : List Answer) → NeverCrashes m (and_answer o later) → Fine m o
never_crashes_now m o later (inl mended) r e = mended
never_crashes_now m None later (inr all) r e = absurd (cc)
never_crashes_now m (Some a) later (inr all) r e = let is : a ≡ NotRecoverable = All-head Ruins a later all in absurd (cc)

never_crashes_later : (m : Bool) (o : Option Answer) (later : List Answer) → NeverCrashes m (and_answer o later) → NeverCrashes m later
never_crashes_later m o later (inl mended) = inl mended
never_crashes_later m None later (inr all) = inr all
never_crashes_later m (Some a) later (inr all) = inr (All-tail Ruins a later all)

-- steps in a row
work_gone : (s : Setup) (p : ℕ) (m : Bool) (t : ProcessState) (ms : List WorldEvent) → OwnMoves p ms → NeverCrashes m (answers_in s.layout s.limit t ms) → AtWork m t → AtWork m (process_state_past s t ms)
work_gone s p m t [] moves never_crashes h = h
work_gone s p m t (Moves q kind word v ∷ ms) moves never_crashes h =
    let next_to : ProcessState = next_or_same s.layout s.limit t (Moves q kind word v) in
    let o : Option Answer = answer_at t kind v in
    let later : List Answer = answers_in s.layout s.limit next_to ms in
    work_gone s p m next_to ms moves.1 (never_crashes_later m o later never_crashes) (work_step s.layout s.limit q m t.lock t.mended t.barred t.script_state kind word v moves.0.1 h (never_crashes_now m o later never_crashes))
work_gone s p m t (_ ∷ ms) moves never_crashes h = absurd moves.0

-- the starts
abbrev Begun : Layout → ℕ → Bool → Bool → Call → Type 0
Begun l p m c call = AtWork m (unwrap_or (begun_from l p Inside m Free call) (record { lock = Inside; mended = m; barred = c; script_state = Free }))

task_starts : (l : Layout) (p : ℕ) (c : Bool) (call : Call) → IsTask l call → Begun l p true c call
task_starts l p c (Append seq value) is =
    either_process_state (AtWork true) (true && (length value == l.width)) (record { lock = Inside; mended = true; barred = false; script_state = Doing (Working (task.Append seq value)) (script l p (task.Append seq value)) }) (record { lock = Inside; mended = true; barred = c; script_state = Free }) refl refl
task_starts l p c Close is = refl
task_starts l p c _ is = absurd is

work_begun : (s : Setup) (p : ℕ) (t : ProcessState) (m : Bool) (call : Call) → IsHolder t → t.mended ≡ m → Begun s.layout p m t.barred call → AtWork m (next_or_same s.layout s.limit t (Begins p call))
work_begun s p t m call h mended begun =
    subst (λ (u : Place × Bool × ScriptState). AtWork m (unwrap_or (begun_from s.layout p u.0 u.1 u.2 call) (record { lock = u.0; mended = u.1; barred = t.barred; script_state = u.2 }))) (λ i. (sym h.0 i, sym mended i, sym h.1 i)) begun

work_is : (m : Bool) (s : Place) (b : Bool) (e : ScriptState) → WorkBy m s b e → b ≡ m
work_is m Inside b Free h = h
work_is m Inside b (Doing (Working t) left) h = h
work_is m Inside b (Doing Mending left) h = h
work_is m _ b _ h = absurd h

-- a process with no pending start is in the state in which it begins
begins_here : (x : SeatView) → x.start ≡ None → process_state_now x ≡ process_state_begun x
begins_here x none = ap (λ (o : Option Call). process_state_past x.setup (process_state_of x.setup x.by x.seen) (before x.fallen o x.by)) none ∙ ap (process_state_past x.setup (process_state_of x.setup x.by x.seen)) (append-nil (crash_first x.fallen x.by))

alive_process_state : (y : SeatView) → y.fallen ≡ false → process_state_begun y ≡ process_state_of y.setup y.by y.seen
alive_process_state y alive = ap (λ (b : Bool). process_state_past y.setup (process_state_of y.setup y.by y.seen) (crash_first b y.by)) alive

module _ (x y : Seated) (call : Call) (a : Answer) (blocked : ℕ) (mine : List TakenStep) (idle : x.seat_view.start ≡ None) (r : Served x call (a ∷ []) blocked y mine) where
  walked : Stepped x.seat_view call mine
  walked = stepped x.seat_view y.seat_view call mine r.calls r.crash r.first r.moves

  ends_at : process_state_begun y.seat_view ≡ process_state_past x.seat_view.setup (start_of x.seat_view call) walked.steps
  ends_at =
      let s : Setup = x.seat_view.setup in
      let q : ProcessState = process_state_of s x.seat_view.by x.seat_view.seen in
      alive_process_state y.seat_view r.alive ∙ calls_process_state x.seat_view y.seat_view mine r.calls ∙ ap (process_state_past s q) walked.spelled_as ∙ gone-append s q (before x.seat_view.fallen (Some call) x.seat_view.by) walked.steps
      ∙ ap (λ (t : ProcessState). process_state_past s t walked.steps) (start_leads s x.seat_view.by q x.seat_view.fallen call)

  -- whether there is something to mend is the same before and after such a call
  still : (m : Bool) → IsHolder (process_state_now x.seat_view) → (process_state_now x.seat_view).mended ≡ m → Begun x.seat_view.setup.layout x.seat_view.by m (process_state_begun x.seat_view).barred call → NeverCrashes m (a ∷ []) → (process_state_begun y.seat_view).mended ≡ m
  still m holder mended starts never_crashes =
      let here = begins_here x.seat_view idle in
      let begun = work_begun x.seat_view.setup x.seat_view.by (process_state_begun x.seat_view) m call (subst IsHolder here holder) (subst (λ (t : ProcessState). t.mended ≡ m) here mended) starts in
      let t = process_state_begun y.seat_view in
      work_is m t.lock t.mended t.script_state
      (subst (AtWork m) (sym ends_at) (work_gone x.seat_view.setup x.seat_view.by m (start_of x.seat_view call) walked.steps walked.own (subst (NeverCrashes m) (sym (walked.answers ∙ r.answered)) never_crashes) begun))

  -- a task of a holder with nothing to mend leaves nothing to mend
  pub still_mended : IsTask x.seat_view.setup.layout call → IsHolder (process_state_now x.seat_view) → (process_state_now x.seat_view).mended ≡ true → (process_state_begun y.seat_view).mended ≡ true
  still_mended is holder mended = still true holder mended (task_starts x.seat_view.setup.layout x.seat_view.by (process_state_begun x.seat_view).barred call is) (inl refl)

  -- a mending that finds the lock ruined leaves the holder unmended
  pub still_unmended : call ≡ Consistent → a ≡ NotRecoverable → IsHolder (process_state_now x.seat_view) → (process_state_now x.seat_view).mended ≡ false → (process_state_begun y.seat_view).mended ≡ false
  still_unmended is ruined holder unmended =
      still false holder unmended (subst (Begun x.seat_view.setup.layout x.seat_view.by false (process_state_begun x.seat_view).barred) (sym is) refl) (inr (All-cons Ruins a [] ruined (All-nil Ruins)))
