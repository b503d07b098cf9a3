-- A call of one step, as a get or a put of the board is: the run ends with that step.
use Rattle.std.proofs.Common.{◌≡◌, ℕ, ◌<◌, ◌==◌, ◌&&◌, nat_lt, ltb-true, Bool, true, false, if◌then◌else◌, List, [], ◌∷◌, ◌++◌, Option, Some, None, IsSome, All, unwrap_or, refl, sym, ap, ◌∙◌, subst, eqb-true, eq-eqb, inl, inr}
use Rattle.table_runs.proofs.Common.{and_parts, cases_Bool, All-head, All-tail, Kind, Glance as Glances, Word, Data as DataAt, is_glance, Place, Inside}
use Rattle.table_runs.proofs.Common.{next, is_store, Layout, Reply, Task, board_at, Script, Get as Asks, Put as Writes, Done, script, Answer, Mail}
use Rattle.table_runs.proofs.Common.{Call, Working, answer_at, and_answer, start_refusal, ScriptState, Free, Doing, ProcessState, Begins, next_process_state, WorldEvent, at_rest, Moves, only_process_state, who, working, GlobalState}
use Rattle.table_runs.proofs.Common.{at_first, Execution, reading, state_after_event, own_world_events, TakenStep, Setup, is_data, or_earlier, last_put, value_or, Served, FirstStart, AreMoves, FirstCrash, answers_of}
use Rattle.table_runs.proofs.Common.{process_state_before, refusal_now, SeatView, process_state_now, Calls, Seated, began, before, access_event, world_events, events_of_run, entries_of, IsRun, end_of, process_state_past, process_state_of, AllowsEvents, stores}
use Rattle.rmecore.specs.declared.kind.Kind.TheVariants.{Get as Gets, Put as Puts}
use Rattle.rmecore.specs.declared.refusal.Refusal.TheVariants.{BadIndex}
use Rattle.redomail.specs.declared.reply.Reply.TheVariants as reply
use Rattle.redomail.specs.declared.task.Task.TheVariants as task
use Rattle.rmeworld.specs.declared.call.Call.TheVariants.{Get, Put}
use Rattle.rmeworld.proofs.ExecutionGrows.{process_states_are_own}
use Rattle.rmeworld.proofs.WorldTallies.{at_lock_some}
use Rattle.table_runs.specs.Board.{puts}
use Rattle.table_runs.proofs.Runs.{own-append, own_spelled, spelled-append, last_reads}
use Rattle.table_runs.proofs.Leads.{gone-append}
use Rattle.table_runs.proofs.Running.{taken_moves, process_state_begun}
use Rattle.table_runs.proofs.Board.{last-append, board_holds}

-- the own entries of a process are allowed to it in turn
module _ (s : Setup) where
  own_goes : (w : GlobalState) (hs : List WorldEvent) (p : ℕ) → Execution s.layout s.limit w hs → AllowsEvents s (w.process_states p) (own_world_events p hs)
  own_goes w [] p execution = tt
  own_goes w (h ∷ hs) p execution =
      let u : GlobalState = state_after_event s.layout s.limit w h in
      let later = own_goes u hs p execution.1 in
      elim (cases_Bool (who h == p)) [
        | inl is ↦
            let same : who h ≡ p = eqb-true (who h) p is in
            let some : IsSome (next_process_state s.layout s.limit (w.process_states p) h) = subst (λ (q : ℕ). IsSome (next_process_state s.layout s.limit (w.process_states q) h)) same execution.0.1 in
            let here : u.process_states p ≡ unwrap_or (next_process_state s.layout s.limit (w.process_states p) h) (w.process_states p) = process_states_are_own s.layout s.limit p w (h ∷ []) ∙ rw is refl in
            rw is (some, subst (λ (x : ProcessState). AllowsEvents s x (own_world_events p hs)) here later)
        | inr is ↦
            let here : u.process_states p ≡ w.process_states p = process_states_are_own s.layout s.limit p w (h ∷ []) ∙ rw is refl in
            rw is (subst (λ (x : ProcessState). AllowsEvents s x (own_world_events p hs)) here later)
      ]

  pub run_goes : (es : List TakenStep) (p : ℕ) → IsRun s es → AllowsEvents s at_rest (events_of_run (entries_of p es))
  run_goes es p run = subst (AllowsEvents s at_rest) (own_spelled p es) (own_goes at_first (events_of_run es) p run)

  pub goes_front : (process_state : ProcessState) (xs ys : List WorldEvent) → AllowsEvents s process_state (xs ++ ys) → AllowsEvents s process_state xs
  goes_front process_state [] ys g = tt
  goes_front process_state (x ∷ xs) ys g = (g.0, goes_front (unwrap_or (next_process_state s.layout s.limit process_state x) process_state) xs ys g.1)

  pub goes_back : (process_state : ProcessState) (xs ys : List WorldEvent) → AllowsEvents s process_state (xs ++ ys) → AllowsEvents s (process_state_past s process_state xs) ys
  goes_back process_state [] ys g = g
  goes_back process_state (x ∷ xs) ys g = goes_back (unwrap_or (next_process_state s.layout s.limit process_state x) process_state) xs ys g.1

  -- the step of the next entry
  entry_goes : (process_state : ProcessState) (e : TakenStep) (es : List TakenStep) → AllowsEvents s process_state (events_of_run (e ∷ es)) → IsSome (next_process_state s.layout s.limit (process_state_before s process_state e) (access_event e.by e.step.kind e.step.word e.value))
  entry_goes process_state e es g =
      (goes_back process_state (before e.step.crashed e.step.start e.by) (access_event e.by e.step.kind e.step.word e.value ∷ []) (goes_front process_state (world_events e) (events_of_run es) g)).0

own_by : (p : ℕ) (es : List TakenStep) (e : TakenStep) (rest : List TakenStep) → entries_of p es ≡ e ∷ rest → e.by ≡ p
own_by p [] e rest h = absurd (cc)
own_by p (x ∷ xs) e rest h =
    elim (cases_Bool (x.by == p)) [
      | inl is ↦ let all : x ∷ entries_of p xs ≡ e ∷ rest = rw is at h in let same : x ≡ e = cc in ap (λ (y : TakenStep). y.by) (sym same) ∙ eqb-true x.by p is
      | inr is ↦ own_by p xs e rest (rw is at h)
    ]

-- a process inside with no call under way takes no own step
pub inside_stays : (n limit p : ℕ) (kind : Kind) (word : Word) (v : ℕ) → is_glance kind ≡ false → next n limit p Inside kind word v ≡ None
inside_stays n limit p Glances word v move = absurd (cc)
inside_stays n limit p _ word v move = refl

abbrev pub inside_free : Bool → ProcessState
inside_free b = record { lock = Inside; mended = b; barred = false; script_state = Free }

no_more : (l : Layout) (limit p : ℕ) (b : Bool) (kind : Kind) (word : Word) (v : ℕ) → IsSome (next_process_state l limit (inside_free b) (Moves p kind word v)) → is_glance kind ≡ false → ⊥
no_more l limit p b kind word v some move = let none = subst (λ (o : Option Place). IsSome o) (inside_stays l.procs limit p kind word v move) (at_lock_some l p Inside b false (next l.procs limit p Inside kind word v) some) in cc

-- the entry of such a call
pub record Single (x : SeatView) (start : ProcessState) (answers : List Answer) (y : SeatView) (mine : List TakenStep) : Type 0 where
  pub entry : TakenStep
  pub is : mine ≡ entry ∷ []
  pub by : entry.by ≡ x.by
  pub step : IsSome (next_process_state x.setup.layout x.setup.limit start (Moves x.by entry.step.kind entry.step.word entry.value))
  pub answered : and_answer (answer_at start entry.step.kind entry.value) [] ≡ answers
  pub front : List TakenStep
  pub ends : y.seen ≡ front ++ entry ∷ []

-- from this state each step ends inside with no call under way
abbrev pub EndsInside : Layout → ℕ → ℕ → Bool → ProcessState → Type 0
EndsInside l limit p b start =
    (kind : Kind) (word : Word) (v : ℕ) → IsSome (next_process_state l limit start (Moves p kind word v)) → unwrap_or (next_process_state l limit start (Moves p kind word v)) start ≡ inside_free b

module _ (x : SeatView) (call : Call) (start : ProcessState) (b : Bool) (none : x.start ≡ None) (begins : next_process_state x.setup.layout x.setup.limit (process_state_now x) (Begins x.by call) ≡ Some start) (ends : EndsInside x.setup.layout x.setup.limit x.by b start) where
  abbrev s : Setup
  s = x.setup

  abbrev first : ProcessState
  first = process_state_of s x.by x.seen

  abbrev with_call : SeatView
  with_call = record x { start = Some call }

  starts_at : (e : TakenStep) → e.by ≡ x.by → e.step.crashed ≡ x.fallen → e.step.start ≡ Some call → process_state_before s first e ≡ start
  starts_at e by crashed started =
      ap (λ (t : Bool × Option Call × ℕ). process_state_past s first (before t.0 t.1 t.2)) (λ i. (crashed i, started i, by i)) ∙ process_state_begun x call none ∙ ap (λ (o : Option ProcessState). unwrap_or o (process_state_now x)) begins

  module _ (y : SeatView) (e : TakenStep) (rest : List TakenStep) (c : Calls with_call (e ∷ rest) y) (crash : FirstCrash x.fallen (e ∷ rest)) (starts : FirstStart call (e ∷ rest)) (moves : AreMoves (e ∷ rest)) where
    allowed : AllowsEvents s first (events_of_run (e ∷ rest))
    allowed =
        let run : IsRun s y.seen = subst (λ (t : Setup). IsRun t y.seen) c.setup c.run in
        let all : entries_of x.by y.seen ≡ entries_of x.by x.seen ++ e ∷ rest = ap (entries_of x.by) c.seen ∙ own-append x.by x.seen c.since ∙ ap (λ (es : List TakenStep). entries_of x.by x.seen ++ es) c.mine_are in
        goes_back s at_rest (events_of_run (entries_of x.by x.seen)) (events_of_run (e ∷ rest)) (subst (AllowsEvents s at_rest) (ap events_of_run all ∙ spelled-append (entries_of x.by x.seen) (e ∷ rest)) (run_goes s y.seen x.by run))

    by : e.by ≡ x.by
    by = own_by x.by c.since e rest c.mine_are

    at : process_state_before s first e ≡ start
    at = starts_at e by crash.0 starts.0

    is_step : (process_state_before s first e ≡ start) × (access_event e.by e.step.kind e.step.word e.value ≡ Moves x.by e.step.kind e.step.word e.value)
    is_step = (at, taken_moves e.by e.step.kind e.step.word e.value (All-head (λ (f : TakenStep). is_glance f.step.kind ≡ false) e rest moves) ∙ ap (λ (q : ℕ). Moves q e.step.kind e.step.word e.value) by)

    some : IsSome (next_process_state s.layout s.limit start (Moves x.by e.step.kind e.step.word e.value))
    some = subst (λ (t : ProcessState × WorldEvent). IsSome (next_process_state s.layout s.limit t.0 t.1)) (λ i. (is_step.0 i, is_step.1 i)) (entry_goes s first e rest allowed)

    -- and there is no second step
    after : process_state_past s first (world_events e) ≡ inside_free b
    after =
        gone-append s first (before e.step.crashed e.step.start e.by) (access_event e.by e.step.kind e.step.word e.value ∷ [])
        ∙ ap (λ (t : ProcessState × WorldEvent). unwrap_or (next_process_state s.layout s.limit t.0 t.1) t.0) (λ i. (is_step.0 i, is_step.1 i)) ∙ ends e.step.kind e.step.word e.value some

    second : (f : TakenStep) (more : List TakenStep) → rest ≡ f ∷ more → ⊥
    second f more are =
        let crashes : All (λ (g : TakenStep). g.step.crashed ≡ false) (f ∷ more) = subst (All (λ (g : TakenStep). g.step.crashed ≡ false)) are crash.1 in
        let calls : All (λ (g : TakenStep). g.step.start ≡ None) (f ∷ more) = subst (All (λ (g : TakenStep). g.step.start ≡ None)) are starts.1 in
        let all_move : AreMoves (f ∷ more) = subst AreMoves are (All-tail (λ (g : TakenStep). is_glance g.step.kind ≡ false) e rest moves) in
        let crashed : f.step.crashed ≡ false = All-head (λ (g : TakenStep). g.step.crashed ≡ false) f more crashes in
        let none_started : f.step.start ≡ None = All-head (λ (g : TakenStep). g.step.start ≡ None) f more calls in
        let move : is_glance f.step.kind ≡ false = All-head (λ (g : TakenStep). is_glance g.step.kind ≡ false) f more all_move in
        let later : AllowsEvents s (process_state_past s first (world_events e)) (events_of_run (f ∷ more)) = subst (λ (es : List TakenStep). AllowsEvents s (process_state_past s first (world_events e)) (events_of_run es)) are (goes_back s first (world_events e) (events_of_run rest) allowed) in
        let next : IsSome (next_process_state s.layout s.limit (process_state_before s (inside_free b) f) (access_event f.by f.step.kind f.step.word f.value)) = entry_goes s (inside_free b) f more (subst (λ (q : ProcessState). AllowsEvents s q (events_of_run (f ∷ more))) after later) in
        let here : process_state_before s (inside_free b) f ≡ inside_free b = ap (λ (t : Bool × Option Call). process_state_past s (inside_free b) (before t.0 t.1 f.by)) (λ i. (crashed i, none_started i)) in
        let step : IsSome (next_process_state s.layout s.limit (inside_free b) (Moves f.by f.step.kind f.step.word f.value)) = subst (λ (t : ProcessState × WorldEvent). IsSome (next_process_state s.layout s.limit t.0 t.1)) (λ i. (here i, taken_moves f.by f.step.kind f.step.word f.value move i)) next in
        no_more s.layout s.limit f.by b f.step.kind f.step.word f.value step move

  -- the call has this one step
  pub single : (y : SeatView) (mine : List TakenStep) (answers : List Answer) → Calls with_call mine y → FirstCrash x.fallen mine → FirstStart call mine → AreMoves mine → answers_of with_call mine ≡ answers → Single x start answers y mine
  single y [] answers c crash starts moves reports = absurd starts
  single y (e ∷ f ∷ more) answers c crash starts moves reports = absurd (second y e (f ∷ more) c crash starts moves f more refl)
  single y (e ∷ []) answers c crash starts moves reports =
      let last = c.last [] e refl in
      record {
        entry = e;
        is = refl;
        by = by y e [] c crash starts moves;
        step = some y e [] c crash starts moves;
        answered = ap (λ (q : ProcessState). and_answer (answer_at q e.step.kind e.value) []) (sym (at y e [] c crash starts moves)) ∙ reports;
        front = last.0;
        ends = last.1;
      }

-- the calls of the board
abbrev pub board_process_state : Bool → Task → Script Reply → ProcessState
board_process_state b t left = record { lock = Inside; mended = b; barred = false; script_state = Doing (Working t) left }

abbrev pub reads_word : Layout → ℕ → Script Reply
reads_word l i = Asks (board_at l i) (λ v. Done (reply.Word v))

abbrev pub writes_word : Layout → ℕ → ℕ → Script Reply
writes_word l i v = Writes (board_at l i) v (Done reply.Done)

works : (l : Layout) (p : ℕ) (s : Place) (b : Bool) (i : ℕ) (t : Task) → (if nat_lt i 4 then None else Some BadIndex) ≡ None → working l p Inside b (nat_lt i 4) t ≡ Some (board_process_state b t (script l p t)) × (i < 4)
works l p s b i t h =
    elim (cases_Bool (nat_lt i 4)) [ inl is ↦ (rw is refl, ltb-true i 4 is) | inr is ↦ absurd (let bad : Some BadIndex ≡ None = rw is at h in cc) ]

get_begins : (l : Layout) (limit p : ℕ) (s : Place) (b c : Bool) (e : ScriptState) (i : ℕ) → start_refusal l (record { lock = s; mended = b; barred = c; script_state = e }) (Get i) ≡ None
    → (next_process_state l limit (record { lock = s; mended = b; barred = c; script_state = e }) (Begins p (Get i)) ≡ Some (board_process_state b (task.BoardGet i) (reads_word l i))) × (i < 4)
get_begins l limit p Inside b c Free i h = works l p Inside b i (task.BoardGet i) h
get_begins l limit p _ b c Free i h = absurd (cc)
get_begins l limit p s b c (Doing purpose left) i h = absurd (cc)

put_begins : (l : Layout) (limit p : ℕ) (s : Place) (b c : Bool) (e : ScriptState) (i v : ℕ) → start_refusal l (record { lock = s; mended = b; barred = c; script_state = e }) (Put i v) ≡ None
    → (next_process_state l limit (record { lock = s; mended = b; barred = c; script_state = e }) (Begins p (Put i v)) ≡ Some (board_process_state b (task.BoardPut i v) (writes_word l i v))) × (i < 4)
put_begins l limit p Inside b c Free i v h = works l p Inside b i (task.BoardPut i v) h
put_begins l limit p _ b c Free i v h = absurd (cc)
put_begins l limit p s b c (Doing purpose left) i v h = absurd (cc)

-- the one step that each allows, and where it ends
get_step : (l : Layout) (limit p : ℕ) (b : Bool) (i : ℕ) (kind : Kind) (word : Word) (v : ℕ) → IsSome (next_process_state l limit (board_process_state b (task.BoardGet i) (reads_word l i)) (Moves p kind word v)) → (kind ≡ Gets) × (word ≡ DataAt (board_at l i)) × (unwrap_or (next_process_state l limit (board_process_state b (task.BoardGet i) (reads_word l i)) (Moves p kind word v)) (board_process_state b (task.BoardGet i) (reads_word l i)) ≡ inside_free b)
get_step l limit p b i Gets (DataAt j) v some =
    elim (cases_Bool (j == board_at l i)) [
      | inl is ↦ (refl, ap DataAt (eqb-true j (board_at l i) is), rw is refl)
      | inr is ↦ absurd (let bad : IsSome (only_process_state false (inside_free b)) = rw is at some in cc)
    ]
get_step l limit p b i _ _ v some = absurd (cc)

put_step : (l : Layout) (limit p : ℕ) (b : Bool) (i x : ℕ) (kind : Kind) (word : Word) (v : ℕ) → IsSome (next_process_state l limit (board_process_state b (task.BoardPut i x) (writes_word l i x)) (Moves p kind word v)) → (kind ≡ Puts) × (word ≡ DataAt (board_at l i)) × (v ≡ x) × (unwrap_or (next_process_state l limit (board_process_state b (task.BoardPut i x) (writes_word l i x)) (Moves p kind word v)) (board_process_state b (task.BoardPut i x) (writes_word l i x)) ≡ inside_free b)
put_step l limit p b i x Puts (DataAt j) v some =
    elim (cases_Bool ((j == board_at l i) && (v == x))) [
      | inl is ↦ let both = and_parts (j == board_at l i) (v == x) is in (refl, ap DataAt (eqb-true j (board_at l i) both.0), eqb-true v x both.1, rw is refl)
      | inr is ↦ absurd (let bad : IsSome (only_process_state false (inside_free b)) = rw is at some in cc)
    ]
put_step l limit p b i x _ _ v some = absurd (cc)

-- the answer of a get is what the run has put there last
pub got : (x y : Seated) (i v : ℕ) (mine : List TakenStep) → x.seat_view.start ≡ None → refusal_now x (Get i) ≡ None → Served (began x (Get i)) (Get i) (Mail (reply.Word v) ∷ []) 0 y mine → v ≡ value_or (last_put x.seat_view.setup i y.seat_view.seen) 0
got x y i v mine none accepted r =
    let p = x.seat_view in
    let q = process_state_now p in
    let s = p.setup in
    let g = get_begins s.layout s.limit p.by q.lock q.mended q.barred q.script_state i accepted in
    let start = board_process_state q.mended (task.BoardGet i) (reads_word s.layout i) in
    let one = single p (Get i) start q.mended none g.0 (λ kind word v some. (get_step s.layout s.limit p.by q.mended i kind word v some).2) y.seat_view mine (Mail (reply.Word v) ∷ []) r.calls r.crash r.first r.moves r.answered in
    let e = one.entry in
    let k = get_step s.layout s.limit p.by q.mended i e.step.kind e.step.word e.value one.step in
    let same : e.value ≡ v = (let all : Mail (reply.Word e.value) ∷ [] ≡ Mail (reply.Word v) ∷ [] = one.answered in cc) in
    let loads : stores e ≡ false = ap is_store k.0 in
    let run : IsRun s (one.front ++ e ∷ []) = subst (λ (t : Setup × List TakenStep). IsRun t.0 t.1) (λ i. (r.calls.setup i, one.ends i)) r.calls.run in
    let read : (end_of s one.front).cells (board_at s.layout i) ≡ e.value = ap (reading (end_of s one.front)) (sym k.1) ∙ last_reads s one.front e run loads in
    let none_put : (if puts s i e then Some e else None) ≡ None = ap (λ (b : Bool). if b && is_data (board_at s.layout i) e.step.word then Some e else None) loads in
    let here : last_put s i y.seat_view.seen ≡ last_put s i one.front = ap (last_put s i) one.ends ∙ last-append s i one.front (e ∷ []) ∙ ap (λ (o : Option TakenStep). or_earlier o (last_put s i one.front)) none_put in
    sym same ∙ sym read ∙ board_holds s i g.1 one.front ∙ ap (λ (o : Option TakenStep). value_or o 0) (sym here)

-- what was put is the run's last put there, and the caller's own
pub has_put : (x y : Seated) (i v : ℕ) (reply : Reply) (mine : List TakenStep) → x.seat_view.start ≡ None → refusal_now x (Put i v) ≡ None → Served (began x (Put i v)) (Put i v) (Mail reply ∷ []) 0 y mine
    → (e : TakenStep) × (last_put x.seat_view.setup i y.seat_view.seen ≡ Some e) × (e.by ≡ x.seat_view.by) × (e.value ≡ v)
has_put x y i v reply mine none accepted r =
    let p = x.seat_view in
    let q = process_state_now p in
    let s = p.setup in
    let g = put_begins s.layout s.limit p.by q.lock q.mended q.barred q.script_state i v accepted in
    let start = board_process_state q.mended (task.BoardPut i v) (writes_word s.layout i v) in
    let one = single p (Put i v) start q.mended none g.0 (λ kind word u some. (put_step s.layout s.limit p.by q.mended i v kind word u some).3) y.seat_view mine (Mail reply ∷ []) r.calls r.crash r.first r.moves r.answered in
    let e = one.entry in
    let k = put_step s.layout s.limit p.by q.mended i v e.step.kind e.step.word e.value one.step in
    let is : puts s i e ≡ true = (λ j. is_store (k.0 j) && is_data (board_at s.layout i) (k.1 j)) ∙ eq-eqb (board_at s.layout i) (board_at s.layout i) refl in
    let one_put : (if puts s i e then Some e else None) ≡ Some e = ap (λ (b : Bool). if b then Some e else None) is in
    let here : last_put s i y.seat_view.seen ≡ Some e = ap (last_put s i) one.ends ∙ last-append s i one.front (e ∷ []) ∙ ap (λ (o : Option TakenStep). or_earlier o (last_put s i one.front)) one_put in
    (e, here, one.by, k.2)
