-- What a member's own entries say of its process state.
use Rattle.std.proofs.Common.{◌≡◌, ℕ, ◌^◌, ◌<◌, ◌≤◌, Bool, true, false, List, [], ◌∷◌, ◌++◌, Option, IsSome, unwrap_or, refl, sym, ap, ◌∙◌, subst, eq-eqb, append-nil}
use Rattle.table_runs.proofs.Common.{Kind, Word, is_store, Call, ProcessState, next_process_state, WorldEvent, at_rest, IsSize, SeatKnowledge, Step, TakenStep, Setup, SeatView, IsSeatView, process_state_now, Adds, single_seat, view_of, glance_step}
use Rattle.table_runs.proofs.Common.{glance_entry, Looks, pending_events, next_entry, moved_process_state, CarriesPending, Did, MayLoad, MayTake, MayStepPastEnd, before, access_event, world_events, events_of_run, entries_of, IsRun, process_state_past, process_state_of, has, index}
use Rattle.table_runs.proofs.Common.{InTable, AllowsEvents, word_count, IsBeyond}
use Rattle.table_runs.proofs.Runs.{own-append, own_mine, spelled_snoc}

pub has_one : (p : ℕ) → has p (p ∷ []) ≡ true
has_one p = rw (eq-eqb p p refl)

pub gone-append : (s : Setup) (process_state : ProcessState) (xs ys : List WorldEvent) → process_state_past s process_state (xs ++ ys) ≡ process_state_past s (process_state_past s process_state xs) ys
gone-append s process_state [] ys = refl
gone-append s process_state (x ∷ xs) ys = gone-append s (unwrap_or (next_process_state s.layout s.limit process_state x) process_state) xs ys

goes-append : (s : Setup) (process_state : ProcessState) (xs ys : List WorldEvent) → AllowsEvents s process_state xs → AllowsEvents s (process_state_past s process_state xs) ys → AllowsEvents s process_state (xs ++ ys)
goes-append s process_state [] ys g h = h
goes-append s process_state (x ∷ xs) ys g h = (g.0, goes-append s (unwrap_or (next_process_state s.layout s.limit process_state x) process_state) xs ys g.1 h)

pub may : (x : SeatView) (kind : Kind) (word : Word) (value : ℕ) → IsSeatView x → IsSome (moved_process_state x kind word value) → MayTake (pending_events x kind word) (view_of x) value
may x kind word value k some = (has_one x.by, goes-append x.setup (process_state_of x.setup x.by x.seen) (before x.fallen x.start x.by) (access_event x.by kind word value ∷ []) k.goes (some, tt))

own_grown : (p : ℕ) (seen between : List TakenStep) (e : TakenStep) → entries_of p between ≡ [] → e.by ≡ p → entries_of p ((seen ++ between) ++ e ∷ []) ≡ entries_of p seen ++ e ∷ []
own_grown p seen between e none by =
    own-append p (seen ++ between) (e ∷ []) ∙ ap (λ (l : List TakenStep). l ++ entries_of p (e ∷ [])) (own-append p seen between ∙ ap (λ (l : List TakenStep). entries_of p seen ++ l) none ∙ append-nil (entries_of p seen))
    ∙ ap (λ (l : List TakenStep). entries_of p seen ++ l) (own_mine p e by)

-- one more own step
pub own_seen : (x y : SeatView) (e : TakenStep) → e.by ≡ x.by → Adds x e y → entries_of x.by y.seen ≡ entries_of x.by x.seen ++ e ∷ []
own_seen x y e by a = ap (entries_of x.by) a.seen ∙ own_grown x.by x.seen a.between e a.apart by

pub process_state_after : (x y : SeatView) (e : TakenStep) → e.by ≡ x.by → Adds x e y → process_state_of y.setup y.by y.seen ≡ process_state_past x.setup (process_state_of x.setup x.by x.seen) (world_events e)
process_state_after x y e by a =
    subst (λ (t : Setup × ℕ). process_state_of t.0 t.1 y.seen ≡ process_state_past x.setup (process_state_of x.setup x.by x.seen) (world_events e)) (λ i. (sym a.setup i, sym a.by i))
    (ap (λ (es : List TakenStep). process_state_past x.setup at_rest (events_of_run es)) (own_seen x y e by a) ∙ ap (process_state_past x.setup at_rest) (spelled_snoc (entries_of x.by x.seen) e) ∙ gone-append x.setup at_rest (events_of_run (entries_of x.by x.seen)) (world_events e))

-- the process is in the state to which the step leads
pub process_state_moves : (x y : SeatView) (kind : Kind) (word : Word) (value : ℕ) → CarriesPending x kind word value y → process_state_now y ≡ unwrap_or (moved_process_state x kind word value) (process_state_now x)
process_state_moves x y kind word value a =
    let here : process_state_of y.setup y.by y.seen ≡ unwrap_or (moved_process_state x kind word value) (process_state_now x) =
    process_state_after x y (next_entry x kind word value) refl a.adds ∙ gone-append x.setup (process_state_of x.setup x.by x.seen) (before x.fallen x.start x.by) (access_event x.by kind word value ∷ []) in
    let still : process_state_now y ≡ process_state_of y.setup y.by y.seen = ap (λ (t : Bool × Option Call). process_state_past y.setup (process_state_of y.setup y.by y.seen) (before t.0 t.1 y.by)) (λ i. (a.fallen i, a.start i)) in
    still ∙ here

-- a glance leaves the process state and the pending events
looked_process_state : (x y : SeatView) (word : Word) (value : ℕ) → Looks x word value y → process_state_of y.setup y.by y.seen ≡ process_state_of x.setup x.by x.seen
looked_process_state x y word value a = process_state_after x y (glance_entry x word value) refl a.adds

pub process_state_stays : (x y : SeatView) (word : Word) (value : ℕ) → Looks x word value y → process_state_now y ≡ process_state_now x
process_state_stays x y word value a =
    ap (λ (t : ProcessState × Bool × Option Call × Setup × ℕ). process_state_past t.3 t.0 (before t.1 t.2 t.4)) (λ i. (looked_process_state x y word value a i, a.fallen i, a.start i, a.adds.setup i, a.adds.by i))

pub stays_seat_view : (x y : SeatView) (word : Word) (value : ℕ) → Looks x word value y → IsSeatView x → IsSeatView y
stays_seat_view x y word value a k = record {
  size = subst (λ (s : Setup). IsSize s.layout) (sym a.adds.setup) k.size;
  limited = subst (λ (s : Setup). (1 ≤ s.limit) × (s.limit ≤ 2 ^ 62)) (sym a.adds.setup) k.limited;
  words = ap (λ t. t.words) a.adds.table ∙ k.words ∙ ap word_count (sym a.adds.setup);
  below = subst (λ (t : Setup × ℕ). t.1 < t.0.layout.procs) (λ i. (sym a.adds.setup i, sym a.adds.by i)) k.below;
  run = a.adds.run;
  goes = subst (λ (t : ProcessState × Bool × Option Call × Setup × ℕ). AllowsEvents t.3 t.0 (before t.1 t.2 t.4)) (λ i. (sym (looked_process_state x y word value a) i, sym a.fallen i, sym a.start i, sym a.adds.setup i, sym a.adds.by i)) k.goes;
}

alone_is : (x : SeatView) (k : SeatKnowledge) → k ≡ single_seat x.setup x.by x.seen → k.view ≡ view_of x
alone_is x k e = ap (λ (l : SeatKnowledge). l.view) e

pub may_load : (x : SeatView) (k : SeatKnowledge) (kind : Kind) (word : Word) (at : ℕ) → k ≡ single_seat x.setup x.by x.seen → IsSeatView x → InTable x.setup word → at ≡ index x.setup word → is_store kind ≡ false → ((found : ℕ) → found < 18446744073709551616 → IsSome (moved_process_state x kind word found)) → MayLoad (pending_events x kind word) at k.view
may_load x k kind word at e seat_view t is loads some =
    subst (λ v. MayLoad (pending_events x kind word) at v) (sym (alone_is x k e)) (is, t, loads, λ found small. may x kind word found seat_view (some found small))

-- what a step adds to a view
adds_of : (x : SeatView) (step : Step) (value : ℕ) (l : SeatKnowledge) (y : SeatView) → Did step (single_seat x.setup x.by x.seen) value l → y.table ≡ x.table → y.setup ≡ x.setup → y.by ≡ x.by → y.seen ≡ l.view.seen → Adds x (record { by = x.by; step = step; value = value }) y
adds_of x step value l y d table setup by seen = record {
  table = table;
  setup = setup;
  by = by;
  between = d.between;
  seen = seen ∙ d.seen;
  apart = d.apart x.by (has_one x.by);
  run = subst (λ (t : Setup × List TakenStep). IsRun t.0 t.1) (λ i. ((d.setup ∙ sym setup) i, sym seen i)) d.run;
}

pub looks_of : (x : SeatView) (k : SeatKnowledge) (word : Word) (value : ℕ) (l : SeatKnowledge) (y : SeatView) → k ≡ single_seat x.setup x.by x.seen → Did (glance_step word) k value l → y ≡ record { table = x.table; setup = x.setup; by = x.by; fallen = x.fallen; start = x.start; seen = l.view.seen } → Looks x word value y
looks_of x k word value l y e d is =
    record {
      adds = adds_of x (glance_step word) value l y (subst (λ (k : SeatKnowledge). Did (glance_step word) k value l) e d) (ap (λ (p : SeatView). p.table) is) (ap (λ (p : SeatView). p.setup) is) (ap (λ (p : SeatView). p.by) is) (ap (λ (p : SeatView). p.seen) is);
      fallen = ap (λ (p : SeatView). p.fallen) is;
      start = ap (λ (p : SeatView). p.start) is;
    }

-- the seat stays one of a single process
pub alone_after : (x : SeatView) (k : SeatKnowledge) (step : Step) (value : ℕ) (l : SeatKnowledge) → k ≡ single_seat x.setup x.by x.seen → Did step k value l → l ≡ single_seat x.setup x.by l.view.seen
alone_after x k step value l e d =
    let setup : l.view.setup ≡ x.setup = d.setup ∙ ap (λ (k : SeatKnowledge). k.view.setup) e in
    let answers : l.view.answers ≡ x.by ∷ [] = d.answers ∙ ap (λ (k : SeatKnowledge). k.view.answers) e in
    λ i. record { view = record { setup = setup i; answers = answers i; seen = l.view.seen }; reports = d.none_reported i }

-- the same, where the caller's premises name the view otherwise
pub load_as : (x now : SeatView) (k : SeatKnowledge) (kind : Kind) (word : Word) (at : ℕ) → x ≡ now → k ≡ single_seat x.setup x.by x.seen → IsSeatView x → InTable now.setup word → at ≡ index x.setup word → is_store kind ≡ false → ((found : ℕ) → found < 18446744073709551616 → IsSome (moved_process_state now kind word found)) → MayLoad (pending_events x kind word) at k.view
load_as x now k kind word at same e seat_view t is loads some =
    may_load x k kind word at e seat_view (subst (λ (y : SeatView). InTable y.setup word) (sym same) t) is loads (subst (λ (y : SeatView). (found : ℕ) → found < 18446744073709551616 → IsSome (moved_process_state y kind word found)) (sym same) some)

pub seat_view_as : (x now : SeatView) (k : SeatKnowledge) (kind : Kind) (word : Word) (value : ℕ) → x ≡ now → k ≡ single_seat x.setup x.by x.seen → IsSeatView x → IsBeyond now.setup word → (is_store kind ≡ false → value ≡ 0) → IsSome (moved_process_state now kind word value) → MayStepPastEnd (pending_events x kind word) k.view value
seat_view_as x now k kind word value same e seat_view t none some =
    subst (λ v. MayStepPastEnd (pending_events x kind word) v value) (sym (alone_is x k e)) (subst (λ (y : SeatView). IsBeyond y.setup word) (sym same) t, none, may x kind word value seat_view (subst (λ (y : SeatView). IsSome (moved_process_state y kind word value)) (sym same) some))
