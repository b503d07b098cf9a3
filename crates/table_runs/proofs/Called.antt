-- Steps of a call are a call.
use Rattle.std.proofs.Common.{◌≡◌, ℕ, ◌⊎◌, true, false, List, [], ◌∷◌, ◌++◌, length, Option, Some, None, Result, Ok, Err, OnErr, All, refl, sym, ap, ◌∙◌, subst, inl, inr, append-nil, append_assoc}
use Rattle.table_runs.proofs.Common.{All-nil, All-cons, is_glance, Answer, Call, TakenStep, Served, and_call, starts, FirstStart, AreMoves, FirstCrash, answers_of, blocked_of, TakesSteps, blocks, Ran}
use Rattle.table_runs.proofs.Common.{CutOff, Crashes, SeatView, IsSeatView, EndsWith, Adds, Calls, Seated, many_more, fell, entries_of, IsRun}
use Rattle.table_runs.proofs.Runs.{own-append, own_mine}

calls_none : (x : SeatView) → IsRun x.setup x.seen → Calls x [] x
calls_none x run = record { table = refl; setup = refl; by = refl; since = []; seen = sym (append-nil x.seen); mine_are = refl; last = ends_none x.seen; run = run }
  where
    ends_none : (es : List TakenStep) → EndsWith [] es
    ends_none es [] e h = absurd (cc)
    ends_none es (f ∷ fs) e h = absurd (cc)

ends_one : (e : TakenStep) (es xs : List TakenStep) → es ≡ xs ++ e ∷ [] → EndsWith (e ∷ []) es
ends_one e es xs h [] last k = (xs, h ∙ ap (λ (l : TakenStep). xs ++ l ∷ []) (let s : e ≡ last = cc in s))
ends_one e es xs h (f ∷ []) last k = absurd (let t : [] ≡ last ∷ [] = cc in cc)
ends_one e es xs h (f ∷ g ∷ fs) last k = absurd (let t : [] ≡ g ∷ (fs ++ last ∷ []) = cc in cc)

pub ends_cons : (e f : TakenStep) (fs es : List TakenStep) → EndsWith (f ∷ fs) es → EndsWith (e ∷ f ∷ fs) es
ends_cons e f fs es h [] last k = absurd (let t : f ∷ fs ≡ [] = cc in cc)
ends_cons e f fs es h (g ∷ front) last k = h front last (let t : f ∷ fs ≡ front ++ last ∷ [] = cc in t)

-- steps in a row, each with its entry
abbrev pub Grows : SeatView → List TakenStep → SeatView → Type 0
Grows x [] y = y ≡ x
Grows x (e ∷ es) y = (z : SeatView) × (e.by ≡ x.by) × Adds x e z × Grows z es y

ends_with : (e : TakenStep) (es : List TakenStep) (z y : SeatView) (xs : List TakenStep) → z.seen ≡ xs ++ e ∷ [] → Grows z es y → EndsWith es y.seen → EndsWith (e ∷ es) y.seen
ends_with e [] z y xs h t last = ends_one e y.seen xs (ap (λ (p : SeatView). p.seen) t ∙ h)
ends_with e (f ∷ fs) z y xs h t last = ends_cons e f fs y.seen last

pub calls_grown : (x y : SeatView) (mine : List TakenStep) → IsRun x.setup x.seen → Grows x mine y → Calls x mine y
calls_grown x y [] run h = subst (Calls x []) (sym h) (calls_none x run)
calls_grown x y (e ∷ es) run h =
    let z = h.0 in
    let a = h.2 in
    let c = calls_grown z y es a.run h.3 in
    let since : List TakenStep = (a.between ++ e ∷ []) ++ c.since in
    record {
      table = c.table ∙ a.table;
      setup = c.setup ∙ a.setup;
      by = c.by ∙ a.by;
      since = since;
      seen = c.seen ∙ ap (λ (l : List TakenStep). l ++ c.since) a.seen ∙ ap (λ (l : List TakenStep). l ++ c.since) (append_assoc x.seen a.between (e ∷ [])) ∙ append_assoc x.seen (a.between ++ e ∷ []) c.since;
      mine_are = own-append x.by (a.between ++ e ∷ []) c.since ∙ ap (λ (l : List TakenStep). l ++ entries_of x.by c.since) (own-append x.by a.between (e ∷ []) ∙ ap (λ (l : List TakenStep). l ++ entries_of x.by (e ∷ [])) a.apart ∙ own_mine x.by e h.1)
          ∙ ap (λ (l : List TakenStep). e ∷ l) (ap (λ (p : ℕ). entries_of p c.since) (sym a.by) ∙ c.mine_are);
      last = ends_with e es z y (x.seen ++ a.between) a.seen h.3 c.last;
      run = c.run;
    }

grows_taken : (x y : SeatView) (mine : List TakenStep) → TakesSteps x mine y → Grows x mine y
grows_taken x y [] h = h
grows_taken x y (e ∷ es) h =
    (h.0, ap (λ (f : TakenStep). f.by) h.1, subst (λ (f : TakenStep). Adds x f h.0) (sym h.1) h.2.adds, grows_taken h.0 y es h.3)

pub calls_of : (x y : SeatView) (mine : List TakenStep) → IsRun x.setup x.seen → TakesSteps x mine y → Calls x mine y
calls_of x y mine run h = calls_grown x y mine run (grows_taken x y mine h)

-- where nothing is pending, the steps carry nothing
nothing_carried : (z y : SeatView) (es : List TakenStep) → TakesSteps z es y → z.fallen ≡ false → z.start ≡ None → All (λ (f : TakenStep). f.step.crashed ≡ false) es × All (λ (f : TakenStep). f.step.start ≡ None) es × (starts es ≡ [])
nothing_carried z y [] h never_crashes none = (All-nil _, All-nil _, refl)
nothing_carried z y (e ∷ es) h never_crashes none =
    let later = nothing_carried h.0 y es h.3 h.2.fallen h.2.start in
    let first : e.step.start ≡ None = ap (λ (f : TakenStep). f.step.start) h.1 ∙ none in
    (All-cons (λ (f : TakenStep). f.step.crashed ≡ false) e es (ap (λ (f : TakenStep). f.step.crashed) h.1 ∙ never_crashes) later.0, All-cons (λ (f : TakenStep). f.step.start ≡ None) e es first later.1, ap (λ (o : Option Call). and_call o (starts es)) first ∙ later.2)

pub first_crash : (x y : SeatView) (mine : List TakenStep) → TakesSteps x mine y → FirstCrash x.fallen mine
first_crash x y [] h = tt
first_crash x y (e ∷ es) h = (ap (λ (f : TakenStep). f.step.crashed) h.1, (nothing_carried h.0 y es h.3 h.2.fallen h.2.start).0)

pub started_as : (x y : SeatView) (mine : List TakenStep) (call : Call) → TakesSteps x mine y → x.start ≡ Some call → (mine ≡ []) ⊎ (starts mine ≡ call ∷ [])
started_as x y [] call h is = inl refl
started_as x y (e ∷ es) call h is =
    let first : e.step.start ≡ Some call = ap (λ (f : TakenStep). f.step.start) h.1 ∙ is in
    inr (ap (λ (o : Option Call). and_call o (starts es)) first ∙ ap (λ (cs : List Call). call ∷ cs) (nothing_carried h.0 y es h.3 h.2.fallen h.2.start).2)

pub first_start : (x y : SeatView) (mine : List TakenStep) (call : Call) → TakesSteps x mine y → x.start ≡ Some call → (mine ≡ [] → ⊥) → FirstStart call mine
first_start x y [] call h is some = some refl
first_start x y (e ∷ es) call h is some = (ap (λ (f : TakenStep). f.step.start) h.1 ∙ is, (nothing_carried h.0 y es h.3 h.2.fallen h.2.start).1)

pub are_moves : (x y : SeatView) (mine : List TakenStep) → TakesSteps x mine y → AreMoves mine
are_moves x y [] h = All-nil _
are_moves x y (e ∷ es) h = All-cons (λ (f : TakenStep). is_glance f.step.kind ≡ false) e es h.4 (are_moves h.0 y es h.3)

-- after a step nothing is pending
pub nothing_pending_events : (x y : SeatView) (mine : List TakenStep) → TakesSteps x mine y → (mine ≡ [] → ⊥) → (y.fallen ≡ false) × (y.start ≡ None)
nothing_pending_events x y [] h some = absurd (some refl)
nothing_pending_events x y (e ∷ []) h some = (ap (λ (p : SeatView). p.fallen) h.3 ∙ h.2.fallen, ap (λ (p : SeatView). p.start) h.3 ∙ h.2.start)
nothing_pending_events x y (e ∷ f ∷ es) h some = nothing_pending_events h.0 y (f ∷ es) h.3 (λ k. cc)

pub served_of : (x y : Seated) (call : Call) (answers : List Answer) (blocked : ℕ) (mine : List TakenStep) → IsSeatView x.seat_view → x.seat_view.start ≡ Some call → TakesSteps x.seat_view mine y.seat_view → answers_of x.seat_view mine ≡ answers → blocked_of x.seat_view mine ≡ blocked
    → y.steps ≡ many_more (length mine) x.steps → (mine ≡ [] → ⊥) → Served x call answers blocked y mine
served_of x y call answers blocked mine seat_view start takes answered blocks steps some =
    let pending_events = nothing_pending_events x.seat_view y.seat_view mine takes some in
    record {
      calls = calls_of x.seat_view y.seat_view mine seat_view.run takes;
      crash = first_crash x.seat_view y.seat_view mine takes;
      started = at_all (started_as x.seat_view y.seat_view mine call takes start);
      first = first_start x.seat_view y.seat_view mine call takes start some;
      moves = are_moves x.seat_view y.seat_view mine takes;
      answered = answered;
      blocks = blocks;
      steps = steps;
      alive = pending_events.0;
      idle = pending_events.1;
    }
  where
    at_all : (mine ≡ []) ⊎ (starts mine ≡ call ∷ []) → starts mine ≡ call ∷ []
    at_all (inl e) = absurd (some e)
    at_all (inr e) = e

pub calls_fell : (x z y : SeatView) (mine : List TakenStep) → Calls x mine z → y ≡ record z { fallen = true; start = None } → Calls x mine y
calls_fell x z y mine c e = subst (Calls x mine) (sym e) (record { table = c.table; setup = c.setup; by = c.by; since = c.since; seen = c.seen; mine_are = c.mine_are; last = c.last; run = c.run })

pub crashes_of : (x y : Seated) (call : Call) (mine : List TakenStep) → IsSeatView x.seat_view → x.seat_view.start ≡ Some call → CutOff x mine y → Crashes x call y mine
crashes_of x y call mine seat_view start cut =
    let is = ap (λ (s : Seated). s.seat_view) cut.crash in
    record {
      calls = calls_fell x.seat_view cut.last.seat_view y.seat_view mine (calls_of x.seat_view cut.last.seat_view mine seat_view.run cut.takes) is;
      unmoved = λ none. ap (λ (p : SeatView). p.seen) is ∙ ap (λ (p : SeatView). p.seen) (subst (λ (es : List TakenStep). TakesSteps x.seat_view es cut.last.seat_view) none cut.takes);
      crash = first_crash x.seat_view cut.last.seat_view mine cut.takes;
      started = started_as x.seat_view cut.last.seat_view mine call cut.takes start;
      steps = ap (λ (s : Seated). s.steps) cut.crash ∙ cut.steps;
      fallen = ap (λ (p : SeatView). p.fallen) is;
      idle = ap (λ (p : SeatView). p.start) is;
    }

-- there is at least one step with an answer
pub some_steps : (x : Seated) (mine : List TakenStep) (a : Answer) → answers_of x.seat_view mine ≡ a ∷ [] → mine ≡ [] → ⊥
some_steps x mine a e none = absurd (let k : [] ≡ a ∷ [] = sym (ap (answers_of x.seat_view) none) ∙ e in cc)

pub served_ran : (x y : Seated) (call : Call) (a : Answer) (mine : List TakenStep) → IsSeatView x.seat_view → x.seat_view.start ≡ Some call → Ran x (Some a) y mine → Served x call (a ∷ []) 0 y mine
served_ran x y call a mine seat_view start r = served_of x y call (a ∷ []) 0 mine seat_view start r.takes r.answers r.blocked r.steps (some_steps x mine a r.answers)

pub cut_ran : (x y z : Seated) (o : Option Answer) (mine : List TakenStep) → Ran x o y mine → z ≡ fell y → CutOff x mine z
cut_ran x y z o mine r e = record { last = y; takes = r.takes; steps = r.steps; crash = e }

pub on_err : {T E : Type 0} (P : Type 0) (r : Result T E) → P → OnErr r P
on_err P (Ok x) p = tt
on_err P (Err e) p = p

pub served_as : (x y z : Seated) (call : Call) (a : Answer) (mine : List TakenStep) → IsSeatView x.seat_view → x.seat_view.start ≡ Some call → {o : Option Answer} → o ≡ Some a → Ran x o y mine → z ≡ y → Served x call (a ∷ []) 0 z mine
served_as x y z call a mine seat_view start {o} is r e = subst (λ (s : Seated). Served x call (a ∷ []) 0 s mine) (sym e) (served_ran x y call a mine seat_view start (subst (λ (t : Option Answer). Ran x t y mine) is r))
