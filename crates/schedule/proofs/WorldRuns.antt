-- The run of a schedule on a world is an execution from where the world began, with the events of its lines, so its deeds are
-- legal.
use Rattle.std.proofs.Common.{◌≡◌, ℕ, zero, suc, ◌+◌, ◌-◌, ◌<◌, ◌≤◌, nat_lt, lt-ltb, le-ltb, true, false, is_some, List, [], ◌∷◌, ◌++◌, All, length, map, Option, Some, None, Result, Ok, Err, IfOk, ◌⊎◌, refl, sym, ap, ◌∙◌, subst, inl, inr, append_assoc, append-nil, arith}
use Rattle.std.specs.List.{range_with_len}
use Rattle.std.proofs.lemmas.List.Elements.{All-nil, All-cons}
use Rattle.schedule.proofs.ReplaysCommon.{Fault, Refusal, one_more, Deed, empty_state, State, state_after_deed, Answer, Image, Stepped, new_refusal, WorldState, machine_state_at, process_state_at, global_state_of, Takes, new_world, image_world}
use Rattle.schedule.proofs.ReplaysCommon.{Line, Start, Step, Crash, CrashAll, crashes_in_a_row, reports_by, transitions_of, ReplayFault, Verdict, Fine, Tape, Part, deeds_of, LockReport, Did, Answered, reports_of, did, answer_reports, unless, part_after_line, steps, line_on, run_on, verdict_on, verdict_at, verdict_from, world_behaviour}
use Rattle.rmecore.specs.Machine.{kind_of}
use Rattle.rmecore.specs.declared.access.Access.{Access}
use Rattle.redomail.specs.Layout.{size}
use Rattle.redomail.specs.declared.layout.Layout.{Layout}
use Rattle.judge.specs.Legal.{and_then, judged_all, Leads}
use Rattle.judge.specs.Starts.{state_of}
use Rattle.judge.specs.declared.start.Start.{Start as StartState}
use Rattle.rmeworld.specs.ImageRules.{layout_of, IsLawfulImage}
use Rattle.rmeworld.specs.ImageStart.{IsStartOf}
use Rattle.rmeworld.specs.Reached.{IsOrigin, IsWorld}
use Rattle.rmeworld.specs.Answered.{answer_at}
use Rattle.rmeworld.specs.Replayed.{start_refusal, world_after_start, advance_refusal, world_step_report, stepped_if, world_after_step, advanced_if, crash_refusal, world_after_crash, crash_deed, world_event, value_of, list_of}
use Rattle.rmeworld.specs.ProcessState.{WorldEvent, Begins, Falls}
use Rattle.rmeworld.specs.MachineState.{next_access}
use Rattle.rmeworld.specs.World.{GlobalState, at_first, state_after_event, event_deeds}
use Rattle.rmeworld.proofs.Beginning.{follows_new, follows_image, follows_legal, image_origin}
use Rattle.rmeworld.proofs.Following.{Follows, below_if, start_is, step_is, follows_started, follows_advanced, follows_crashed}
use Rattle.rmeworld.proofs.FromImages.{image_global_state}
use Rattle.rmeworld.proofs.Worlds.{new_global_state}
use Rattle.rmeworld.proofs.WorldSteps.{step_takes, crash_takes}
use Rattle.schedule.specs.Replays.{Replays}
use Rattle.schedule.specs.Executions.{first_global_state, reported_at, reports_in, IsAccessOf, EndsWithAnswer, IsLinePlayed, ArePlayed, lines_played, IsExecution}
use Rattle.schedule.proofs.Busy.{still_busy}
use Rattle.schedule.proofs.Kept.{IsKept, line_keeps, run_keeps}
use Rattle.schedule.proofs.Legs.{Leg, leg_none, leg_one, leg_both, execution_deeds}
use Rattle.schedule.proofs.LineNumbers.{one_more_line, line_stops, numbers_rise}
use Rattle.schedule.proofs.Playing.{deeds_reported, deeds_append}

-- a legal history has no deed that the judge refuses
pub legal_is_fine : (k : ℕ) (s t : State) (deeds : List Deed) → Leads s deeds t → verdict_from k s deeds ≡ Fine
legal_is_fine k s t [] leads = refl
legal_is_fine k s t (d ∷ ds) leads = by (state_after_deed s d) leads (λ u. legal_is_fine (one_more k) u t ds)
  where
    by : (r : Result State Fault) → and_then r (λ u. judged_all u ds) ≡ Ok t → ((u : State) → Leads u ds t → verdict_from (one_more k) u ds ≡ Fine) → verdict_at k r (λ u. verdict_from (one_more k) u ds) ≡ Fine
    by (Ok u) rest later = later u rest
    by (Err fault) rest later = cc

deeds_did : (deed : Option Deed) → deeds_of (did deed) ≡ list_of deed
deeds_did None = refl
deeds_did (Some deed) = refl

-- a world of these sizes that follows an execution from here, whose deeds are reported
record Goes (l : Layout) (limit : ℕ) (first : GlobalState) (s : WorldState) (reports : List LockReport) : Type 0 where
  pub layout : s.layout ≡ l
  pub limited : s.limit ≡ limit
  pub follows : Follows first s (deeds_of reports)

sizes_kept : (s : WorldState) (p : ℕ) → ((world_after_step s p).layout ≡ s.layout) × ((world_after_step s p).limit ≡ s.limit)
sizes_kept s p = by (next_access (machine_state_at s.processes p))
  where
    by : (o : Option Access) → ((advanced_if s p o).layout ≡ s.layout) × ((advanced_if s p o).limit ≡ s.limit)
    by None = (refl, refl)
    by (Some a) = (refl, refl)

one_reported : (d : Option Deed) (ds : List Deed) → list_of d ≡ ds → map Did ds ≡ did d
one_reported None ds is = ap (map Did) (sym is)
one_reported (Some d) ds is = ap (map Did) (sym is)

world_keeps : (l : Layout) (limit : ℕ) (first : GlobalState) → IsKept world_behaviour (Goes l limit first)
world_keeps l limit first =
    record {
      started = λ s h p call now may. record { layout = now.layout; limited = now.limited; follows = follows_started s p call now.follows may };
      advanced = λ s h p now may.
          let kept = sizes_kept s p in
          let step : Stepped = world_step_report s p in
          record {
            layout = kept.0 ∙ now.layout;
            limited = kept.1 ∙ now.limited;
            follows = subst (Follows first (world_after_step s p)) (sym (deeds_append h (reports_of p step.deed step.answer) ∙ ap (λ ds. deeds_of h ++ ds) (deeds_reported p step.deed step.answer ∙ deeds_did step.deed))) (follows_advanced s p now.follows may);
          };
      crashed = λ s h p now may. record {
        layout = now.layout;
        limited = now.limited;
        follows = subst (Follows first (world_after_crash s p)) (sym (deeds_append h (Did (crash_deed p) ∷ []))) (follows_crashed s p now.follows may);
      };
    }

module _ (l : Layout) (limit : ℕ) (first : GlobalState) where
  -- a step of p
  step_leg : (s : WorldState) (h : List LockReport) (p : ℕ) → Goes l limit first s h → advance_refusal s p ≡ None
      → (e : WorldEvent) × IsAccessOf p e × Leg l limit (global_state_of s) (global_state_of (world_after_step s p)) (reports_of p (world_step_report s p).deed (world_step_report s p).answer) (e ∷ [])
  step_leg s h p now may =
      let is = step_is s p now.follows may in
      let e : WorldEvent = world_event s p is.access in
      let said : reported_at l (global_state_of s) e ≡ reports_of p (world_step_report s p).deed (world_step_report s p).answer =
      (λ i. map Did (event_deeds (sym now.layout i) (global_state_of s) e) ++ answer_reports p (answer_at (process_state_at s.processes p) (kind_of is.access) (value_of s is.access)))
      ∙ ap (λ ts. ts ++ answer_reports p (answer_at (process_state_at s.processes p) (kind_of is.access) (value_of s is.access))) (one_reported _ _ is.one)
      ∙ ap (λ o. reports_of p (stepped_if s p o).deed (stepped_if s p o).answer) (sym is.step.next) in
      let takes : Takes s e (world_after_step s p) = subst (λ o. Takes s e (advanced_if s p o)) (sym is.step.next) (step_takes s p is.access is.step) in
      (e, refl, subst (λ ts. Leg l limit (global_state_of s) (global_state_of (world_after_step s p)) ts (e ∷ [])) said (leg_one l limit now.layout now.limited takes))

  abbrev AreSteps : ℕ → ℕ → GlobalState → List WorldEvent → Type 0
  AreSteps p n w es = All (IsAccessOf p) es × ((length es ≡ n) ⊎ ((length es < n) × EndsWithAnswer l limit p w es))

  one_step : (p n : ℕ) (w : GlobalState) (e : WorldEvent) → IsAccessOf p e → EndsWithAnswer l limit p w (e ∷ []) → AreSteps p (suc n) w (e ∷ [])
  one_step p zero w e of answers = (All-cons (IsAccessOf p) e [] of (All-nil (IsAccessOf p)), inl refl)
  one_step p (suc n) w e of answers = (All-cons (IsAccessOf p) e [] of (All-nil (IsAccessOf p)), inr (omega arith, answers))

  more_steps : (p n : ℕ) (w u : GlobalState) (e : WorldEvent) (es : List WorldEvent) → IsAccessOf p e → state_after_event l limit w e ≡ u → AreSteps p n u es → AreSteps p (suc n) w (e ∷ es)
  more_steps p n w u e es of leads (all, inl each) = (All-cons (IsAccessOf p) e es of all, inl (omega (arith, each)))
  more_steps p n w u e es of leads (all, inr fewer) =
      let answers = fewer.1 in
      let said : reports_in l limit w (e ∷ es) ≡ (reported_at l w e ++ answers.1.0) ++ Answered p answers.0 ∷ [] =
      ap (λ x. reported_at l w e ++ reports_in l limit x es) leads ∙ ap (λ ts. reported_at l w e ++ ts) answers.1.1 ∙ sym (append_assoc (reported_at l w e) answers.1.0 (Answered p answers.0 ∷ [])) in
      (All-cons (IsAccessOf p) e es of all, inr (omega (arith, fewer.0), (answers.0, (reported_at l w e ++ answers.1.0, said))))

  -- the steps of a line that is not refused
  steps_leg : (p n : ℕ) (s : WorldState) (h : List LockReport) → Goes l limit first s h → advance_refusal s p ≡ None
      → (es : List WorldEvent) × Leg l limit (global_state_of s) (global_state_of (steps world_behaviour p n s).1) (steps world_behaviour p n s).0 es × AreSteps p n (global_state_of s) es
  unfolding steps
  steps_leg p zero s h now may = ([], leg_none l limit (global_state_of s), (All-nil (IsAccessOf p), inl refl))
  steps_leg p (suc n) s h now may = by (world_step_report s p).answer refl (λ on next. steps_leg p n (world_after_step s p) (h ++ reports) on next)
    where
      reports : List LockReport
      reports = reports_of p (world_step_report s p).deed (world_step_report s p).answer

      goes : is_some (advance_refusal s p) ≡ false
      goes = ap is_some may

      step : (e : WorldEvent) × IsAccessOf p e × Leg l limit (global_state_of s) (global_state_of (world_after_step s p)) reports (e ∷ [])
      step = step_leg s h p now may

      Rest : Type 0
      Rest =
          Goes l limit first (world_after_step s p) (h ++ reports) → advance_refusal (world_after_step s p) p ≡ None
          → (es : List WorldEvent) × Leg l limit (global_state_of (world_after_step s p)) (global_state_of (steps world_behaviour p n (world_after_step s p)).1) (steps world_behaviour p n (world_after_step s p)).0 es
          × AreSteps p n (global_state_of (world_after_step s p)) es

      by : (o : Option Answer) → (world_step_report s p).answer ≡ o → Rest
          → (es : List WorldEvent) × Leg l limit (global_state_of s) (global_state_of (steps world_behaviour p (suc n) s).1) (steps world_behaviour p (suc n) s).0 es × AreSteps p (suc n) (global_state_of s) es
      by (Some answer) is rest =
          let f : is_some (world_step_report s p).answer ≡ true = ap is_some is in
          let said = step.2.said ∙ ap (λ o. did (world_step_report s p).deed ++ answer_reports p o) is in
          rw (goes, f) (
            step.0 ∷ [],
            subst (λ ts. Leg l limit (global_state_of s) (global_state_of (world_after_step s p)) ts (step.0 ∷ [])) (sym (append-nil reports)) step.2,
            one_step p n (global_state_of s) step.0 step.1 (answer, (did (world_step_report s p).deed, said)),
          )
      by None is rest =
          let f : is_some (world_step_report s p).answer ≡ false = ap is_some is in
          let on : Goes l limit first (world_after_step s p) (h ++ reports) = (world_keeps l limit first).advanced s h p now may in
          let more = rest on (still_busy s p now.follows may is) in
          rw (goes, f) (
            step.0 ∷ more.0,
            leg_both l limit step.2 more.1,
            more_steps p n (global_state_of s) (global_state_of (world_after_step s p)) step.0 more.0 step.1 step.2.last more.2,
          )

  abbrev crashes_of_world : ℕ → ℕ → WorldState → List LockReport × WorldState
  crashes_of_world p k s = crashes_in_a_row (transitions_of world_behaviour) reports_by p k s

  -- the crashes of p and of the n - 1 processes after it, which are the last ones
  crashes_leg : (n p k : ℕ) (s : WorldState) (h : List LockReport) → Goes l limit first s h → n + p ≡ l.procs → n ≤ k
      → Leg l limit (global_state_of s) (global_state_of (crashes_of_world p k s).1) (crashes_of_world p k s).0 (map Falls (range_with_len p n))
  unfolding crashes_in_a_row
  crashes_leg zero p zero s h now count few = leg_none l limit (global_state_of s)
  crashes_leg zero p (suc k) s h now count few =
      let gone : nat_lt p s.layout.procs ≡ false = le-ltb p s.layout.procs (omega (arith, count, ap (λ (x : Layout). x.procs) now.layout)) in
      rw gone (leg_none l limit (global_state_of s))
  crashes_leg (suc n) p zero s h now count few = absurd (omega (arith, few))
  crashes_leg (suc n) p (suc k) s h now count few =
      let below : p < s.layout.procs = omega (arith, count, ap (λ (x : Layout). x.procs) now.layout) in
      let there : nat_lt p s.layout.procs ≡ true = lt-ltb p s.layout.procs below in
      let may : crash_refusal s p ≡ None = rw there refl in
      let one : Leg l limit (global_state_of s) (global_state_of (world_after_crash s p)) (Did (crash_deed p) ∷ []) (Falls p ∷ [])
      = leg_one l limit now.layout now.limited (crash_takes s p now.follows.world.configured below) in
      let on : Goes l limit first (world_after_crash s p) (h ++ Did (crash_deed p) ∷ []) = (world_keeps l limit first).crashed s h p now may in
      let rest = crashes_leg n (p + 1) k (world_after_crash s p) (h ++ Did (crash_deed p) ∷ []) on (omega (arith, count)) (omega (arith, few)) in
      rw there (leg_both l limit one rest)

  -- a line that is not refused
  line_leg : (s : WorldState) (h : List LockReport) (line : Line) → Goes l limit first s h → (line_on world_behaviour s line).refused ≡ None
      → (es : List WorldEvent) × Leg l limit (global_state_of s) (global_state_of (line_on world_behaviour s line).left) (line_on world_behaviour s line).reports es × IsLinePlayed l limit (global_state_of s) line es
  unfolding line_on
  line_leg s h (Start p call) now fine = by (start_refusal s p call) refl fine
    where
      by : (o : Option Refusal) → start_refusal s p call ≡ o → (unless o s [] (world_after_start s p call)).refused ≡ None
          → (es : List WorldEvent) × Leg l limit (global_state_of s) (global_state_of (unless o s [] (world_after_start s p call)).left) (unless o s [] (world_after_start s p call)).reports es × (es ≡ Begins p call ∷ [])
      by None may accepted = (Begins p call ∷ [], leg_one l limit now.layout now.limited (start_is s p call now.follows may).3, refl)
      by (Some refusal) refused accepted = absurd (cc)
  line_leg s h (Step p n) now fine = steps_leg p n s h now fine
  line_leg s h (Crash p) now fine = by (crash_refusal s p) refl fine
    where
      by : (o : Option Refusal) → crash_refusal s p ≡ o → (unless o s (Did (crash_deed p) ∷ []) (world_after_crash s p)).refused ≡ None
          → (es : List WorldEvent) × Leg l limit (global_state_of s) (global_state_of (unless o s (Did (crash_deed p) ∷ []) (world_after_crash s p)).left) (unless o s (Did (crash_deed p) ∷ []) (world_after_crash s p)).reports es × (es ≡ Falls p ∷ [])
      by None may accepted = (Falls p ∷ [], leg_one l limit now.layout now.limited (crash_takes s p now.follows.world.configured (below_if p s.layout.procs None may).0), refl)
      by (Some refusal) refused accepted = absurd (cc)
  line_leg s h CrashAll now fine =
      let few : l.procs ≤ 64 = subst (λ (x : Layout). x.procs ≤ 64) now.layout now.follows.world.sized.layout.few in
      (map Falls (range_with_len 0 l.procs), crashes_leg l.procs 0 64 s h now (omega arith) few, refl)

  -- the lines of a run
  run_leg : (k : ℕ) (s : WorldState) (h : List LockReport) (lines : List Line) → Goes l limit first s h
      → (es : List WorldEvent) × Leg l limit (global_state_of s) (global_state_of (run_on world_behaviour k s lines).left) (run_on world_behaviour k s lines).reports es
      × ArePlayed l limit (global_state_of s) (lines_played k (run_on world_behaviour k s lines).refused lines) es
  unfolding run_on
  run_leg k s h [] now = ([], leg_none l limit (global_state_of s), refl)
  run_leg k s h (line ∷ lines) now = by (line_on world_behaviour s line).refused refl (λ on. run_leg (k + 1) part.left (h ++ part.reports) lines on)
    where
      part : Part WorldState Refusal
      part = line_on world_behaviour s line

      rest : Part WorldState (ℕ × Refusal)
      rest = run_on world_behaviour (k + 1) part.left lines

      Later : Type 0
      Later =
          Goes l limit first part.left (h ++ part.reports)
          → (es : List WorldEvent) × Leg l limit (global_state_of part.left) (global_state_of rest.left) rest.reports es × ArePlayed l limit (global_state_of part.left) (lines_played (k + 1) rest.refused lines) es

      by : (o : Option Refusal) → part.refused ≡ o → Later
          → (es : List WorldEvent) × Leg l limit (global_state_of s) (global_state_of (part_after_line k part o rest).left) (part_after_line k part o rest).reports es
          × ArePlayed l limit (global_state_of s) (lines_played k (part_after_line k part o rest).refused (line ∷ lines)) es
      by None fine more =
          let here = line_leg s h line now fine in
          let on : Goes l limit first part.left (h ++ part.reports) = line_keeps world_behaviour (Goes l limit first) s h line (world_keeps l limit first) now in
          let later = more on in
          let there = subst (λ w. ArePlayed l limit w (lines_played (k + 1) rest.refused lines) later.0) (sym here.1.last) later.2 in (
            here.0 ++ later.0,
            leg_both l limit here.1 later.1,
            rw (one_more_line k rest.refused line lines (numbers_rise world_behaviour (k + 1) part.left lines)) (here.0, (later.0, refl, here.2, there)),
          )
      by (Some refusal) stops more =
          let still = line_stops world_behaviour s line refusal stops in
          let none : k - k ≡ 0 = omega arith in (
            [],
            rw (still.0, still.1) (leg_none l limit (global_state_of s)),
            rw none refl,
          )

run_is_fine : (l : Layout) (limit k : ℕ) (first : GlobalState) (state : State) (s : WorldState) (lines : List Line) → IsOrigin l limit first state → Goes l limit first s [] → verdict_on state (deeds_of (run_on world_behaviour k s lines).reports) ≡ Fine
run_is_fine l limit k first state s lines begins now =
    let run : Part WorldState (ℕ × Refusal) = run_on world_behaviour k s lines in
    let end : Goes l limit first run.left run.reports = run_keeps world_behaviour (Goes l limit first) k s [] lines (world_keeps l limit first) now in
    let there : IsOrigin run.left.layout run.left.limit first state = subst (λ x. IsOrigin x run.left.limit first state) (sym end.layout) (subst (λ x. IsOrigin l x first state) (sym end.limited) begins) in
    let legal = follows_legal first state run.left (deeds_of run.reports) there end.follows in
    legal_is_fine 1 state legal.0 (deeds_of run.reports) legal.1

-- the run is an execution from where its world began, with the events of its lines, and its words are those of the execution's end
run_is_execution : (l : Layout) (limit : ℕ) (origin : Option Image) (s : WorldState) (lines : List Line) → global_state_of s ≡ first_global_state origin → Goes l limit (first_global_state origin) s []
    → IsExecution l limit origin lines (run_on world_behaviour 2 s lines)
run_is_execution l limit origin s lines begins now =
    let first : GlobalState = first_global_state origin in
    let run : Part WorldState (ℕ × Refusal) = run_on world_behaviour 2 s lines in
    let end : Goes l limit first run.left run.reports = run_keeps world_behaviour (Goes l limit first) 2 s [] lines (world_keeps l limit first) now in
    let played = run_leg l limit first 2 s [] lines now in
    let h : Leg l limit first (global_state_of run.left) run.reports played.0 = subst (λ w. Leg l limit w (global_state_of run.left) run.reports played.0) begins played.1 in
    let world : IsWorld run.left = end.follows.world in
    record {
      execution = played.0;
      may = h.may;
      events = subst (λ w. ArePlayed l limit w (lines_played 2 run.refused lines) played.0) begins played.2;
      reports = h.said;
      deeds = sym (execution_deeds l limit first played.0) ∙ ap deeds_of h.said;
      words = record {
        version = refl;
        layout = (λ j. record { procs = world.configured.words_each j; cap = run.left.layout.cap; width = run.left.layout.width }) ∙ end.layout;
        limited = end.limited;
        filled = world.filled ∙ ap size end.layout;
        words = ap (λ (w : GlobalState). w.words) (sym h.last);
        cells = ap (λ (w : GlobalState). w.cells) (sym h.last);
      };
    }

-- a world that has reported nothing yet
goes_new : (l : Layout) (limit : ℕ) → new_refusal l limit ≡ None → Goes l limit at_first (new_world l limit) []
goes_new l limit may = record { layout = refl; limited = refl; follows = follows_new l limit may }

goes_image : (i : Image) → IsLawfulImage i → Goes (layout_of i) i.limit (first_global_state (Some i)) (image_world i) []
goes_image i lawful = record { layout = refl; limited = refl; follows = follows_image i lawful }

pub new_is_execution : (l : Layout) (limit : ℕ) (lines : List Line) → new_refusal l limit ≡ None → IsExecution l limit None lines (run_on world_behaviour 2 (new_world l limit) lines)
new_is_execution l limit lines may = run_is_execution l limit None (new_world l limit) lines (new_global_state l limit) (goes_new l limit may)

pub image_is_execution : (i : Image) (lines : List Line) → IsLawfulImage i → IsExecution (layout_of i) i.limit (Some i) lines (run_on world_behaviour 2 (image_world i) lines)
image_is_execution i lines lawful = run_is_execution (layout_of i) i.limit (Some i) (image_world i) lines (image_global_state i) (goes_image i lawful)

pub new_is_fine : (l : Layout) (limit : ℕ) (lines : List Line) → new_refusal l limit ≡ None → verdict_on (empty_state l.procs l.cap) (deeds_of (run_on world_behaviour 2 (new_world l limit) lines).reports) ≡ Fine
new_is_fine l limit lines may = run_is_fine l limit 2 at_first (empty_state l.procs l.cap) (new_world l limit) lines (inl (refl, refl)) (goes_new l limit may)

pub image_is_fine : (i : Image) (start : StartState) (lines : List Line) → IsLawfulImage i → IsStartOf i start → verdict_on (state_of start) (deeds_of (run_on world_behaviour 2 (image_world i) lines).reports) ≡ Fine
image_is_fine i start lines lawful begins =
    run_is_fine (layout_of i) i.limit 2 _ (state_of start) (image_world i) lines (image_origin i start lawful begins) (goes_image i lawful)

-- a replay whose run is fine
pub answers_fine : {S : Type 0} (before now : Tape) (start : State) (image_of : S → Image) (run : Part S (ℕ × Refusal)) (answer : Result Verdict ReplayFault) → verdict_on start (deeds_of run.reports) ≡ Fine → Replays before now start image_of run answer → IfOk answer (λ verdict. verdict ≡ Fine)
answers_fine before now start image_of run (Ok verdict) fine replays = replays.verdict_is ∙ fine
answers_fine before now start image_of run (Err fault) fine replays = tt
