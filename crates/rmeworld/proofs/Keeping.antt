-- In every run of a world, an act that is not refused is the definition's, and so is its report.
use Rattle.std.proofs.Common.{◌≡◌, ℕ, false, List, [], ◌∷◌, ◌++◌, length, Option, Some, None, refl, sym, ap, subst, inl, inr}
use Rattle.rmeworld.proofs.Common.{Access, Refusal, kind_of, is_glance, own_at, Layout, words_of, Start, Leads, IsLegal, state_of, State, Call, Image, answer_at, done_by, script_state_of, layout_of}
use Rattle.rmeworld.proofs.Common.{IsLawfulImage, IsStartOf, crashed_global_state, IsOrigin, value_of, stepped_if, advanced_if, world_after_start, advance_refusal, world_after_step, crash_refusal, list_of, advanced_by}
use Rattle.rmeworld.proofs.Common.{outer_by, Begins, Falls, lock_deed, MachineState, event_deeds, GlobalState, at_first, WorldState, machine_state_at, process_state_at, global_state_of, Takes, world_event_of, ChoosesLeast, new_world}
use Rattle.rmeworld.proofs.Common.{new_refusal, image_world}
use Rattle.rmeworld.specs.Acts.{Act, Starts, Steps, Crashes, unless}
use Rattle.rmeworld.specs.Replayed.{start_refusal, world_step_report, world_after_crash, stepped_by}
use Rattle.rmeworld.specs.WorldRuns.{world_after_act, run_of, IsFirstState, IsEndOfRun}
use Rattle.rmeworld.proofs.Beginning.{follows_new, follows_image, follows_legal, image_origin}
use Rattle.rmeworld.proofs.Following.{Follows, Stepping, below_if, start_is, step_is, follows_started, follows_advanced, follows_crashed}
use Rattle.rmeworld.proofs.WorldSteps.{step_takes, crash_takes}
use Rattle.rmeworld.proofs.WorldTallies.{no_glance}

-- the world is at the end of an execution from this global state, with these sizes, and its history is the execution's deeds
record Goes (l : Layout) (limit : ℕ) (first : GlobalState) (s : WorldState) : Type 0 where
  pub layout : s.layout ≡ l
  pub limited : s.limit ≡ limit
  pub follows : Follows first s s.history

new_goes : (l : Layout) (limit : ℕ) → new_refusal l limit ≡ None → Goes l limit at_first (new_world l limit)
new_goes l limit may = record { layout = refl; limited = refl; follows = follows_new l limit may }

image_goes : (i : Image) → IsLawfulImage i → Goes (layout_of i) i.limit (crashed_global_state (length i.lock) (own_at i.lock) (words_of i.cells)) (image_world i)
image_goes i lawful = record { layout = refl; limited = refl; follows = follows_image i lawful }

module _ (l : Layout) (limit : ℕ) (first : GlobalState) where
  advanced_goes : (s : WorldState) (p : ℕ) → Goes l limit first s → advance_refusal s p ≡ None → Goes l limit first (world_after_step s p)
  advanced_goes s p h may =
      let is = step_is s p h.follows may in
      let a : Access = is.access in
      let follows : Follows first (advanced_by s p a) (s.history ++ list_of (stepped_by s p a).deed) =
      subst (λ o. Follows first (advanced_if s p o) (s.history ++ list_of (stepped_if s p o).deed)) is.step.next (follows_advanced s p h.follows may) in
      subst (λ o. Goes l limit first (advanced_if s p o)) (sym is.step.next)
      (record { layout = h.layout; limited = h.limited; follows = subst (λ ds. Follows first (advanced_by s p a) (s.history ++ ds)) is.one follows })

  act_goes : (s : WorldState) (act : Act) → Goes l limit first s → Goes l limit first (world_after_act s act)
  act_goes s (Starts p call) h = by (start_refusal s p call) refl
    where
      by : (o : Option Refusal) → start_refusal s p call ≡ o → Goes l limit first (unless o s (world_after_start s p call))
      by None may = record { layout = h.layout; limited = h.limited; follows = follows_started s p call h.follows may }
      by (Some r) refused = h
  act_goes s (Steps p) h = by (advance_refusal s p) refl
    where
      by : (o : Option Refusal) → advance_refusal s p ≡ o → Goes l limit first (unless o s (world_after_step s p))
      by None may = advanced_goes s p h may
      by (Some r) refused = h
  act_goes s (Crashes p) h = by (crash_refusal s p) refl
    where
      by : (o : Option Refusal) → crash_refusal s p ≡ o → Goes l limit first (unless o s (world_after_crash s p))
      by None may = record { layout = h.layout; limited = h.limited; follows = follows_crashed s p h.follows may }
      by (Some r) refused = h

  acts_go : (s : WorldState) (acts : List Act) → Goes l limit first s → Goes l limit first (run_of s acts)
  acts_go s [] h = h
  acts_go s (act ∷ acts) h = acts_go (world_after_act s act) acts (act_goes s act h)

  -- from a beginning its history is legal for the judge
  legal : (state : State) (s : WorldState) → IsOrigin l limit first state → Goes l limit first s → (t : State) × Leads state s.history t
  legal state s begins h =
      follows_legal first state s s.history (subst (λ x. IsOrigin x s.limit first state) (sym h.layout) (subst (λ x. IsOrigin l x first state) (sym h.limited) begins)) h.follows

pub legal_from_new : (l : Layout) (limit : ℕ) (acts : List Act) → new_refusal l limit ≡ None → IsLegal l.procs l.cap (run_of (new_world l limit) acts).history
legal_from_new l limit acts may = legal l limit at_first _ _ (inl (refl, refl)) (acts_go l limit at_first _ acts (new_goes l limit may))

pub legal_from_image : (i : Image) (s : Start) (acts : List Act) → IsLawfulImage i → IsStartOf i s → (t : State) × Leads (state_of s) (run_of (image_world i) acts).history t
legal_from_image i s acts lawful start =
    legal (layout_of i) i.limit _ _ _ (image_origin i s lawful start) (acts_go (layout_of i) i.limit _ _ acts (image_goes i lawful))

-- the world is at the end of some execution
record Follow (s : WorldState) : Type 0 where
  pub first : GlobalState
  pub follows : Follows first s s.history

first_follows : (s : WorldState) (acts : List Act) → IsFirstState s → Follow (run_of s acts)
first_follows s acts (inl h) =
    subst (λ x. Follow (run_of x acts)) (sym h.3) (record { first = at_first; follows = (acts_go h.0 h.1 at_first _ acts (new_goes h.0 h.1 h.2)).follows })
first_follows s acts (inr h) =
    subst (λ x. Follow (run_of x acts)) (sym h.2) (record { first = _; follows = (acts_go (layout_of h.0) h.0.limit _ _ acts (image_goes h.0 h.1)).follows })

run_follows : (s : WorldState) → IsEndOfRun s → Follow s
run_follows s run = subst Follow run.is (first_follows run.first run.acts run.begins)

pub a_start : (s : WorldState) (p : ℕ) (call : Call) → IsEndOfRun s → start_refusal s p call ≡ None → Takes s (Begins p call) (world_after_start s p call)
a_start s p call run may = (start_is s p call (run_follows s run).follows may).3

pub a_crash : (s : WorldState) (p : ℕ) → IsEndOfRun s → crash_refusal s p ≡ None → Takes s (Falls p) (world_after_crash s p)
a_crash s p run may = crash_takes s p (run_follows s run).follows.world.configured (below_if p s.layout.procs None may).0

-- the next step
stepping : (s : WorldState) (p : ℕ) → IsEndOfRun s → advance_refusal s p ≡ None → Stepping s p
stepping s p run may = step_is s p (run_follows s run).follows may

pub a_step : (s : WorldState) (p : ℕ) → IsEndOfRun s → advance_refusal s p ≡ None → Takes s (world_event_of p (world_step_report s p).happened) (world_after_step s p)
a_step s p run may =
    let is = stepping s p run may in
    subst (λ o. Takes s (world_event_of p (stepped_if s p o).happened) (advanced_if s p o)) (sym is.step.next) (step_takes s p is.access is.step)

pub no_look : (s : WorldState) (p : ℕ) → IsEndOfRun s → advance_refusal s p ≡ None → is_glance (world_step_report s p).happened.kind ≡ false
no_look s p run may =
    let is = stepping s p run may in
    let t : MachineState = machine_state_at s.processes p in
    subst (λ o. is_glance (stepped_if s p o).happened.kind ≡ false) (sym is.step.next) (no_glance t.limit t.index t.lock (script_state_of t.script_state) is.access is.step.next)

pub the_least : (s : WorldState) (p : ℕ) → IsEndOfRun s → advance_refusal s p ≡ None → ChoosesLeast s p (world_step_report s p).happened
the_least s p run may =
    let is = stepping s p run may in
    let configuration = is.step.configured.configurations p is.step.below in
    subst (λ o. ChoosesLeast s p (stepped_if s p o).happened) (sym is.step.next) (λ word v some. is.least word v (rw (configuration.0, configuration.1, configuration.2) some))

pub its_outer : (s : WorldState) (p : ℕ) → IsEndOfRun s → advance_refusal s p ≡ None → (world_step_report s p).happened.outer ≡ lock_deed (process_state_at s.processes p) (world_event_of p (world_step_report s p).happened)
its_outer s p run may =
    let is = stepping s p run may in
    let a : Access = is.access in
    let t : MachineState = machine_state_at s.processes p in
    let configuration = is.step.configured.configurations p is.step.below in
    subst (λ o. (stepped_if s p o).happened.outer ≡ lock_deed (process_state_at s.processes p) (world_event_of p (stepped_if s p o).happened)) (sym is.step.next)
    (ap (λ q. outer_by q t.lock (script_state_of t.script_state) (kind_of a) (value_of s a)) configuration.2)

pub its_done : (s : WorldState) (p : ℕ) → IsEndOfRun s → advance_refusal s p ≡ None → (world_step_report s p).happened.done ≡ done_by (process_state_at s.processes p).lock (process_state_at s.processes p).script_state (world_step_report s p).happened.kind (world_step_report s p).happened.value
its_done s p run may =
    let is = stepping s p run may in
    subst (λ o. (stepped_if s p o).happened.done ≡ done_by (process_state_at s.processes p).lock (process_state_at s.processes p).script_state (stepped_if s p o).happened.kind (stepped_if s p o).happened.value) (sym is.step.next) refl

pub its_deed : (s : WorldState) (p : ℕ) → IsEndOfRun s → advance_refusal s p ≡ None → list_of (world_step_report s p).deed ≡ event_deeds s.layout (global_state_of s) (world_event_of p (world_step_report s p).happened)
its_deed s p run may =
    let is = stepping s p run may in
    subst (λ o. list_of (stepped_if s p o).deed ≡ event_deeds s.layout (global_state_of s) (world_event_of p (stepped_if s p o).happened)) (sym is.step.next) is.one

pub its_answer : (s : WorldState) (p : ℕ) → IsEndOfRun s → advance_refusal s p ≡ None → (world_step_report s p).answer ≡ answer_at (process_state_at s.processes p) (world_step_report s p).happened.kind (world_step_report s p).happened.value
its_answer s p run may =
    let is = stepping s p run may in
    subst (λ o. (stepped_if s p o).answer ≡ answer_at (process_state_at s.processes p) (stepped_if s p o).happened.kind (stepped_if s p o).happened.value) (sym is.step.next) refl
