-- In every run of a world of a variant each process follows the variant's definition.
use Rattle.std.proofs.Common.{◌≡◌, ℕ, ◌+◌, ◌<◌, nat_lt, if◌then◌else◌, Bool, true, false, List, [], ◌∷◌, slice_set, Option, Some, None, IfSome, refl, sym, ap, ◌∙◌, subst, ltb-true, get_or-set_same}
use Rattle.crashlab.proofs.Common.{Access, Refusal, kind_of, word_of, carried_value, Layout, IsLayout, Call, Consistent, Begins, Falls, Moves, MachineState, process_state_of, IsSize, machine_after_start as machine_state_started, world_event}
use Rattle.crashlab.proofs.Common.{Change, Nothing, LeavesOut, Counts, Counted, Deviation, Straight, Variant, Right, NoLook, NoTies, Renumber, ExitOnCrash, CountUp, LastSkipped, IsVariantRun, process_state_at, beside}
use Rattle.crashlab.proofs.Common.{variant_process_state, variant_outer, variant_answer_at, variant_done_at, VariantMachineState, variant_process_state_of, variant_resting, variant_crashed, variant_next_access}
use Rattle.crashlab.proofs.Common.{variant_stepped, variant_outcome, variant_started, change_of, VariantState, machine_state_at, access_at, unless_step, start_refusal, variant_step_report, variant_after_step, advanced_if, variant_after_crash}
use Rattle.crashlab.proofs.Common.{IsVariantConfigured, new_world, found_by, HasVariantConfiguration, stepped_if}
use Rattle.rmecore.specs.declared.refusal.Refusal.TheVariants.{NoSuchProcess}
use Rattle.rmeworld.specs.Acts.{Act, Starts, Steps, Crashes, unless}
use Rattle.rmeworld.specs.Refused.{start_refusal as process_state_refusal}
use Rattle.rmeworld.specs.ProcessState.{at_rest}
use Rattle.rmeworld.proofs.Ordered.{ordered_rest, ordered_crashed}
use Rattle.crashlab.specs.variants.VariantWorlds.{variant_after_start}
use Rattle.crashlab.specs.variants.VariantRuns.{variant_after_act, run_of, move}
use Rattle.rmeworld.proofs.WorldSteps.{words_by_length, cells_by_length}
use Rattle.crashlab.proofs.variants.Configurations.{configured, set_each, variant_step_stays, variant_start_stays, configuration_stays}
use Rattle.crashlab.proofs.variants.Rests.{rest_at, configured_new}
use Rattle.crashlab.proofs.variants.Steady.{Steady, start_steady, changed_process_state, start_goes}
use Rattle.crashlab.proofs.variants.Rows.{IsRow, process_of, Follows, MayGo, Walks, plain_goes}
use Rattle.crashlab.proofs.variants.Waits.{looks_go, ties_go}
use Rattle.crashlab.proofs.variants.Deviations.{renumber_goes, exit_goes}
use Rattle.crashlab.proofs.variants.Repairs.{FitsCount, count_row, count_stays}
use Rattle.crashlab.proofs.variants.Skips.{FitsLeave, skip_row, skip_stays}

-- the machine states that a process of the variant may have

abbrev pub FitsChange : Variant → Change → MachineState → Type 0
FitsChange CountUp change s = FitsCount change s
FitsChange LastSkipped change s = FitsLeave change s
FitsChange variant Nothing s = Unit {0}
FitsChange variant change s = ⊥

pub record Fits (t : VariantMachineState) : Type 0 where
  pub steady : Steady t.machine_state
  pub deviation : MayGo t.variant t.deviation
  pub change : FitsChange t.variant t.change t.machine_state

-- each step is the definition's, and leaves it so

record IsTaken (t : VariantMachineState) (v : ℕ) : Type 0 where
  pub row : Follows t v
  pub fits : Fits (variant_stepped t v)

fits_as : (variant : Variant) (u : VariantMachineState) → u.variant ≡ variant → Steady u.machine_state → MayGo variant u.deviation → FitsChange variant u.change u.machine_state → Fits u
fits_as variant u is steady deviation change = record { steady = steady; deviation = subst (λ x. MayGo x u.deviation) (sym is) deviation; change = subst (λ x. FitsChange x u.change u.machine_state) (sym is) change }

unchanged : (variant : Variant) (s : MachineState) (d : Deviation) (v : ℕ) → ((t : MachineState) → FitsChange variant Nothing t) → Walks variant s d v → IsTaken (process_of variant s d Nothing) v
unchanged variant s d v none g =
    let u = variant_stepped (process_of variant s d Nothing) v in
    record { row = g.row; fits = fits_as variant u (variant_step_stays (process_of variant s d Nothing) v).0 g.steady g.deviation (subst (λ x. FitsChange variant x u.machine_state) (sym g.change) (none u.machine_state)) }

abbrev Left : Variant → VariantMachineState → Type 0
Left variant u = Steady u.machine_state × FitsChange variant u.change u.machine_state × (u.deviation ≡ Straight)

repairs : (variant : Variant) (s : MachineState) (change : Change) (v : ℕ) → MayGo variant Straight → Follows (process_of variant s Straight change) v
    → Left variant (variant_stepped (process_of variant s Straight change) v) → IsTaken (process_of variant s Straight change) v
repairs variant s change v may row left =
    record { row = row; fits = fits_as variant (variant_stepped (process_of variant s Straight change) v) (variant_step_stays (process_of variant s Straight change) v).0 left.0 (subst (MayGo variant) (sym left.2) may) left.1 }

taken : (variant : Variant) (d : Deviation) (change : Change) (s : MachineState) (v : ℕ) → Steady s → MayGo variant d → FitsChange variant change s → IsTaken (process_of variant s d change) v
taken Right Straight Nothing s v h may fits = unchanged Right s Straight v (λ _. tt) (plain_goes Right s v h tt (λ a. (refl, refl, refl)))
taken NoLook Straight Nothing s v h may fits = unchanged NoLook s Straight v (λ _. tt) (looks_go s v h)
taken NoTies Straight Nothing s v h may fits = unchanged NoTies s Straight v (λ _. tt) (ties_go s v h)
taken Renumber d Nothing s v h may fits = unchanged Renumber s d v (λ _. tt) (renumber_goes s d v h may)
taken ExitOnCrash d Nothing s v h may fits = unchanged ExitOnCrash s d v (λ _. tt) (exit_goes s d v h may)
taken CountUp Straight change s v h may fits = repairs CountUp s change v tt (count_row s change v h fits) (count_stays s change v h fits)
taken LastSkipped Straight change s v h may fits = repairs LastSkipped s change v tt (skip_row s change v h fits) (skip_stays s change v h fits)
taken Renumber d LeavesOut s v h may fits = absurd fits
taken Renumber d Counts s v h may fits = absurd fits
taken Renumber d (Counted n) s v h may fits = absurd fits
taken ExitOnCrash d LeavesOut s v h may fits = absurd fits
taken ExitOnCrash d Counts s v h may fits = absurd fits
taken ExitOnCrash d (Counted n) s v h may fits = absurd fits
taken variant Straight change s v h may fits = absurd fits
taken variant d change s v h may fits = absurd may

-- a start

started_change : (variant : Variant) (s : MachineState) (c : Call) → FitsChange variant (change_of variant c) (machine_state_started s c)
started_change CountUp s Consistent = tt
started_change CountUp s _ = tt
started_change LastSkipped s Consistent = (tt, refl)
started_change LastSkipped s _ = tt
started_change _ s Consistent = tt
started_change _ s _ = tt

started_fits : (t : VariantMachineState) (c : Call) → Fits t → process_state_refusal t.machine_state.layout (process_state_of t.machine_state) c ≡ None → Fits (variant_started t c)
started_fits t c h r = record { steady = start_steady t.machine_state c h.steady r; deviation = h.deviation; change = started_change t.variant t.machine_state c }

at_its_start : (t : VariantMachineState) (c : Call) → Fits t → process_state_refusal t.machine_state.layout (process_state_of t.machine_state) c ≡ None
    → variant_process_state t.variant t.machine_state.layout t.machine_state.limit (variant_process_state_of t) (Begins t.machine_state.index c) ≡ Some (variant_process_state_of (variant_started t c))
at_its_start t c h r =
    let configuration = variant_start_stays t c in
    ap (beside t.deviation) (start_goes t.variant t.machine_state t.change c h.steady r)
    ∙ (λ i. Some (record { process_state = changed_process_state (change_of t.variant c) (sym configuration.1 i) (sym configuration.3 i) (process_state_of (machine_state_started t.machine_state c)); deviation = t.deviation }))

-- rest, and a crash

may_straight : (variant : Variant) → MayGo variant Straight
may_straight Renumber = tt
may_straight ExitOnCrash = tt
may_straight _ = tt

no_change : (variant : Variant) (s : MachineState) → FitsChange variant Nothing s
no_change CountUp s = tt
no_change LastSkipped s = tt
no_change _ s = tt

crashed_fits : (t : VariantMachineState) → Fits t → Fits (variant_crashed t)
crashed_fits t h = record { steady = record { layout = h.steady.layout; ordered = ordered_crashed t.machine_state }; deviation = may_straight t.variant; change = no_change t.variant _ }

resting_fits : (variant : Variant) (l : Layout) (limit p : ℕ) → IsLayout l → Fits (variant_resting variant l limit p)
resting_fits variant l limit p lawful = record { steady = record { layout = lawful; ordered = ordered_rest l limit p }; deviation = may_straight variant; change = no_change variant _ }

-- of a whole world

pub record IsFit (s : VariantState) : Type 0 where
  pub configured : IsVariantConfigured s
  pub each : (p : ℕ) → p < s.layout.procs → Fits (machine_state_at s.processes p)

pub new_fit : (variant : Variant) (l : Layout) (limit : ℕ) → IsSize l → IsFit (new_world variant l limit)
new_fit variant l limit sized = record { configured = configured_new variant l limit sized; each = λ p below. subst Fits (sym (rest_at variant l limit 0 l.procs p below)) (resting_fits variant l limit (0 + p) sized.layout) }

start_fit : (s : VariantState) (p : ℕ) (c : Call) (x : Bool) → nat_lt p s.layout.procs ≡ x → (r : Option Refusal) → process_state_refusal s.layout (process_state_of (machine_state_at s.processes p).machine_state) c ≡ r → IsFit s → IsFit (unless (if x then r else Some NoSuchProcess) s (variant_after_start s p c))
start_fit s p c false e r is h = h
start_fit s p c true e (Some refusal) is h = h
start_fit s p c true e None is h =
    let below = ltb-true p s.layout.procs e in
    let t : VariantMachineState = machine_state_at s.processes p in
    let configuration = h.configured.configurations p below in
    record {
      configured = configured s s.words s.cells p (variant_started t c) h.configured refl refl below (configuration_stays t (variant_started t c) (variant_start_stays t c) configuration);
      each = set_each (λ _. Fits) s p (variant_started t c) h.configured.processes_each (started_fits t c (h.each p below) (ap (λ l. process_state_refusal l (process_state_of t.machine_state) c) configuration.1 ∙ is)) below h.each;
    }

step_fit : (s : VariantState) (p : ℕ) (x : Bool) → nat_lt p s.layout.procs ≡ x → (o : Option Access) → IsFit s → IsFit (unless (if x then unless_step o else Some NoSuchProcess) s (advanced_if s p o))
step_fit s p false e o h = h
step_fit s p true e None h = h
step_fit s p true e (Some a) h =
    let below = ltb-true p s.layout.procs e in
    let t : VariantMachineState = machine_state_at s.processes p in
    let u : VariantMachineState = variant_stepped t (found_by s a) in
    let fit = h.each p below in
    record {
      configured = configured s _ _ p u h.configured (words_by_length s.words a) (cells_by_length s.cells a) below (configuration_stays t u (variant_step_stays t (found_by s a)) (h.configured.configurations p below));
      each = set_each (λ _. Fits) s p u h.configured.processes_each (taken t.variant t.deviation t.change t.machine_state (found_by s a) fit.steady fit.deviation fit.change).fits below h.each;
    }

crash_fit : (s : VariantState) (p : ℕ) (x : Bool) → nat_lt p s.layout.procs ≡ x → IsFit s → IsFit (unless (if x then None else Some NoSuchProcess) s (variant_after_crash s p))
crash_fit s p false e h = h
crash_fit s p true e h =
    let below = ltb-true p s.layout.procs e in
    let t : VariantMachineState = machine_state_at s.processes p in
    record {
      configured = configured s s.words s.cells p (variant_crashed t) h.configured refl refl below (configuration_stays t (variant_crashed t) (refl, refl, refl, refl) (h.configured.configurations p below));
      each = set_each (λ _. Fits) s p (variant_crashed t) h.configured.processes_each (crashed_fits t (h.each p below)) below h.each;
    }

pub act_fit : (s : VariantState) (act : Act) → IsFit s → IsFit (variant_after_act s act)
act_fit s (Starts p c) h = start_fit s p c (nat_lt p s.layout.procs) refl (process_state_refusal s.layout (process_state_of (machine_state_at s.processes p).machine_state) c) refl h
act_fit s (Steps p) h = step_fit s p (nat_lt p s.layout.procs) refl (access_at s p) h
act_fit s (Crashes p) h = crash_fit s p (nat_lt p s.layout.procs) refl h

run_fit : (s : VariantState) (acts : List Act) → IsFit s → IsFit (run_of s acts)
run_fit s [] h = h
run_fit s (act ∷ acts) h = run_fit (variant_after_act s act) acts (act_fit s act h)

pub is_fit : (s : VariantState) → IsVariantRun s → IsFit s
is_fit s run = subst IsFit run.is (run_fit (new_world s.variant s.layout s.limit) run.acts (new_fit s.variant s.layout s.limit run.sized))

-- what each process does then

step_row : (s : VariantState) (p : ℕ) (a : Access) (t : VariantMachineState) → Fits t → variant_next_access t ≡ Some a → IsRow t.variant t.machine_state (variant_process_state_of t) (variant_process_state_of (variant_stepped t (found_by s a))) (variant_outcome t (found_by s a)) (found_by s a) a
step_row s p a t h e =
    let v : ℕ = found_by s a in
    subst (λ o. IfSome o (IsRow t.variant t.machine_state (variant_process_state_of t) (variant_process_state_of (variant_stepped t v)) (variant_outcome t v) v)) e (taken t.variant t.deviation t.change t.machine_state v h.steady h.deviation h.change).row

moved_here : (s : VariantState) (p : ℕ) (t : VariantMachineState) → IsFit s → p < s.layout.procs → process_state_at (record s { processes = slice_set s.processes p t }) p ≡ variant_process_state_of t
moved_here s p t h below = ap variant_process_state_of (get_or-set_same s.processes p t _ (rw h.configured.processes_each below))

move_is : (s : VariantState) (p : ℕ) (a : Access) → HasVariantConfiguration s.variant s.layout s.limit p (machine_state_at s.processes p) → world_event (machine_state_at s.processes p).machine_state a (found_by s a) ≡ move s p a
move_is s p a configuration = ap (λ q. Moves q (kind_of a) (word_of a) (carried_value a (found_by s a))) configuration.3

pub a_step : (s : VariantState) (p : ℕ) (a : Access) → IsVariantRun s → p < s.layout.procs → access_at s p ≡ Some a → variant_process_state s.variant s.layout s.limit (process_state_at s p) (move s p a) ≡ Some (process_state_at (variant_after_step s p) p)
a_step s p a run below e =
    let h = is_fit s run in
    let t : VariantMachineState = machine_state_at s.processes p in
    let configuration = h.configured.configurations p below in
    (λ i. variant_process_state (sym configuration.0 i) (sym configuration.1 i) (sym configuration.2 i) (process_state_at s p) (sym (move_is s p a configuration) i)) ∙ (step_row s p a t (h.each p below) e).0
    ∙ sym (ap (λ o. Some (process_state_at (advanced_if s p o) p)) e ∙ ap (λ x. Some x) (moved_here s p (variant_stepped t (found_by s a)) h below))

pub a_deed : (s : VariantState) (p : ℕ) (a : Access) → IsVariantRun s → p < s.layout.procs → access_at s p ≡ Some a → (variant_step_report s p).happened.outer ≡ variant_outer s.variant (process_state_at s p) (move s p a)
a_deed s p a run below e =
    let h = is_fit s run in
    let configuration = h.configured.configurations p below in
    ap (λ o. (stepped_if s p o).happened.outer) e ∙ sym (step_row s p a (machine_state_at s.processes p) (h.each p below) e).1 ∙ (λ i. variant_outer (configuration.0 i) (process_state_at s p) (move_is s p a configuration i))

pub an_answer : (s : VariantState) (p : ℕ) (a : Access) → IsVariantRun s → p < s.layout.procs → access_at s p ≡ Some a → (variant_step_report s p).answer ≡ variant_answer_at s.variant (process_state_at s p) (kind_of a) (carried_value a (found_by s a))
an_answer s p a run below e =
    let h = is_fit s run in
    let configuration = h.configured.configurations p below in
    ap (λ o. (stepped_if s p o).answer) e ∙ sym (step_row s p a (machine_state_at s.processes p) (h.each p below) e).2 ∙ (λ i. variant_answer_at (configuration.0 i) (process_state_at s p) (kind_of a) (carried_value a (found_by s a)))

pub a_done : (s : VariantState) (p : ℕ) (a : Access) → IsVariantRun s → p < s.layout.procs → access_at s p ≡ Some a → (variant_step_report s p).happened.done ≡ variant_done_at s.variant (process_state_at s p) (kind_of a) (carried_value a (found_by s a))
a_done s p a run below e =
    let h = is_fit s run in
    let configuration = h.configured.configurations p below in
    ap (λ o. (stepped_if s p o).happened.done) e ∙ sym (step_row s p a (machine_state_at s.processes p) (h.each p below) e).3 ∙ (λ i. variant_done_at (configuration.0 i) (process_state_at s p) (kind_of a) (carried_value a (found_by s a)))

is_below : (p n : ℕ) (r : Option Refusal) (x : Bool) → nat_lt p n ≡ x → (if x then r else Some NoSuchProcess) ≡ None → (p < n) × (r ≡ None)
is_below p n r true e h = (ltb-true p n e, h)
is_below p n r false e h = cc

pub a_start : (s : VariantState) (p : ℕ) (c : Call) → IsVariantRun s → start_refusal s p c ≡ None → variant_process_state s.variant s.layout s.limit (process_state_at s p) (Begins p c) ≡ Some (process_state_at (variant_after_start s p c) p)
a_start s p c run accepted =
    let h = is_fit s run in
    let t : VariantMachineState = machine_state_at s.processes p in
    let may = is_below p s.layout.procs (process_state_refusal s.layout (process_state_of t.machine_state) c) (nat_lt p s.layout.procs) refl accepted in
    let configuration = h.configured.configurations p may.0 in
    (λ i. variant_process_state (sym configuration.0 i) (sym configuration.1 i) (sym configuration.2 i) (process_state_at s p) (Begins (sym configuration.3 i) c))
    ∙ at_its_start t c (h.each p may.0) (ap (λ l. process_state_refusal l (process_state_of t.machine_state) c) configuration.1 ∙ may.1) ∙ ap (λ x. Some x) (sym (moved_here s p (variant_started t c) h may.0))

pub a_crash : (s : VariantState) (p : ℕ) → IsVariantRun s → p < s.layout.procs → variant_process_state s.variant s.layout s.limit (process_state_at s p) (Falls p) ≡ Some (process_state_at (variant_after_crash s p) p)
a_crash s p run below =
    let h = is_fit s run in
    let t : VariantMachineState = machine_state_at s.processes p in
    let configuration = h.configured.configurations p below in
    (λ i. variant_process_state (sym configuration.0 i) (sym configuration.1 i) (sym configuration.2 i) (process_state_at s p) (Falls (sym configuration.3 i))) ∙ ap (λ x. Some x) (sym (moved_here s p (variant_crashed t) h below))

pub a_rest : (variant : Variant) (l : Layout) (limit p : ℕ) → p < l.procs → process_state_at (new_world variant l limit) p ≡ record { process_state = at_rest; deviation = Straight }
a_rest variant l limit p below = ap variant_process_state_of (rest_at variant l limit 0 l.procs p below)
