-- Monitors that begin anew.
use Rattle.std.proofs.Common.{◌≡◌, ℕ, Bool, true, false, if◌then◌else◌, List, [], length, replicate, Option, Some, None, Result, Ok, Err, refl, ap, ◌∙◌}
use Rattle.std.specs.Prelude.{slice_set}
use Rattle.std.proofs.lemmas.List.{length-replicate, length-set}
use Rattle.rmecore.specs.declared.phase.Phase.{Phase}
use Rattle.rmecore.specs.declared.phase.Phase.TheVariants.{Out}
use Rattle.schedule.specs.declared.lines.line.Line.{Line}
use Rattle.algorithms.specs.Arrivals.{◌>>=◌}
use Rattle.algorithms.proofs.FirstWords.{rows_length}
use Rattle.algorithms.proofs.Worlds.{stored_many}
use Rattle.algorithms.specs.FirstWords.{first_rows, rows_at_beginning}
use Rattle.algorithms.specs.Steps.{advance_of}
use Rattle.algorithms.specs.Worlds.{no_names, resting, words_after_access, process_of, start_of_process as process_started, step_of_process, after_step as world_after_step, advance_in_world, with_process}
use Rattle.algorithms.specs.declared.access.Taken.{Taken}
use Rattle.algorithms.specs.declared.algorithm.AlgorithmCall.{AlgorithmCall}
use Rattle.algorithms.specs.declared.first_values.InitializedAlgorithm.{InitializedAlgorithm}
use Rattle.algorithms.specs.declared.process.AlgorithmPlace.TheVariants.{Dead}
use Rattle.algorithms.specs.declared.process.AlgorithmProcess.{AlgorithmProcess}
use Rattle.algorithms.specs.declared.refusal.AlgorithmRefusal.{AlgorithmRefusal}
use Rattle.algorithm_lab.specs.Heard.{heard_of_crash}
use Rattle.algorithm_lab.specs.Sections.{bounds_steps, steps_after}
use Rattle.algorithm_lab.specs.Monitors.{MonitorState, EventPart, first_monitor, left_by, monitor_at_beginning, then_in, part_of, part_of_start, part_of_step, phase_of, counted_steps, heard_of_step, section_in, step_bound, start_refusal, unless, start_on, step_on, crash_on}
use Rattle.algorithm_lab.specs.Runs.{call_of, event_reports, line_on, monitor_transitions, run_on, start_by}
use Rattle.algorithm_lab.specs.declared.run_report.TextReport.{TextReport}
use Rattle.algorithm_lab.proofs.Runs.{so_of_line, so_of_run}
use Rattle.algorithm_lab.specs.declared.run_refusal.RunRefusal.{RunRefusal}

abbrev steps_if : Bool → ℕ → List ℕ
steps_if b procs = if b then replicate procs 0 else []

steps_restarted : (b : Bool) (procs : ℕ) → replicate (length (steps_if b procs)) 0 ≡ steps_if b procs
steps_restarted true procs = ap (λ n. replicate n 0) (length-replicate {A = ℕ} procs 0)
steps_restarted false procs = refl

pub first_restarted : (a : InitializedAlgorithm) (procs limit : ℕ) → monitor_at_beginning (first_monitor a procs limit) ≡ first_monitor a procs limit
first_restarted a procs limit =
    (λ i. record {
      world = record {
        algorithm = a.algorithm;
        procs = procs;
        limit = limit;
        first_rows = first_rows a.algorithm procs limit a.first_values;
        words = rows_at_beginning (first_rows a.algorithm procs limit a.first_values) (rows_length (first_rows a.algorithm procs limit a.first_values) (length a.algorithm.declarations.items) i);
        processes = replicate (length-replicate procs resting i) resting;
      };
      phases = replicate (length-replicate procs Out i) Out;
      steps = steps_restarted (bounds_steps a.algorithm.step_bounds) procs i;
    })

-- a monitor with other words, processes, phases and own steps, as many of each
abbrev with_these : MonitorState → List (List ℕ) → List AlgorithmProcess → List Phase → List ℕ → MonitorState
with_these m words processes phases steps = record { world = record { algorithm = m.world.algorithm; procs = m.world.procs; limit = m.world.limit; first_rows = m.world.first_rows; words = words; processes = processes }; phases = phases; steps = steps }

restarts_with : (m : MonitorState) (words : List (List ℕ)) (processes : List AlgorithmProcess) (phases : List Phase) (steps : List ℕ) → length words ≡ length m.world.words → length processes ≡ length m.world.processes → length phases ≡ length m.phases
    → length steps ≡ length m.steps → monitor_at_beginning (with_these m words processes phases steps) ≡ monitor_at_beginning m
restarts_with m words processes phases steps w q f g =
    (λ i. record {
      world = record { algorithm = m.world.algorithm; procs = m.world.procs; limit = m.world.limit; first_rows = m.world.first_rows; words = rows_at_beginning m.world.first_rows (w i); processes = replicate (q i) resting };
      phases = replicate (f i) Out;
      steps = replicate (g i) 0;
    })

pub restarted_twice : (m : MonitorState) → monitor_at_beginning (monitor_at_beginning m) ≡ monitor_at_beginning m
restarted_twice m =
    restarts_with m (rows_at_beginning m.world.first_rows (length m.world.words)) (replicate (length m.world.processes) resting) (replicate (length m.phases) Out) (replicate (length m.steps) 0)
    (rows_length m.world.first_rows (length m.world.words)) (length-replicate (length m.world.processes) resting) (length-replicate (length m.phases) Out) (length-replicate (length m.steps) 0)

-- ---- starts, steps and crashes

-- what it leaves begins anew as this monitor does
abbrev LeavesPart : MonitorState → Result EventPart RunRefusal → Type 0
LeavesPart m r = monitor_at_beginning (left_by m r) ≡ monitor_at_beginning m

unless_leaves : (m : MonitorState) (o : Option RunRefusal) (r : Result MonitorState RunRefusal) → LeavesPart m (part_of_start r) → LeavesPart m (part_of_start (unless o r))
unless_leaves m None r leaves = leaves
unless_leaves m (Some e) r leaves = refl

start_leaves : (m : MonitorState) (p : ℕ) (call : AlgorithmCall) → LeavesPart m (part_of_start (start_on m p call))
start_leaves m p call = unless_leaves m (start_refusal m p call) _ (by (process_started m.world p call))
  where
    by : (r : Result AlgorithmProcess AlgorithmRefusal) → LeavesPart m (part_of_start (then_in (λ w. record { world = w; phases = m.phases; steps = m.steps }) (r >>= λ process. Ok (with_process m.world p process))))
    by (Ok process) = restarts_with m m.world.words (slice_set m.world.processes p process) m.phases m.steps refl (length-set m.world.processes p process) refl refl
    by (Err e) = refl

pub step_leaves : (m : MonitorState) (p : ℕ) → LeavesPart m (step_on m p)
step_leaves m p = by (step_of_process m.world p)
  where
    by : (r : Result Taken AlgorithmRefusal)
        → LeavesPart m (then_in (part_of_step m p) ((r >>= λ t. Ok (t, world_after_step m.world p t)) >>= advance_in_world))
    by (Ok t) =
        let phase : Phase = (heard_of_step m p (advance_of t)).phase in
        let steps : ℕ = steps_after (step_bound m p) (counted_steps m p) (section_in (world_after_step m.world p t) phase p) in
        restarts_with m (words_after_access m.world.words t.access.address t.access.stores) (slice_set m.world.processes p t.moved.process) (slice_set m.phases p phase) (slice_set m.steps p steps)
        (stored_many m.world.words t.access.address t.access.stores) (length-set m.world.processes p t.moved.process) (length-set m.phases p phase) (length-set m.steps p steps)
    by (Err e) = refl

pub crash_leaves : (m : MonitorState) (p : ℕ) → LeavesPart m (crash_on m p)
crash_leaves m p = by (process_of m.world p)
  where
    by : (r : Result AlgorithmProcess AlgorithmRefusal)
        → LeavesPart m (then_in (λ w. part_of m p w (heard_of_crash m.world.algorithm.promises p (phase_of m p)) None 0) (r >>= λ process. Ok (with_process m.world p (record { place = Dead; store = no_names }))))
    by (Ok process) =
        restarts_with m m.world.words (slice_set m.world.processes p (record { place = Dead; store = no_names })) (slice_set m.phases p (heard_of_crash m.world.algorithm.promises p (phase_of m p)).phase) (slice_set m.steps p 0)
        refl (length-set m.world.processes p (record { place = Dead; store = no_names })) (length-set m.phases p (heard_of_crash m.world.algorithm.promises p (phase_of m p)).phase) (length-set m.steps p 0)
    by (Err e) = refl

-- ---- lines

pub start_by_leaves : (m : MonitorState) (p : ℕ) (o : Option AlgorithmCall) → LeavesPart m (part_of_start (start_by m p o))
start_by_leaves m p (Some call) = start_leaves m p call
start_by_leaves m p None = refl

abbrev LeavesSame : MonitorState → List TextReport → MonitorState → Type 0
LeavesSame m reports left = monitor_at_beginning left ≡ monitor_at_beginning m

pub line_leaves : (m : MonitorState) (line : Line) → monitor_at_beginning (line_on m line).left ≡ monitor_at_beginning m
line_leaves =
    so_of_line monitor_transitions event_reports LeavesSame (λ m. refl) (λ m left last reports more first later. later ∙ first) (λ m p call. start_by_leaves m p (call_of call))
    (λ m p taken. step_leaves m p) (λ m p taken. crash_leaves m p)

-- what a run leaves begins anew as the monitor before it
pub run_leaves : (k : ℕ) (m : MonitorState) (lines : List Line) → monitor_at_beginning (run_on k m lines).left ≡ monitor_at_beginning m
run_leaves =
    so_of_run monitor_transitions event_reports LeavesSame (λ m. refl) (λ m left last reports more first later. later ∙ first) (λ m p call. start_by_leaves m p (call_of call))
    (λ m p taken. step_leaves m p) (λ m p taken. crash_leaves m p)
