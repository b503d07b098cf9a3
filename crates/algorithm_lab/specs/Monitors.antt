-- A world of an algorithm with a monitor: the phase of each process by the deeds of it that are heard, and its own steps in the
-- section that it is in, where the text bounds them.
use Rattle.std.specs.Prelude.{◌≡◌, ℕ, Bool, true, false, if◌then◌else◌, List, [], ◌∷◌, ◌++◌, length, replicate, slice_index, slice_index_or, slice_set, Option, Some, None, is_some, Result, Ok, Err}
use Rattle.rmecore.specs.declared.phase.Phase.{Phase}
use Rattle.rmecore.specs.declared.phase.Phase.TheVariants.{Out, Inside}
use Rattle.algorithms.specs.Worlds.{AlgorithmWorldState, first_world, process_of, entry_of, start, advance, crash, promised_steps, world_at_beginning as world_restarted}
use Rattle.algorithms.specs.declared.access.Advanced.{Advanced}
use Rattle.algorithms.specs.declared.algorithm.AlgorithmCall.{AlgorithmCall}
use Rattle.algorithms.specs.declared.algorithm.AlgorithmCall.TheVariants.{Lock, Unlock, Recover}
use Rattle.algorithms.specs.declared.algorithm.StepBounds.{StepBounds}
use Rattle.algorithms.specs.declared.first_values.InitializedAlgorithm.{InitializedAlgorithm}
use Rattle.algorithms.specs.declared.process.AlgorithmPlace.{AlgorithmPlace}
use Rattle.algorithms.specs.declared.process.AlgorithmPlace.TheVariants.{Rest, Dead, At}
use Rattle.algorithms.specs.declared.process.AlgorithmProcess.{AlgorithmProcess}
use Rattle.algorithms.specs.declared.refusal.AlgorithmRefusal.{AlgorithmRefusal}
use Rattle.algorithm_lab.specs.Claims.{claim_broken, or_line}
use Rattle.algorithm_lab.specs.Heard.{Heard, deeds_heard, heard_of_crash}
use Rattle.algorithm_lab.specs.Sections.{bound_if, excess, bounds_steps, section_at, steps_after}
use Rattle.algorithm_lab.specs.declared.run_refusal.RunRefusal.{RunRefusal}
use Rattle.algorithm_lab.specs.declared.run_refusal.RunRefusal.TheVariants.{Refused, NotOwner, AlreadyIn, OutOfMemory}
use Rattle.algorithm_lab.specs.declared.run_report.TextReport.{TextReport}
use Rattle.algorithm_lab.specs.declared.run_report.TextReport.TheVariants.{Answered, Exceeded, Broken}
use Rattle.algorithm_lab.specs.declared.section.BoundedSection.{BoundedSection}
use Rattle.algorithm_lab.specs.declared.section.StepBound.{StepBound}

pub record MonitorState : Type 0 where
  pub world : AlgorithmWorldState
  pub phases : List Phase
  pub steps : List ℕ

-- no own step is counted at the beginning. Where the text bounds none, none ever is
abbrev pub first_steps : StepBounds → ℕ → List ℕ
first_steps bounds procs = if bounds_steps bounds then replicate procs 0 else []

-- a new world, in which all processes are out
abbrev pub first_monitor : InitializedAlgorithm → ℕ → ℕ → MonitorState
first_monitor a procs limit =
    record { world = first_world a procs limit; phases = replicate procs Out; steps = first_steps a.algorithm.step_bounds procs }

-- the same world and its monitor at their beginning
abbrev pub monitor_at_beginning : MonitorState → MonitorState
monitor_at_beginning m =
    record { world = world_restarted m.world; phases = replicate (length m.phases) Out; steps = replicate (length m.steps) 0 }

abbrev pub phase_of : MonitorState → ℕ → Phase
phase_of m p = slice_index_or m.phases p Out

-- the own steps of p that are counted
abbrev pub counted_steps : MonitorState → ℕ → ℕ
counted_steps m p = slice_index m.steps p

-- the place of a process; one that is not there has none
abbrev pub place_in : Result AlgorithmProcess AlgorithmRefusal → AlgorithmPlace
place_in (Ok process) = process.place
place_in (Err e) = Rest

-- the section that p is in, in this phase
abbrev pub section_in : AlgorithmWorldState → Phase → ℕ → Option BoundedSection
section_in w phase p = section_at w.algorithm.entries phase (place_in (process_of w p))

-- the bound on the own steps of p in the section that it is in, where the text promises one
abbrev pub step_bound : MonitorState → ℕ → Option StepBound
step_bound m p = bound_if (promised_steps m.world) (section_in m.world (phase_of m p) p)

-- the section in which the next step of p is the first above the bound
abbrev pub excess_of : MonitorState → ℕ → Option BoundedSection
excess_of m p = excess (step_bound m p) (counted_steps m p)

-- what an event reports, whether a call ends with it, and what it leaves
pub record EventPart : Type 0 where
  pub reports : List TextReport
  pub ended : Bool
  pub left : MonitorState

-- a refusal of the world, as one of the run
abbrev pub then_in : {A B : Type 0} → (A → B) → Result A AlgorithmRefusal → Result B RunRefusal
then_in f (Ok x) = Ok (f x)
then_in f (Err e) = Err (Refused e)

-- ---- starts

-- why a process in this phase may not start the call
abbrev pub phase_refusal : Phase → AlgorithmCall → Option RunRefusal
phase_refusal Inside Lock = Some AlreadyIn
phase_refusal Inside Recover = Some AlreadyIn
phase_refusal Inside call = None
phase_refusal phase Unlock = Some NotOwner
phase_refusal phase call = None

abbrev pub is_idle : AlgorithmPlace → Bool
is_idle Rest = true
is_idle Dead = true
is_idle (At at) = false

-- whether the process is there, with no call under way
abbrev pub is_idle_process : Result AlgorithmProcess AlgorithmRefusal → Bool
is_idle_process (Ok process) = is_idle process.place
is_idle_process (Err e) = false

-- of a call that there is and that a process without a call under way starts, its phase decides too
abbrev pub start_refusal : MonitorState → ℕ → AlgorithmCall → Option RunRefusal
start_refusal m p call =
    if is_idle_process (process_of m.world p)
    then (if is_some (entry_of m.world.algorithm.entries call) then phase_refusal (phase_of m p) call else None)
    else None

abbrev pub unless : Option RunRefusal → Result MonitorState RunRefusal → Result MonitorState RunRefusal
unless None r = r
unless (Some e) r = Err e

-- a start
abbrev pub start_on : MonitorState → ℕ → AlgorithmCall → Result MonitorState RunRefusal
start_on m p call = unless (start_refusal m p call) (then_in (λ w. record { world = w; phases = m.phases; steps = m.steps }) (start m.world p call))

-- ---- steps and crashes

-- the report of an answer of p, if there is one
abbrev pub answer_reports : ℕ → Option ℕ → List TextReport
answer_reports p None = []
answer_reports p (Some answer) = Answered p answer ∷ []

-- the report that a step of p is the first above the bound of a section, if it is
abbrev pub excess_reports : ℕ → Option BoundedSection → List TextReport
excess_reports p None = []
excess_reports p (Some section) = Exceeded p section ∷ []

-- what is heard, after the report of an excess
abbrev pub with_excess : ℕ → Option BoundedSection → Heard → Heard
with_excess p excess h = record { reports = excess_reports p excess ++ h.reports; phase = h.phase }

-- the report that the condition of the claim of a line holds, if one does
abbrev pub broken_reports : Option ℕ → List TextReport
broken_reports None = []
broken_reports (Some line) = Broken line ∷ []

-- the monitor after an event of p, which leaves p in this phase and with this number of own steps
abbrev pub monitor_left : MonitorState → ℕ → AlgorithmWorldState → Phase → ℕ → MonitorState
monitor_left m p world phase steps = record { world = world; phases = slice_set m.phases p phase; steps = slice_set m.steps p steps }

-- the line of a claim whose condition holds in the first state, else of one whose condition holds in the second
abbrev pub broken_between : MonitorState → MonitorState → Option ℕ
broken_between m left = or_line (claim_broken m.world m.phases) (claim_broken left.world left.phases)

-- An event of p that is heard so, and leaves it with this number of own steps. That a condition holds is reported first, since it may
-- hold before the event: a start reports nothing.
abbrev pub part_of : MonitorState → ℕ → AlgorithmWorldState → Heard → Option ℕ → ℕ → EventPart
part_of m p world h answer steps =
    record {
      reports = broken_reports (broken_between m (monitor_left m p world h.phase steps)) ++ (h.reports ++ answer_reports p answer);
      ended = is_some answer;
      left = monitor_left m p world h.phase steps;
    }

-- what is heard of a step of p
abbrev pub heard_of_step : MonitorState → ℕ → Advanced → Heard
heard_of_step m p advanced =
    with_excess p (excess_of m p) (deeds_heard m.world.algorithm.promises p (phase_of m p) advanced.noted)

-- what a step of p reports and leaves
abbrev pub part_of_step : MonitorState → ℕ → Advanced × AlgorithmWorldState → EventPart
part_of_step m p s =
    let h = heard_of_step m p s.0 in
    part_of m p s.1 h s.0.answer (steps_after (step_bound m p) (counted_steps m p) (section_in s.1 h.phase p))

-- a step reports what is heard of it, and then the answer of its call
abbrev pub step_on : MonitorState → ℕ → Result EventPart RunRefusal
step_on m p = then_in (part_of_step m p) (advance m.world p)

-- a crash. The section that the process was in is given up
abbrev pub crash_on : MonitorState → ℕ → Result EventPart RunRefusal
crash_on m p = then_in (λ w. part_of m p w (heard_of_crash m.world.algorithm.promises p (phase_of m p)) None 0) (crash m.world p)

-- ---- what comes of a start, a step or a crash

-- a start reports nothing
abbrev pub part_of_start : Result MonitorState RunRefusal → Result EventPart RunRefusal
part_of_start (Ok left) = Ok (record { reports = []; ended = false; left = left })
part_of_start (Err e) = Err e

abbrev pub reports_by : Result EventPart RunRefusal → List TextReport
reports_by (Ok part) = part.reports
reports_by (Err e) = []

-- one that is refused changes nothing
abbrev pub left_by : MonitorState → Result EventPart RunRefusal → MonitorState
left_by m (Ok part) = part.left
left_by m (Err e) = m

abbrev pub refusal_by : Result EventPart RunRefusal → Option RunRefusal
refusal_by (Ok part) = None
refusal_by (Err e) = Some e

-- ---- what a call that appends its report does

-- it reports and leaves this part
abbrev pub IsReportedPart : Result EventPart RunRefusal → List TextReport → List TextReport → MonitorState → Type 0
IsReportedPart (Ok part) before now left = (now ≡ before ++ part.reports) × (left ≡ part.left)
IsReportedPart (Err e) before now left = ⊥

-- whether a call ends with it
abbrev pub has_ended : Result EventPart RunRefusal → Bool
has_ended (Ok part) = part.ended
has_ended (Err e) = false

-- it is refused, for another reason than memory
abbrev pub IsRefusal : RunRefusal → Type 0
IsRefusal OutOfMemory = ⊥
IsRefusal e = Unit {0}
