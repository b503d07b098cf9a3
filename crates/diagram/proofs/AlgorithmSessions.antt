-- The steps of an algorithm that a session writes.
use Rattle.std.proofs.Common.{◌≡◌, ℕ, ◌+◌, List, [], ◌∷◌, ◌++◌, Option, Some, None, Err, refl, sym, ap, ◌∙◌}
use Rattle.diagram.proofs.AlgorithmEventLists.{hears_line}
use Rattle.diagram.proofs.Common.{append-nil, flat_map-append, Line, Step}
use Rattle.diagram.proofs.RunEvents.{reports_go_on}
use Rattle.rmecore.specs.declared.phase.Phase.{Phase}
use Rattle.algorithms.specs.Worlds.{AlgorithmWorldState}
use Rattle.algorithms.specs.declared.algorithm.Algorithm.{Algorithm}
use Rattle.algorithms.specs.declared.first_values.InitializedAlgorithm.{InitializedAlgorithm}
use Rattle.algorithms.specs.declared.process.AlgorithmProcess.{AlgorithmProcess}
use Rattle.algorithm_lab.proofs.Restarts.{line_leaves, run_leaves}
use Rattle.algorithm_lab.specs.Monitors.{MonitorState, first_monitor, monitor_at_beginning}
use Rattle.algorithm_lab.specs.Refusals.{number_of}
use Rattle.algorithm_lab.specs.Runs.{AlgorithmRun, event_reports, line_on, monitor_transitions, run_on}
use Rattle.algorithm_lab.specs.declared.run_refusal.RunRefusal.{RunRefusal}
use Rattle.algorithm_lab.specs.declared.run_report.TextReport.{TextReport}
use Rattle.schedule.proofs.Fragments.{line_reported, steps_reported}
use Rattle.schedule.specs.Fragments.{Fragment, fragment_after_line, itself, line_on as line_by}
use Rattle.schedule.specs.Plays.{Plays, PlaysAll}
use Rattle.schedule.specs.declared.player.play_stop.PlayStop.{PlayStop}
use Rattle.schedule.specs.declared.player.play_stop.PlayStop.TheVariants.{Refused}
use Rattle.schedule.specs.declared.texts.fault.OutOfMemory.{OutOfMemory}
use Rattle.schedule.specs.Schedules.{Scheduled}
use Rattle.schedule.specs.declared.texts.head.Head.{Head}
use Rattle.diagram.specs.declared.algorithm.event_list.EventList.{EventList}
use Rattle.diagram.specs.AlgorithmEventEffects.{event_list_effects}
use Rattle.diagram.specs.AlgorithmEvents.{AlgorithmEvent, drawn_events, events_of, events_on}
use Rattle.diagram.specs.AlgorithmSimulations.{HasNumber, algorithm_semantics, event_text, events_text, kept_lines, left_by, number_by, text_by}
use Rattle.diagram.specs.Semantics.{lines_on, state_after_steps}
use Rattle.diagram.specs.Sessions.{at_schedule, lines_text}

-- ---- what steps leave

-- the world of a monitor that begins anew as another has the same algorithm
pub same_algorithm : (left m : MonitorState) → monitor_at_beginning left ≡ monitor_at_beginning m → left.world.algorithm ≡ m.world.algorithm
same_algorithm left m same = ap (λ (x : MonitorState). x.world.algorithm) same

pub same_count : (left m : MonitorState) → monitor_at_beginning left ≡ monitor_at_beginning m → left.world.procs ≡ m.world.procs
same_count left m same = ap (λ (x : MonitorState). x.world.procs) same

-- a monitor that has gone back is as it was
pub went_back : (m left now : MonitorState) (words : List (List ℕ)) (processes : List AlgorithmProcess) (phases : List Phase) (steps : List ℕ) → now.world ≡ record left.world { words = words; processes = processes } → now.phases ≡ phases
    → now.steps ≡ steps → words ≡ m.world.words → processes ≡ m.world.processes → phases ≡ m.phases → steps ≡ m.steps → monitor_at_beginning left ≡ monitor_at_beginning m → now ≡ m
went_back m left now words processes phases steps world heard taken w q f g same =
    ap (λ (x : AlgorithmWorldState). record { world = x; phases = now.phases; steps = now.steps }) world
    ∙ ap (λ (x : List Phase). record { world = record left.world { words = words; processes = processes }; phases = x; steps = now.steps }) (heard ∙ f)
    ∙ ap (λ (x : List ℕ). record { world = record left.world { words = words; processes = processes }; phases = m.phases; steps = x }) (taken ∙ g)
    ∙ ap (λ (x : List (List ℕ)). record { world = record left.world { words = x; processes = processes }; phases = m.phases; steps = m.steps }) w
    ∙ ap (λ (x : List AlgorithmProcess). record { world = record left.world { words = m.world.words; processes = x }; phases = m.phases; steps = m.steps }) q
    ∙ ap (λ (x : MonitorState). record { world = record x.world { words = m.world.words; processes = m.world.processes }; phases = m.phases; steps = m.steps }) same

-- ---- a simulation

-- steps that are taken leave what a line of them leaves
pub steps_begin : (m left : MonitorState) (p n : ℕ) → left ≡ state_after_steps monitor_transitions p n m → monitor_at_beginning left ≡ monitor_at_beginning m
unfolding state_after_steps
steps_begin m left p n is = ap monitor_at_beginning (is ∙ sym (ap (λ (part : List TextReport × MonitorState). part.1) (steps_reported monitor_transitions event_reports p n m))) ∙ line_leaves m (Step p n)

-- a line that is not refused
pub accepted_line : (first now : EventList) (m left : MonitorState) (line : Line) (a : Algorithm) (old new : List ℕ) → PlaysAll event_list_effects first now (line_by monitor_transitions itself m line) left None
    → first.events.items ≡ [] → a ≡ left.world.algorithm → new ≡ old ++ kept_lines a now.events.items
    → (None ≡ number_by (line_on m line).refused) × (new ≡ old ++ text_by m.world.algorithm (events_of m line) (line_on m line).refused) × (left ≡ left_by m (line_on m line) (line_on m line).refused)
accepted_line first now m left line a old new plays none of wrote =
    let is = hears_line a first now m line left None plays none in
    let page : kept_lines a now.events.items ≡ events_text m.world.algorithm (events_of m line) =
    is.lines ∙ ap (λ (x : Algorithm). events_text x (events_of m line)) (of ∙ same_algorithm left m (ap monitor_at_beginning is.stands ∙ line_leaves m line)) in
    rw is.refused_is (refl, wrote ∙ ap (λ (t : List ℕ). old ++ t) page, is.stands)

-- a line that is refused by this number
pub record IsRefusedBy (m left : MonitorState) (line : Line) (number : ℕ) : Type 0 where
  pub refusal : RunRefusal
  pub refused : (line_on m line).refused ≡ Some refusal
  pub number_is : number_of refusal ≡ Some number
  pub begins : monitor_at_beginning left ≡ monitor_at_beginning m

pub refused_by : (first now : EventList) (m left : MonitorState) (line : Line) (stop : PlayStop RunRefusal OutOfMemory) (number : ℕ) → Plays {A = Unit {0}} monitor_transitions event_list_effects first now (line_by monitor_transitions itself m line) left (Err stop)
    → first.events.items ≡ [] → HasNumber stop number → IsRefusedBy m left line number
refused_by first now m left line (Refused refusal) number plays none has =
    let is = hears_line m.world.algorithm first now m line left (Some refusal) plays.0 none in
    record { refusal = refusal; refused = is.refused_is; number_is = has; begins = ap monitor_at_beginning is.stands ∙ line_leaves m line }
refused_by first now m left line stop number plays none has = absurd has

pub refused_line : (m left back : MonitorState) (line : Line) (number : ℕ) (old : List ℕ) → IsRefusedBy m left line number → back ≡ m
    → (Some number ≡ number_by (line_on m line).refused) × (old ≡ old ++ text_by m.world.algorithm (events_of m line) (line_on m line).refused) × (back ≡ left_by m (line_on m line) (line_on m line).refused)
refused_line m left back line number old is same = rw is.refused (sym is.number_is, sym (append-nil old), same)

-- ---- a run

-- the first line is not refused where none of the run is
accepted_first : (k : ℕ) (line : AlgorithmRun RunRefusal) (o : Option RunRefusal) (rest : AlgorithmRun (ℕ × RunRefusal)) → (fragment_after_line k line o rest).refused ≡ None
    → (o ≡ None) × (rest.refused ≡ None) × ((fragment_after_line k line o rest).left ≡ rest.left)
accepted_first k line None rest accepted = (refl, accepted, refl)
accepted_first k line (Some e) rest accepted = absurd (let no : Some (k, e) ≡ None = accepted in cc)

-- the events of a line that is not refused, and those of the lines after it
events_go_on : (m : MonitorState) (line : Line) (rest : List Line) → (line_on m line).refused ≡ None → events_on m (line ∷ rest) ≡ events_of m line ++ events_on (line_on m line).left rest
events_go_on m line rest accepted =
    let drawn = line_reported monitor_transitions drawn_events m line in
    let reported = line_reported monitor_transitions event_reports m line in
    reports_go_on monitor_transitions drawn_events m line rest (ap (λ (part : Fragment AlgorithmEvent MonitorState RunRefusal). part.refused) drawn ∙ sym (ap (λ (part : AlgorithmRun RunRefusal). part.refused) reported) ∙ accepted)
    ∙ ap (λ (left : MonitorState). events_of m line ++ events_on left rest) (ap (λ (part : Fragment AlgorithmEvent MonitorState RunRefusal). part.left) drawn ∙ sym (ap (λ (part : AlgorithmRun RunRefusal). part.left) reported))

pub text_of_run : (head : Head) (k : ℕ) (m : MonitorState) (a : Algorithm) (lines : List Line) → m.world.algorithm ≡ a → (run_on k m lines).refused ≡ None
    → lines_text algorithm_semantics head m lines ≡ events_text a (events_on m lines)
text_of_run head k m a [] of accepted = refl
text_of_run head k m a (line ∷ lines) of accepted =
    let left = (line_on m line).left in
    let events = events_of m line in
    let first = accepted_first k (line_on m line) (line_on m line).refused (run_on (k + 1) left lines) accepted in
    ap (λ (o : Option RunRefusal). text_by m.world.algorithm events o ++ lines_text algorithm_semantics head (left_by m (line_on m line) o) lines) first.0
    ∙ ap (λ (t : List ℕ). events_text m.world.algorithm events ++ t) (text_of_run head (k + 1) left a lines (same_algorithm left m (line_leaves m line) ∙ of) first.1)
    ∙ ap (λ (x : Algorithm). events_text x events ++ events_text a (events_on left lines)) of ∙ sym (flat_map-append (event_text a) events (events_on left lines))
    ∙ ap (events_text a) (sym (events_go_on m line lines first.0))

pub left_of_run : (k : ℕ) (m : MonitorState) (lines : List Line) → (run_on k m lines).refused ≡ None → lines_on algorithm_semantics.after m lines ≡ (run_on k m lines).left
left_of_run k m [] accepted = refl
left_of_run k m (line ∷ lines) accepted =
    let left = (line_on m line).left in
    let first = accepted_first k (line_on m line) (line_on m line).refused (run_on (k + 1) left lines) accepted in
    ap (λ (o : Option RunRefusal). lines_on algorithm_semantics.after (left_by m (line_on m line) o) lines) first.0 ∙ left_of_run (k + 1) left lines first.1 ∙ sym first.2

-- a session over a monitor that has played a run begins as over a new one
pub begins_played : (a : InitializedAlgorithm) (procs limit k : ℕ) (lines : List Line) (schedule : Scheduled)
    → at_schedule algorithm_semantics (run_on k (first_monitor a procs limit) lines).left schedule [] ≡ at_schedule algorithm_semantics (first_monitor a procs limit) schedule []
begins_played a procs limit k lines schedule =
    ap (λ (m : MonitorState). record { schedule = schedule; undone = []; simulation = lines_on algorithm_semantics.after m schedule.lines }) (run_leaves k (first_monitor a procs limit) lines)
