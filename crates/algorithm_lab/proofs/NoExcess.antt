-- A text that bounds no own steps and claims nothing: none of its runs reports a breach, and a verdict on one is that on its deeds.
use Rattle.std.proofs.Common.{◌≡◌, ℕ, Bool, true, false, ◌||◌, if◌then◌else◌, List, [], ◌∷◌, ◌++◌, Option, Some, None, Result, Ok, Err, refl, sym, ap, ◌∙◌}
use Rattle.std.specs.List.{list_any}
use Rattle.std.proofs.lemmas.List.Folds.{list_any-append}
use Rattle.rmecore.specs.Simulated.{one_more}
use Rattle.rmecore.specs.declared.outer.Outer.TheVariants as outers
use Rattle.rmecore.specs.declared.phase.Phase.{Phase}
use Rattle.rmecore.specs.declared.phase.Phase.TheVariants as phases
use Rattle.schedule.specs.Transitions.{Took, Fell}
use Rattle.schedule.specs.Verdicts.{verdict_on}
use Rattle.schedule.specs.declared.lines.line.Line.{Line}
use Rattle.schedule.specs.declared.replays.verdict.Verdict.{Verdict}
use Rattle.schedule.specs.declared.replays.verdict.Verdict.TheVariants.{Fine, Against}
use Rattle.algorithms.specs.Worlds.{AlgorithmWorldState, advance, crash, new_refusal, process_of}
use Rattle.algorithms.specs.declared.access.Advanced.{Advanced}
use Rattle.algorithms.specs.declared.algorithm.AlgorithmCall.{AlgorithmCall}
use Rattle.algorithms.specs.declared.algorithm.Promises.{Promises}
use Rattle.algorithms.specs.declared.algorithm.Algorithm.{Algorithm}
use Rattle.algorithms.specs.declared.first_values.InitializedAlgorithm.{InitializedAlgorithm}
use Rattle.algorithms.specs.declared.line.AlgorithmDeed.{AlgorithmDeed}
use Rattle.algorithms.specs.declared.line.AlgorithmDeed.TheVariants as deeds
use Rattle.algorithms.specs.declared.noted.NotedDeeds.{NotedDeeds}
use Rattle.algorithms.specs.declared.refusal.AlgorithmRefusal.{AlgorithmRefusal}
use Rattle.algorithm_lab.specs.Claims.{or_line}
use Rattle.algorithm_lab.specs.Heard.{deeds_heard, doorway_end_reports, doorway_reports, entered_out_of_order, given_up, heard_if, heard_of, heard_of_crash, phase_if}
use Rattle.algorithm_lab.specs.Monitors.{EventPart, MonitorState, answer_reports, broken_between, broken_reports, counted_steps, crash_on, excess_of, excess_reports, first_monitor, left_by, monitor_at_beginning, monitor_left, part_of, part_of_start, part_of_step, phase_of, place_in, reports_by, start_on, step_on, then_in}
use Rattle.algorithm_lab.specs.Replays.{run_of, run_unless}
use Rattle.algorithm_lab.specs.Reports.{is_against, first_judge, or_verdict, verdict_of, is_breach, promises_verdict}
use Rattle.algorithm_lab.specs.Runs.{call_of, deeds_of, event_reports, line_on, monitor_transitions, run_on, said_by, crash_said_by}
use Rattle.algorithm_lab.specs.Sections.{bounds_steps, excess, section_at}
use Rattle.algorithm_lab.specs.declared.monitor_event.MonitorStep.{MonitorStep}
use Rattle.algorithm_lab.specs.declared.run_refusal.RunRefusal.{RunRefusal}
use Rattle.algorithm_lab.specs.declared.run_report.TextReport.{TextReport}
use Rattle.algorithm_lab.specs.declared.run_report.TextReport.TheVariants.{Did, Answered, Exceeded, Broken}
use Rattle.algorithm_lab.specs.declared.section.BoundedSection.{BoundedSection}
use Rattle.algorithm_lab.proofs.BrokenClaims.{none_broken}
use Rattle.algorithm_lab.proofs.Restarts.{crash_leaves, start_by_leaves, step_leaves}
use Rattle.algorithm_lab.proofs.Runs.{so_of_line, so_of_run}
use Rattle.algorithm_lab.proofs.Sections.{no_bound}

-- the text of this monitor bounds no own steps, and claims nothing
abbrev pub Unbounded : MonitorState → Type 0
Unbounded m = (bounds_steps m.world.algorithm.step_bounds ≡ false) × (m.world.algorithm.claims.items ≡ [])

-- no breach is among these
abbrev pub IsPlain : List TextReport → Type 0
IsPlain reports = list_any is_breach reports ≡ false

both_plain : (reports more : List TextReport) → IsPlain reports → IsPlain more → IsPlain (reports ++ more)
both_plain reports more first later = list_any-append is_breach reports more ∙ (λ i. first i || later i)

-- ---- what is heard

begun_plain : (p : ℕ) (phase : Phase) → IsPlain (doorway_reports p phase)
begun_plain p phases.Out = refl
begun_plain p phases.Door = refl
begun_plain p phases.Ready = refl
begun_plain p phases.Inside = refl
begun_plain p phases.DeadIn = refl

readied_plain : (p : ℕ) (phase : Phase) → IsPlain (doorway_end_reports p phase)
readied_plain p phases.Out = refl
readied_plain p phases.Door = refl
readied_plain p phases.Ready = refl
readied_plain p phases.Inside = refl
readied_plain p phases.DeadIn = refl

entered_plain : (order : Bool) (p : ℕ) (phase : Phase) → IsPlain (if order then Did (outers.Enter p) ∷ [] else entered_out_of_order p phase)
entered_plain true p phase = refl
entered_plain false p phases.Out = refl
entered_plain false p phases.Door = refl
entered_plain false p phases.Ready = refl
entered_plain false p phases.Inside = refl
entered_plain false p phases.DeadIn = refl

deed_plain : (promises : Promises) (p : ℕ) (phase : Phase) (deed : AlgorithmDeed) → IsPlain (heard_of promises p phase deed)
deed_plain promises p phase deeds.Begin = begun_plain p phase
deed_plain promises p phase deeds.Ready = readied_plain p phase
deed_plain promises p phase deeds.Enter = entered_plain promises.order p phase
deed_plain promises p phase deeds.Reenter = refl
deed_plain promises p phase deeds.Leave = refl
deed_plain promises p phase deeds.Quit = refl

if_plain : (promises : Promises) (p : ℕ) (phase : Phase) (o : Option AlgorithmDeed) → IsPlain (heard_if promises p phase o)
if_plain promises p phase None = refl
if_plain promises p phase (Some deed) = deed_plain promises p phase deed

heard_plain : (promises : Promises) (p : ℕ) (phase : Phase) (noted : NotedDeeds) → IsPlain (deeds_heard promises p phase noted).reports
heard_plain promises p phase noted =
    let second = phase_if noted.first phase in
    let third = phase_if noted.second second in
    both_plain (heard_if promises p phase noted.first) (heard_if promises p second noted.second ++ heard_if promises p third noted.third) (if_plain promises p phase noted.first)
    (both_plain (heard_if promises p second noted.second) (heard_if promises p third noted.third) (if_plain promises p second noted.second) (if_plain promises p third noted.third))

answer_plain : (p : ℕ) (o : Option ℕ) → IsPlain (answer_reports p o)
answer_plain p None = refl
answer_plain p (Some answer) = refl

-- a step without an excess, of a text that claims nothing
step_reports : (p : ℕ) (step : MonitorStep) → step.excess ≡ None → step.broken ≡ None → IsPlain (event_reports (Took p step))
step_reports p step none unbroken =
    let heard = (deeds_heard step.promises p step.phase step.advanced.noted).reports in
    (λ i. list_any is_breach (broken_reports (unbroken i) ++ ((excess_reports p (none i) ++ heard) ++ answer_reports p step.advanced.answer)))
    ∙ both_plain heard (answer_reports p step.advanced.answer) (heard_plain step.promises p step.phase step.advanced.noted) (answer_plain p step.advanced.answer)

fell_plain : (reentry : Bool) (p : ℕ) (phase : Phase) → IsPlain (((if reentry then [] else given_up p phase) ++ Did (outers.Crash p) ∷ []) ++ [])
fell_plain true p phase = refl
fell_plain false p phases.Out = refl
fell_plain false p phases.Door = refl
fell_plain false p phases.Ready = refl
fell_plain false p phases.Inside = refl
fell_plain false p phases.DeadIn = refl

-- ---- of a text that bounds none

no_excess : (m : MonitorState) (p : ℕ) → Unbounded m → excess_of m p ≡ None
no_excess m p none =
    ap (λ o. excess o (counted_steps m p)) (no_bound m.world (section_at m.world.algorithm.entries (phase_of m p) (place_in (process_of m.world p))) none.0)

-- neither of these states breaks a claim
no_claim : (m left : MonitorState) → m.world.algorithm.claims.items ≡ [] → left.world.algorithm.claims.items ≡ [] → broken_between m left ≡ None
no_claim m left none nor = (λ i. or_line (none_broken m.world m.phases none i) (none_broken left.world left.phases nor i))

-- what is left is of the same text
same_claims : (m left : MonitorState) → monitor_at_beginning left ≡ monitor_at_beginning m → m.world.algorithm.claims.items ≡ [] → left.world.algorithm.claims.items ≡ []
same_claims m left leaves none = ap (λ (n : MonitorState). n.world.algorithm.claims.items) leaves ∙ none

step_unbroken : (m : MonitorState) (p : ℕ) (s : Advanced × AlgorithmWorldState) → advance m.world p ≡ Ok s → Unbounded m → (said_by m p (Ok s)).broken ≡ None
step_unbroken m p s is none =
    let leaves : monitor_at_beginning (part_of_step m p s).left ≡ monitor_at_beginning m =
    ap (λ r. monitor_at_beginning (left_by m (then_in (part_of_step m p) r))) (sym is) ∙ step_leaves m p in
    no_claim m (part_of_step m p s).left none.1 (same_claims m (part_of_step m p s).left leaves none.1)

abbrev crash_part : MonitorState → ℕ → Result AlgorithmWorldState AlgorithmRefusal → Result EventPart RunRefusal
crash_part m p r = then_in (λ w. part_of m p w (heard_of_crash m.world.algorithm.promises p (phase_of m p)) None 0) r

crash_unbroken : (m : MonitorState) (p : ℕ) (w : AlgorithmWorldState) → crash m.world p ≡ Ok w → Unbounded m → (crash_said_by m p (Ok w)).broken ≡ None
crash_unbroken m p w is none =
    let left : MonitorState = monitor_left m p w (heard_of_crash m.world.algorithm.promises p (phase_of m p)).phase 0 in
    let leaves : monitor_at_beginning left ≡ monitor_at_beginning m = ap (λ r. monitor_at_beginning (left_by m (crash_part m p r))) (sym is) ∙ crash_leaves m p in
    no_claim m left none.1 (same_claims m left leaves none.1)

said_plain : (m : MonitorState) (p : ℕ) (r : Result (Advanced × AlgorithmWorldState) AlgorithmRefusal) → Unbounded m → (said_by m p r).excess ≡ None
said_plain m p (Ok s) none = no_excess m p none
said_plain m p (Err e) none = refl

said_unbroken : (m : MonitorState) (p : ℕ) (r : Result (Advanced × AlgorithmWorldState) AlgorithmRefusal) → advance m.world p ≡ r → Unbounded m → (said_by m p r).broken ≡ None
said_unbroken m p (Ok s) is none = step_unbroken m p s is none
said_unbroken m p (Err e) is none = refl

pub step_plain : (m : MonitorState) (p : ℕ) → Unbounded m → IsPlain (reports_by (step_on m p))
step_plain m p none = by (advance m.world p) refl
  where
    by : (r : Result (Advanced × AlgorithmWorldState) AlgorithmRefusal) → advance m.world p ≡ r → IsPlain (reports_by (then_in (part_of_step m p) r))
    by (Ok s) is = step_reports p (said_by m p (Ok s)) (no_excess m p none) (step_unbroken m p s is none)
    by (Err e) is = refl

-- a crash of a text that claims nothing
crash_reports : (m : MonitorState) (p : ℕ) (r : Result AlgorithmWorldState AlgorithmRefusal) → crash m.world p ≡ r → Unbounded m → IsPlain (event_reports (Fell p (crash_said_by m p r)))
crash_reports m p (Ok w) is none =
    ap (λ (line : Option ℕ). list_any is_breach (broken_reports line ++ ((heard_of_crash m.world.algorithm.promises p (phase_of m p)).reports ++ answer_reports p None))) (crash_unbroken m p w is none)
    ∙ fell_plain m.world.algorithm.promises.reentry p (phase_of m p)
crash_reports m p (Err e) is none = fell_plain m.world.algorithm.promises.reentry p (phase_of m p)

pub crash_plain : (m : MonitorState) (p : ℕ) → Unbounded m → IsPlain (reports_by (crash_on m p))
crash_plain m p none = by (crash m.world p) refl
  where
    by : (r : Result AlgorithmWorldState AlgorithmRefusal) → crash m.world p ≡ r → IsPlain (reports_by (crash_part m p r))
    by (Ok w) is = crash_reports m p (Ok w) is none
    by (Err e) is = refl

pub start_plain : (m : MonitorState) (p : ℕ) (call : AlgorithmCall) → IsPlain (reports_by (part_of_start (start_on m p call)))
start_plain m p call = by (start_on m p call)
  where
    by : (r : Result MonitorState RunRefusal) → IsPlain (reports_by (part_of_start r))
    by (Ok left) = refl
    by (Err e) = refl

-- what is left is of the same text
still_unbounded : (m left : MonitorState) → monitor_at_beginning left ≡ monitor_at_beginning m → Unbounded m → Unbounded left
still_unbounded m left leaves none = (ap (λ (n : MonitorState). bounds_steps n.world.algorithm.step_bounds) leaves ∙ none.0, same_claims m left leaves none.1)

abbrev PlainOn : MonitorState → List TextReport → MonitorState → Type 0
PlainOn m reports left = Unbounded m → IsPlain reports × Unbounded left

plain_both : (m left last : MonitorState) (reports more : List TextReport) → PlainOn m reports left → PlainOn left more last → PlainOn m (reports ++ more) last
plain_both m left last reports more first later none =
    let here = first none in
    let there = later here.1 in
    (both_plain reports more here.0 there.0, there.1)

pub line_plain : (m : MonitorState) (line : Line) → Unbounded m → IsPlain (line_on m line).reports
line_plain m line none =
    (so_of_line monitor_transitions event_reports PlainOn (λ m none. (refl, none)) plain_both (λ m p call none. (refl, still_unbounded m _ (start_by_leaves m p (call_of call)) none))
    (λ m p taken none. (step_reports p (said_by m p (advance m.world p)) (said_plain m p (advance m.world p) none) (said_unbroken m p (advance m.world p) refl none), still_unbounded m _ (step_leaves m p) none))
    (λ m p taken none. (crash_reports m p (crash m.world p) refl none, still_unbounded m _ (crash_leaves m p) none)) m line none).0

pub run_plain : (k : ℕ) (m : MonitorState) (lines : List Line) → Unbounded m → IsPlain (run_on k m lines).reports
run_plain k m lines none =
    (so_of_run monitor_transitions event_reports PlainOn (λ m none. (refl, none)) plain_both (λ m p call none. (refl, still_unbounded m _ (start_by_leaves m p (call_of call)) none))
    (λ m p taken none. (step_reports p (said_by m p (advance m.world p)) (said_plain m p (advance m.world p) none) (said_unbroken m p (advance m.world p) refl none), still_unbounded m _ (step_leaves m p) none))
    (λ m p taken none. (crash_reports m p (crash m.world p) refl none, still_unbounded m _ (crash_leaves m p) none)) k m lines none).0

-- ---- verdicts

pub steps_fine : (k : ℕ) (reports : List TextReport) → IsPlain reports → promises_verdict k reports ≡ Fine
steps_fine k [] plain = refl
steps_fine k (Did outer ∷ reports) plain = steps_fine (one_more k) reports plain
steps_fine k (Answered p answer ∷ reports) plain = steps_fine k reports plain
steps_fine k (Exceeded p section ∷ reports) plain = absurd (cc)
steps_fine k (Broken line ∷ reports) plain = absurd (cc)

-- a verdict on own steps and claims is against a run that reports a breach
steps_against : (k : ℕ) (reports : List TextReport) → is_against (promises_verdict k reports) ≡ list_any is_breach reports
steps_against k [] = refl
steps_against k (Did outer ∷ reports) = steps_against (one_more k) reports
steps_against k (Answered p answer ∷ reports) = steps_against k reports
steps_against k (Exceeded p section ∷ reports) = refl
steps_against k (Broken line ∷ reports) = refl

-- by the verdict on the deeds, and whether a breach is reported
pub against_by : (v : Verdict) (reports : List TextReport) → is_against (or_verdict v (promises_verdict 1 reports)) ≡ is_against v || list_any is_breach reports
against_by Fine reports = steps_against 1 reports
against_by (Against at fault) reports = refl

pub or_fine : (v : Verdict) → or_verdict v Fine ≡ v
or_fine Fine = refl
or_fine (Against at fault) = refl

pub plain_verdict : (a : Algorithm) (procs : ℕ) (reports : List TextReport) → IsPlain reports → verdict_of a procs reports ≡ verdict_on (first_judge a procs) (deeds_of reports)
plain_verdict a procs reports plain =
    let v = verdict_on (first_judge a procs) (deeds_of reports) in
    ap (or_verdict v) (steps_fine 1 reports plain) ∙ or_fine v

-- on a new world
pub judged_by_deeds : (a : InitializedAlgorithm) (procs limit : ℕ) (lines : List Line) → bounds_steps a.algorithm.step_bounds ≡ false → a.algorithm.claims.items ≡ []
    → verdict_of a.algorithm procs (run_of a procs limit lines).reports ≡ verdict_on (first_judge a.algorithm procs) (deeds_of (run_of a procs limit lines).reports)
judged_by_deeds a procs limit lines none unclaimed = plain_verdict a.algorithm procs (run_of a procs limit lines).reports (by (new_refusal a procs limit))
  where
    by : (o : Option AlgorithmRefusal) → IsPlain (run_unless o (first_monitor a procs limit) lines).reports
    by None = run_plain 2 (first_monitor a procs limit) lines (none, unclaimed)
    by (Some e) = refl
