-- The rows of an algorithm's run report just what the run reports.
use Rattle.std.proofs.Common.{◌≡◌, ℕ, zero, suc, ◌-◌, Bool, true, false, if◌then◌else◌, List, [], ◌∷◌, ◌++◌, map, length, slice_get, slice_set, Option, Some, None, refl, sym, ap, ◌∙◌, append_assoc}
use Rattle.std.specs.List.{flat_map}
use Rattle.diagram.proofs.Common.{append-nil, flat_map-append, flat_map-cons, Line}
use Rattle.schedule.proofs.Fragments.{run_reported as reported_by_events}
use Rattle.schedule.specs.Fragments.{itself, run_on as run_by}
use Rattle.schedule.specs.Transitions.{RunEvent}
use Rattle.algorithm_lab.specs.Monitors.{MonitorState}
use Rattle.algorithm_lab.specs.Runs.{AlgorithmRun, event_reports, monitor_transitions, run_on}
use Rattle.algorithm_lab.specs.declared.monitor_event.MonitorCrash.{MonitorCrash}
use Rattle.algorithm_lab.specs.declared.monitor_event.MonitorStep.{MonitorStep}
use Rattle.algorithm_lab.specs.declared.run_refusal.RunRefusal.{RunRefusal}
use Rattle.algorithm_lab.specs.declared.run_report.TextReport.{TextReport}
use Rattle.diagram.proofs.AlgorithmRowEffects.{run_events}
use Rattle.diagram.proofs.RunEvents.{numbers}
use Rattle.diagram.specs.declared.algorithm.row.AlgorithmAct.{AlgorithmAct}
use Rattle.diagram.specs.declared.algorithm.row.AlgorithmAct.TheVariants.{Blocked}
use Rattle.diagram.specs.declared.algorithm.row.AlgorithmRow.{AlgorithmRow}
use Rattle.diagram.specs.declared.phase.LifelinePhase.{LifelinePhase}
use Rattle.diagram.specs.AlgorithmEvents.{AlgorithmEvent, drawn_event, drawn_events, events_on}
use Rattle.diagram.specs.AlgorithmRows.{row_counted_again, counted_by, counted_unless, further_row, last_of, reported_by, reported_in, rows_of, with_counted, with_event, with_events}

-- ---- the rows of events

if_some : (b : Bool) (x row : AlgorithmRow) → (if b then Some x else None) ≡ Some row → row ≡ x
if_some true x row e = cc
if_some false x row e = absurd cc

-- a row that is counted once more reports what it did
counted_report : (p : ℕ) (old row : AlgorithmRow) (before act : AlgorithmAct) → counted_by p old before act ≡ Some row → row.reports ≡ old.reports
counted_report p old row (Blocked word value times) (Blocked again read once) e = ap (λ (r : AlgorithmRow). r.reports) (if_some _ _ row e)
counted_report p old row _ _ e = absurd cc

last_counted : (p : ℕ) (act : AlgorithmAct) (last : Option AlgorithmRow) (row : AlgorithmRow) → row_counted_again p act last ≡ Some row → (old : AlgorithmRow) × (last ≡ Some old) × (row.reports ≡ old.reports)
last_counted p act None row e = absurd cc
last_counted p act (Some old) row e = (old, refl, counted_report p old row old.act act e)

-- the event that counts it reports nothing
counted_silent : (reports : List TextReport) (o : Option AlgorithmRow) (row : AlgorithmRow) → counted_unless reports o ≡ Some row → (reports ≡ []) × (o ≡ Some row)
counted_silent [] o row e = (refl, e)
counted_silent (t ∷ ts) o row e = absurd cc

set_reports : (rows : List AlgorithmRow) (i : ℕ) (old new : AlgorithmRow) → slice_get rows i ≡ Some old → new.reports ≡ old.reports → reported_in (slice_set rows i new) ≡ reported_in rows
set_reports [] i old new at same = absurd cc
set_reports (x ∷ xs) zero old new at same =
    let is : x ≡ old = cc in
    ap (λ (t : Option TextReport). reported_by t ++ reported_in xs) (same ∙ sym (ap (λ (r : AlgorithmRow). r.reports) is))
set_reports (x ∷ xs) (suc i) old new at same = ap (λ (ts : List TextReport). reported_by x.reports ++ ts) (set_reports xs i old new at same)

further_report : (p : ℕ) (reports : List TextReport) → reported_in (map (further_row p) reports) ≡ reports
further_report p [] = refl
further_report p (t ∷ ts) = ap (λ (xs : List TextReport). t ∷ xs) (further_report p ts)

rows_report : (p : ℕ) (act : AlgorithmAct) (phase : LifelinePhase) (reports : List TextReport) → reported_in (rows_of (record { p = p; act = act; phase = phase; reports = reports })) ≡ reports
rows_report p act phase [] = refl
rows_report p act phase (t ∷ ts) = ap (λ (xs : List TextReport). t ∷ xs) (further_report p ts)

one_event_reports : (rows : List AlgorithmRow) (e : AlgorithmEvent) → reported_in (with_event rows e) ≡ reported_in rows ++ e.reports
one_event_reports rows e = by (counted_unless e.reports (row_counted_again e.p e.act (last_of rows))) refl
  where
    by : (o : Option AlgorithmRow) → counted_unless e.reports (row_counted_again e.p e.act (last_of rows)) ≡ o → reported_in (with_counted rows e o) ≡ reported_in rows ++ e.reports
    by None is = flat_map-append (λ (row : AlgorithmRow). reported_by row.reports) rows (rows_of e) ∙ ap (λ (ts : List TextReport). reported_in rows ++ ts) (rows_report e.p e.act e.phase e.reports)
    by (Some row) is =
        let silent = counted_silent e.reports (row_counted_again e.p e.act (last_of rows)) row is in
        let says = last_counted e.p e.act (last_of rows) row silent.1 in
        set_reports rows (length rows - 1) says.0 row says.1 says.2 ∙ sym (append-nil (reported_in rows)) ∙ ap (λ (ts : List TextReport). reported_in rows ++ ts) (sym silent.0)

events_report : (rows : List AlgorithmRow) (es : List (RunEvent MonitorStep MonitorCrash)) → reported_in (with_events rows (flat_map drawn_events es)) ≡ reported_in rows ++ flat_map event_reports es
events_report rows [] = sym (append-nil (reported_in rows))
events_report rows (e ∷ es) =
    ap (λ (xs : List AlgorithmEvent). reported_in (with_events rows xs)) (flat_map-cons drawn_events e es) ∙ events_report (with_event rows (drawn_event e)) es
    ∙ ap (λ (ts : List TextReport). ts ++ flat_map event_reports es) (one_event_reports rows (drawn_event e)) ∙ append_assoc (reported_in rows) (event_reports e) (flat_map event_reports es)
    ∙ ap (λ (ts : List TextReport). reported_in rows ++ ts) (sym (flat_map-cons event_reports e es))

pub run_reported : (k : ℕ) (m : MonitorState) (lines : List Line) → reported_in (with_events [] (events_on m lines)) ≡ (run_on k m lines).reports
run_reported k m lines =
    ap (λ (es : List AlgorithmEvent). reported_in (with_events [] es)) (run_events m lines)
    ∙ events_report [] (run_by monitor_transitions itself 2 m lines).reports
    ∙ sym (ap (λ (run : AlgorithmRun (ℕ × RunRefusal)). run.reports) (reported_by_events monitor_transitions event_reports 2 m lines)) ∙ numbers monitor_transitions event_reports 2 k m lines
