-- The lines of a schedule, by what starts, steps and crashes come to; and the list that hears what they report.
use Rattle.std.proofs.Common.{◌≡◌, ℕ, zero, suc, ◌+◌, Bool, true, false, if◌then◌else◌, List, [], ◌∷◌, ◌++◌, Option, Some, None, is_some, Result, Ok, Err, IfOk, OnOk, refl, sym, ap, ◌∙◌, subst, append_assoc, append-nil, inl, inr}
use Rattle.std.specs.List.{flat_map}
use Rattle.std.specs.Prelude.{Vec}
use Rattle.std.specs.declared.alloc.Global.{Global}
use Rattle.std.proofs.lemmas.Bool.{cases_Bool}
use Rattle.std.proofs.lemmas.List.Concat.{flat_map-cons}
use Rattle.redomail.specs.declared.deed.Deed.TheVariants.{Outer}
use Rattle.rmeworld.specs.declared.call.Call.{Call}
use Rattle.schedule.proofs.Fragments.{preceded, report_of}
use Rattle.schedule.specs.declared.lines.line.Line.{Line}
use Rattle.schedule.specs.declared.lines.line.Line.TheVariants.{Start, Step, Crash, CrashAll}
use Rattle.schedule.specs.Effects.{Effects, HearsAll}
use Rattle.schedule.specs.Fragments.{Fragment, crashes_in_a_row, fragment_after_line, unless, steps as steps_by, line_on as line_by, run_on as run_by}
use Rattle.schedule.specs.Plays.{PlaysAll, PlaysOn}
use Rattle.schedule.specs.declared.player.play_stop.PlayStop.{PlayStop}
use Rattle.schedule.specs.declared.player.play_stop.PlayStop.TheVariants.{Refused}
use Rattle.schedule.specs.Transitions.{RunEvent, StepsFrom, Took, Fell, Transitions}
use Rattle.algorithms.specs.Worlds.{AlgorithmWorldState, advance, crash}
use Rattle.algorithms.specs.declared.access.Advanced.{Advanced}
use Rattle.algorithms.specs.declared.refusal.AlgorithmRefusal.{AlgorithmRefusal}
use Rattle.algorithm_lab.specs.Heard.{heard_of_crash}
use Rattle.algorithm_lab.specs.Monitors.{IsRefusal, IsReportedPart, MonitorState, EventPart, crash_on, left_by, part_of, part_of_start, part_of_step, phase_of, refusal_by, reports_by, step_on, then_in}
use Rattle.algorithm_lab.specs.Runs.{AlgorithmRun, AddsRun, call_of, crash_said_by, deeds_of, event_reports, line_on, monitor_transitions, report_effects, said_by, start_by, start_part}
use Rattle.algorithm_lab.specs.declared.monitor_event.MonitorCrash.{MonitorCrash}
use Rattle.algorithm_lab.specs.declared.monitor_event.MonitorStep.{MonitorStep}
use Rattle.algorithm_lab.specs.declared.run_refusal.RunRefusal.{RunRefusal}
use Rattle.algorithm_lab.specs.declared.run_refusal.RunRefusal.TheVariants.{OutOfMemory}
use Rattle.algorithm_lab.specs.declared.run_report.TextReport.{TextReport}
use Rattle.algorithm_lab.specs.declared.run_report.TextReport.TheVariants.{Did, Answered, Exceeded, Broken}

pub deeds_append : (reports more : List TextReport) → deeds_of (reports ++ more) ≡ deeds_of reports ++ deeds_of more
deeds_append [] more = refl
deeds_append (Did outer ∷ reports) more = ap (λ ds. Outer outer ∷ ds) (deeds_append reports more)
deeds_append (Answered p answer ∷ reports) more = deeds_append reports more
deeds_append (Exceeded p section ∷ reports) more = deeds_append reports more
deeds_append (Broken line ∷ reports) more = deeds_append reports more

-- what a start, a step or a crash comes to, as a run
abbrev pub part_run : MonitorState → Result EventPart RunRefusal → AlgorithmRun RunRefusal
part_run m r = record { reports = reports_by r; left = left_by m r; refused = refusal_by r }

-- at most n steps of p, until its call ends or a step is refused
abbrev pub steps : ℕ → ℕ → MonitorState → AlgorithmRun RunRefusal
steps p n m = line_on m (Step p n)

-- a step, and the steps after it unless it ends its call or is refused
abbrev pub after_step : Result EventPart RunRefusal → MonitorState → (MonitorState → AlgorithmRun RunRefusal) → AlgorithmRun RunRefusal
after_step (Ok part) m rest = if part.ended then part_run m (Ok part) else preceded part.reports (rest part.left)
after_step (Err e) m rest = part_run m (Err e)

pub line_of_start : (m : MonitorState) (p : ℕ) (call : Call) → line_on m (Start p call) ≡ part_run m (start_part m p call)
line_of_start m p call = by (start_by m p (call_of call))
  where
    by : (r : Result MonitorState RunRefusal) → unless (refusal_by (part_of_start r)) m [] (left_by m (part_of_start r)) ≡ part_run m (part_of_start r)
    by (Ok left) = refl
    by (Err e) = refl

-- a crash with this outcome in the world
abbrev crash_part : MonitorState → ℕ → Result AlgorithmWorldState AlgorithmRefusal → Result EventPart RunRefusal
crash_part m p r = then_in (λ w. part_of m p w (heard_of_crash m.world.algorithm.promises p (phase_of m p)) None 0) r

pub line_of_crash : (m : MonitorState) (p : ℕ) → line_on m (Crash p) ≡ part_run m (crash_on m p)
line_of_crash m p = by (crash m.world p)
  where
    by : (r : Result AlgorithmWorldState AlgorithmRefusal) → unless (refusal_by (crash_part m p r)) m (event_reports (Fell p (crash_said_by m p r))) (left_by m (crash_part m p r)) ≡ part_run m (crash_part m p r)
    by (Ok w) = refl
    by (Err e) = refl

pub first_step : (p n : ℕ) (m : MonitorState) → steps p (suc n) m ≡ after_step (step_on m p) m (steps p n)
first_step p n m = by (advance m.world p) refl
  where
    by : (r : Result (Advanced × AlgorithmWorldState) AlgorithmRefusal) → advance m.world p ≡ r → steps p (suc n) m ≡ after_step (step_on m p) m (steps p n)
    by (Err e) is = rw is refl
    by (Ok s) is =
        elim (cases_Bool (is_some s.0.answer)) [
          | inl ends ↦
              let part = part_of_step m p s in
              rw (is, ends) (ap (λ (ts : List TextReport). record { reports = ts; left = part.left; refused = None }) (append-nil part.reports))
          | inr goes ↦ rw (is, goes) refl
        ]

pub line_of_step : (m : MonitorState) (p : ℕ) → line_on m (Step p 1) ≡ part_run m (step_on m p)
line_of_step m p = first_step p 0 m ∙ by (step_on m p)
  where
    ended : (part : EventPart) (b : Bool) → (if b then part_run m (Ok part) else preceded part.reports (steps p 0 part.left)) ≡ part_run m (Ok part)
    ended part true = refl
    ended part false = ap (λ (ts : List TextReport). record { reports = ts; left = part.left; refused = None }) (append-nil part.reports)

    by : (r : Result EventPart RunRefusal) → after_step r m (steps p 0) ≡ part_run m r
    by (Ok part) = ended part part.ended
    by (Err e) = refl

-- ---- steps that append what they report

-- it is refused, and not for memory
pub refused_so : (r : Result EventPart RunRefusal) (e : RunRefusal) → ((e ≡ OutOfMemory → ⊥) → refusal_by r ≡ Some e) → IsRefusal e → r ≡ Err e
refused_so (Ok part) OutOfMemory is refusal = absurd refusal
refused_so (Err x) OutOfMemory is refusal = absurd refusal
refused_so (Ok part) e is refusal = absurd (let no : None ≡ Some e = is (λ memory. cc) in cc)
refused_so (Err x) e is refusal = let same : Some x ≡ Some e = is (λ memory. cc) in cc

pub step_appended : (m left : MonitorState) (p : ℕ) (step : MonitorStep) (before now : List TextReport) → StepsFrom monitor_transitions m p step left → now ≡ before ++ event_reports (Took p step) → IsReportedPart (step_on m p) before now left
step_appended m left p step before now taken wrote = by (advance m.world p) taken.0 taken.1 taken.2
  where
    part : Result (Advanced × AlgorithmWorldState) AlgorithmRefusal → Result EventPart RunRefusal
    part r = then_in (part_of_step m p) r

    by : (r : Result (Advanced × AlgorithmWorldState) AlgorithmRefusal) → refusal_by (part r) ≡ None → step ≡ said_by m p r → left ≡ left_by m (part r) → IsReportedPart (part r) before now left
    by (Ok s) none is leaves = (wrote ∙ ap (λ (x : MonitorStep). before ++ event_reports (Took p x)) is, leaves)
    by (Err e) none is leaves = absurd (cc)

pub crash_appended : (m : MonitorState) (p : ℕ) → refusal_by (crash_on m p) ≡ None → IsReportedPart (crash_on m p) [] (event_reports (Fell p (monitor_transitions.crash m p))) (left_by m (crash_on m p))
crash_appended m p = by (crash m.world p)
  where
    by : (r : Result AlgorithmWorldState AlgorithmRefusal) → refusal_by (crash_part m p r) ≡ None → IsReportedPart (crash_part m p r) [] (event_reports (Fell p (crash_said_by m p r))) (left_by m (crash_part m p r))
    by (Ok w) none = (refl, refl)
    by (Err e) none = absurd (cc)

-- ---- what is so of each event of a run is so of the run

module _ {S T C R X : Type 0} (m : Transitions S T C R) (report : RunEvent T C → List X) (P : S → List X → S → Type 0) (none : (s : S) → P s [] s)
    (both : (s t u : S) (xs ys : List X) → P s xs t → P t ys u → P s (xs ++ ys) u) (starts : (s : S) (p : ℕ) (call : Call) → P s [] (m.started s p call))
    (takes : (s : S) (p : ℕ) → m.step_refusal s p ≡ None → P s (report (Took p (m.step s p))) (m.stepped s p))
    (falls : (s : S) (p : ℕ) → m.crash_refusal s p ≡ None → P s (report (Fell p (m.crash s p))) (m.crashed s p)) where
  so_of_steps : (p n : ℕ) (s : S) → P s (steps_by m report p n s).0 (steps_by m report p n s).1
  so_of_steps p zero s = none s
  so_of_steps p (suc n) s = by (m.step_refusal s p) refl (m.ends (m.step s p)) (so_of_steps p n (m.stepped s p))
    where
      rest : Bool → List X × S
      rest ends = if ends then ([], m.stepped s p) else steps_by m report p n (m.stepped s p)

      all : Option R → Bool → List X × S
      all o ends = if is_some o then ([], s) else (report (Took p (m.step s p)) ++ (rest ends).0, (rest ends).1)

      by : (o : Option R) → m.step_refusal s p ≡ o → (ends : Bool) → P (m.stepped s p) (steps_by m report p n (m.stepped s p)).0 (steps_by m report p n (m.stepped s p)).1 → P s (all o ends).0 (all o ends).1
      by None is true later = both s _ _ _ [] (takes s p is) (none _)
      by None is false later = both s _ _ _ _ (takes s p is) later
      by (Some e) is ends later = none s

  so_of_crashes : (p n : ℕ) (s : S) → P s (crashes_in_a_row m report p n s).0 (crashes_in_a_row m report p n s).1
  unfolding crashes_in_a_row
  so_of_crashes p zero s = none s
  so_of_crashes p (suc n) s = by (m.crash_refusal s p) refl (so_of_crashes (p + 1) n (m.crashed s p))
    where
      rest : List X × S
      rest = crashes_in_a_row m report (p + 1) n (m.crashed s p)

      all : Option R → List X × S
      all o = if is_some o then ([], s) else (report (Fell p (m.crash s p)) ++ rest.0, rest.1)

      by : (o : Option R) → m.crash_refusal s p ≡ o → P (m.crashed s p) rest.0 rest.1 → P s (all o).0 (all o).1
      by None is later = both s _ _ _ _ (falls s p is) later
      by (Some e) is later = none s

  pub so_of_line : (s : S) (line : Line) → P s (line_by m report s line).reports (line_by m report s line).left
  so_of_line s (Start p call) = by (m.start_refusal s p call)
    where
      by : (o : Option R) → P s (unless {X = X} o s [] (m.started s p call)).reports (unless {X = X} o s [] (m.started s p call)).left
      by None = starts s p call
      by (Some e) = none s
  so_of_line s (Step p n) = so_of_steps p n s
  so_of_line s (Crash p) = by (m.crash_refusal s p) refl
    where
      part : Option R → Fragment X S R
      part o = unless o s (report (Fell p (m.crash s p))) (m.crashed s p)

      by : (o : Option R) → m.crash_refusal s p ≡ o → P s (part o).reports (part o).left
      by None is = falls s p is
      by (Some e) is = none s
  so_of_line s CrashAll = so_of_crashes 0 64 s

  pub so_of_run : (k : ℕ) (s : S) (lines : List Line) → P s (run_by m report k s lines).reports (run_by m report k s lines).left
  so_of_run k s [] = none s
  so_of_run k s (line ∷ lines) = by part.refused (so_of_line s line) (so_of_run (k + 1) part.left lines)
    where
      part : Fragment X S R
      part = line_by m report s line

      rest : Fragment X S (ℕ × R)
      rest = run_by m report (k + 1) part.left lines

      by : (o : Option R) → P s part.reports part.left → P part.left rest.reports rest.left → P s (fragment_after_line k part o rest).reports (fragment_after_line k part o rest).left
      by None first later = both s _ _ _ _ first later
      by (Some e) first later = first

-- ---- a list that hears them

-- what hears each event by appending what it reports
module _ {L E X : Type 0} (hears : L → E → L → Type 0) (items : L → List X) (report : E → List X) (each : (before now : L) (event : E) → hears before event now → items now ≡ items before ++ report event) where
  pub all_appended : (first now : L) (events : List E) → HearsAll hears first events now → items now ≡ items first ++ flat_map report events
  all_appended first now [] same = ap items same ∙ sym (append-nil (items first))
  all_appended first now (event ∷ events) all =
      all_appended all.0 now events all.2 ∙ ap (λ (xs : List X). xs ++ flat_map report events) (each first all.0 event all.1) ∙ append_assoc (items first) (report event) (flat_map report events)
      ∙ ap (λ (xs : List X). items first ++ xs) (sym (flat_map-cons report event events))

pub adds_run : {R A : Type 0} (first now : Vec TextReport Global) (part : Fragment (RunEvent MonitorStep MonitorCrash) MonitorState R) (run : AlgorithmRun R) (left : MonitorState) (r : Result (Option R) A) → run ≡ report_of event_reports part
    → IfOk r (λ refused. PlaysAll report_effects first now part left refused) → OnOk r (AddsRun run first.items now.items left) × IfOk r (λ refused. refused ≡ run.refused)
adds_run first now part run left (Err e) is plays = (tt, tt)
adds_run first now part run left (Ok refused) is plays =
    let heard = all_appended report_effects.hears (λ (list : Vec TextReport Global). list.items) event_reports (λ before next event hears. hears) first now part.reports plays.hears in
    rw is ((heard, plays.stands), sym plays.refused_is)

-- the refusal that a run ends with
pub plays_refused : {L S T C R Stop : Type 0} (m : Transitions S T C R) (h : Effects L (RunEvent T C) Stop) (before now : L) (run : Fragment (RunEvent T C) S (ℕ × R)) (s : S) (line : ℕ) (stop : PlayStop R Stop) (refusal : R) → stop ≡ Refused refusal
    → PlaysOn {A = Unit {0}} m h before now run s (Err (line, stop)) → PlaysAll h before now run s (Some (line, refusal))
plays_refused m h before now run s line stop refusal is plays = (subst (λ x. PlaysOn {A = Unit {0}} m h before now run s (Err (line, x))) is plays).0
