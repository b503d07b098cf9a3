-- A judge allows all that a run of the text reports, whatever its lines are.
use Rattle.std.proofs.Common.{◌≡◌, ℕ, ◌^◌, ◌≤◌, List, [], ◌++◌, Option, Some, None, Result, Ok, Err, IfOk, refl, sym, ap, ◌∙◌, subst}
use Rattle.rmecore.specs.AbstractLock.{Abstract, nobody}
use Rattle.rmeworld.specs.declared.call.Call.{Call}
use Rattle.schedule.specs.Tapes.{Tape}
use Rattle.schedule.specs.declared.lines.line.Line.{Line}
use Rattle.schedule.specs.declared.replays.verdict.Verdict.{Verdict}
use Rattle.schedule.specs.declared.replays.verdict.Verdict.TheVariants.{Fine}
use Rattle.schedule.proofs.WorldRuns.{legal_is_fine}
use Rattle.schedule.specs.Verdicts.{verdict_on}
use Rattle.judge.specs.Table.{empty_state_of}
use Rattle.schedule.specs.Transitions.{Fell, Took}
use Rattle.algorithms.specs.FirstWords.{from_zeros}
use Rattle.algorithms.specs.Worlds.{advance, new_refusal}
use Rattle.algorithms.specs.declared.algorithm.Algorithm.{Algorithm}
use Rattle.algorithms.specs.declared.algorithm.Promises.{Promises}
use Rattle.algorithms.specs.declared.algorithm.AlgorithmCall.{AlgorithmCall}
use Rattle.algorithms.specs.declared.refusal.AlgorithmRefusal.{AlgorithmRefusal}
use Rattle.algorithm_lab.specs.Bakery.{IsBakery}
use Rattle.algorithm_lab.specs.Monitors.{IsReportedPart, MonitorState, EventPart, first_monitor, left_by, part_of_start, refusal_by, start_on, step_on, crash_on}
use Rattle.algorithm_lab.specs.Moves.{moved_by}
use Rattle.algorithm_lab.specs.Replays.{run_unless, run_of, ReplaysAlgorithm}
use Rattle.algorithm_lab.specs.Reports.{first_judge, verdict_of}
use Rattle.algorithm_lab.specs.Sections.{bounds_steps}
use Rattle.algorithm_lab.proofs.NoExcess.{plain_verdict, run_plain}
use Rattle.algorithm_lab.specs.Runs.{AlgorithmRun, deeds_of, call_of, event_reports, line_on, monitor_transitions, run_on, said_by, start_by, start_part}
use Rattle.algorithm_lab.specs.declared.run_report.TextReport.{TextReport}
use Rattle.algorithm_lab.proofs.Restarts.{run_leaves}
use Rattle.algorithm_lab.proofs.Runs.{crash_appended, deeds_append, so_of_line, so_of_run, step_appended}
use Rattle.algorithm_lab.specs.declared.monitor_event.MonitorStep.{MonitorStep}
use Rattle.algorithm_lab.specs.declared.replay_fault.AlgorithmReplayFault.{AlgorithmReplayFault}
use Rattle.algorithm_lab.specs.declared.run_refusal.RunRefusal.{RunRefusal}
use Rattle.algorithm_lab.proofs.BakeryDeeds.{judge_at, deeds_said}
use Rattle.algorithm_lab.proofs.BakeryJudged.{fitting, Beside, Led, first_beside, stays, led_on, start_led, step_led, crash_led}

module _ (a : Algorithm) (b : IsBakery a) (n limit : ℕ) (most : n ≤ 64) (high : limit ≤ 2 ^ 62) where
  abbrev BesideAt : Abstract → MonitorState → Type 0
  BesideAt lock m = Beside a b n limit most high lock m

  -- a judge allows what is reported on the way from one monitor to another
  abbrev Fits : MonitorState → List TextReport → MonitorState → Type 0
  Fits m reports left = (lock : Abstract) → BesideAt lock m → Led a b n limit most high lock (deeds_of reports) left

  both_fit : (m left last : MonitorState) (reports more : List TextReport) → Fits m reports left → Fits left more last → Fits m (reports ++ more) last
  both_fit m left last reports more first later lock h =
      let led = first lock h in
      subst (λ ds. Led a b n limit most high lock ds last) (sym (deeds_append reports more)) (led_on a b n limit most high lock (deeds_of reports) (deeds_of more) left last led (later led.lock led.beside))

  -- a start reports nothing
  start_fits : (m : MonitorState) (p : ℕ) (call : Call) → Fits m [] (left_by m (start_part m p call))
  start_fits m p call lock h = by (call_of call)
    where
      begun : (r : Result MonitorState RunRefusal) → Led a b n limit most high lock (deeds_said (moved_by m (part_of_start r)).said) (moved_by m (part_of_start r)).left → Led a b n limit most high lock [] (left_by m (part_of_start r))
      begun (Ok left) led = led
      begun (Err e) led = led

      by : (o : Option AlgorithmCall) → Led a b n limit most high lock [] (left_by m (part_of_start (start_by m p o)))
      by None = stays a b n limit most high lock m h
      by (Some c) = begun (start_on m p c) (start_led a b n limit most high lock m p c h)

  part_fits : (m left : MonitorState) (reports : List TextReport) (r : Result EventPart RunRefusal) (lock : Abstract) → IsReportedPart r [] reports left → Led a b n limit most high lock (deeds_said (moved_by m r).said) (moved_by m r).left
      → Led a b n limit most high lock (deeds_of reports) left
  part_fits m left reports (Ok part) lock is led = rw (is.0, is.1) led
  part_fits m left reports (Err e) lock is led = absurd is

  step_fits : (m : MonitorState) (p : ℕ) → refusal_by (step_on m p) ≡ None → Fits m (event_reports (Took p (said_by m p (advance m.world p)))) (left_by m (step_on m p))
  step_fits m p taken lock h =
      let step : MonitorStep = said_by m p (advance m.world p) in
      let left : MonitorState = left_by m (step_on m p) in
      part_fits m left (event_reports (Took p step)) (step_on m p) lock (step_appended m left p step [] (event_reports (Took p step)) (taken, refl, refl) refl) (step_led a b n limit most high lock m p h)

  crash_fits : (m : MonitorState) (p : ℕ) → refusal_by (crash_on m p) ≡ None → Fits m (event_reports (Fell p (monitor_transitions.crash m p))) (left_by m (crash_on m p))
  crash_fits m p taken lock h =
      part_fits m (left_by m (crash_on m p)) (event_reports (Fell p (monitor_transitions.crash m p))) (crash_on m p) lock (crash_appended m p taken) (crash_led a b n limit most high lock m p h)

  pub line_fits : (m : MonitorState) (line : Line) → Fits m (line_on m line).reports (line_on m line).left
  line_fits = so_of_line monitor_transitions event_reports Fits (λ m lock h. stays a b n limit most high lock m h) both_fit start_fits step_fits crash_fits

  run_fits : (k : ℕ) (m : MonitorState) (all : List Line) → Fits m (run_on k m all).reports (run_on k m all).left
  run_fits = so_of_run monitor_transitions event_reports Fits (λ m lock h. stays a b n limit most high lock m h) both_fit start_fits step_fits crash_fits

  -- what is said of a run from a new world
  pub record IsFine (run : AlgorithmRun (ℕ × RunRefusal)) : Type 0 where
    pub verdict : verdict_of a n run.reports ≡ Fine
    pub procs : run.left.world.procs ≡ n
    pub algorithm : run.left.world.algorithm ≡ a

  pub new_is_fine : (all : List Line) → IsFine (run_on 2 (first_monitor (from_zeros a) n limit) all)
  new_is_fine all =
      let led = run_fits 2 (first_monitor (from_zeros a) n limit) all nobody (first_beside a b n limit most high) in
      let reports = (run_on 2 (first_monitor (from_zeros a) n limit) all).reports in
      let of_one : first_judge a n ≡ judge_at n nobody = ap (λ k. empty_state_of k n 1) (ap (λ (p : Promises). p.most_inside) b.promises) in
      let plain = plain_verdict a n reports (run_plain 2 (first_monitor (from_zeros a) n limit) all (ap bounds_steps b.step_bounds, b.claims)) in
      record {
        verdict = plain ∙ ap (λ first. verdict_on first (deeds_of reports)) of_one ∙ legal_is_fine 1 (judge_at n nobody) (judge_at n led.lock) _ led.judged;
        procs = ap (λ (m : MonitorState). m.world.procs) led.beside.is;
        algorithm = ap (λ (m : MonitorState). m.world.algorithm) (run_leaves 2 (first_monitor (from_zeros a) n limit) all);
      }

-- the verdict of a replay, and the processes of its world
pub fine : (a : Algorithm) → IsBakery a → (n limit : ℕ) (all : List Line) → (verdict_of a n (run_of (from_zeros a) n limit all).reports ≡ Fine) × ((run_of (from_zeros a) n limit all).left.world.procs ≡ n)
    × ((run_of (from_zeros a) n limit all).left.world.algorithm ≡ a)
fine a b n limit all = by (new_refusal (from_zeros a) n limit) refl
  where
    by : (o : Option AlgorithmRefusal) → new_refusal (from_zeros a) n limit ≡ o
        → (verdict_of a n (run_unless o (first_monitor (from_zeros a) n limit) all).reports ≡ Fine) × ((run_unless o (first_monitor (from_zeros a) n limit) all).left.world.procs ≡ n)
        × ((run_unless o (first_monitor (from_zeros a) n limit) all).left.world.algorithm ≡ a)
    by None may = let low = fitting a n limit may in let h = new_is_fine a b n limit low.0 low.1 all in (h.verdict, h.procs, h.algorithm)
    by (Some e) may = (refl, refl, refl)

pub replayed_fine : (a : Algorithm) → IsBakery a → (n limit : ℕ) (all : List Line) (before now : Tape) (answer : Result Verdict AlgorithmReplayFault) → ReplaysAlgorithm before now (run_of (from_zeros a) n limit all) answer → IfOk answer (λ verdict. verdict ≡ Fine)
replayed_fine a b n limit all before now (Err fault) replays = tt
replayed_fine a b n limit all before now (Ok verdict) replays =
    let h = fine a b n limit all in
    replays.2 ∙ (λ i. verdict_of (h.2 i) (h.1 i) (run_of (from_zeros a) n limit all).reports) ∙ h.0
