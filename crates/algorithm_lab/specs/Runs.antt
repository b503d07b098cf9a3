-- The run of a schedule on a world of an algorithm: what it reports, what it leaves, and the line that is refused.
use Rattle.std.specs.Prelude.{◌≡◌, ℕ, true, false, List, [], ◌∷◌, ◌++◌, Vec, Option, Some, None, is_some, Result, Ok, Err}
use Rattle.std.specs.declared.alloc.Global.{Global}
use Rattle.rmecore.specs.declared.phase.Phase.TheVariants.{Out}
use Rattle.rmeworld.specs.declared.call.Call.TheVariants as calls
use Rattle.rmeworld.specs.declared.call.Call.{Call}
use Rattle.schedule.specs.declared.lines.line.Line.{Line}
use Rattle.schedule.specs.declared.lines.line.Line.TheVariants.{CrashAll}
use Rattle.schedule.specs.declared.texts.fault.OutOfMemory.{OutOfMemory as NoMemory}
use Rattle.schedule.specs.Effects.{Effects}
use Rattle.schedule.specs.Fragments.{Fragment, line_on as line_by, run_on as run_by}
use Rattle.schedule.specs.Transitions.{RunEvent, Took, Fell, Transitions}
use Rattle.algorithms.specs.declared.access.Advanced.{Advanced}
use Rattle.algorithms.specs.declared.algorithm.AlgorithmCall.TheVariants.{Lock, Unlock, Recover, Withdraw}
use Rattle.algorithms.specs.declared.algorithm.AlgorithmCall.{AlgorithmCall}
use Rattle.algorithms.specs.declared.process.AlgorithmProcess.{AlgorithmProcess}
use Rattle.algorithms.specs.LocalRuns.{nothing_noted}
use Rattle.algorithms.specs.Worlds.{AlgorithmWorldState, advance, crash, process_of}
use Rattle.algorithms.specs.declared.refusal.AlgorithmRefusal.{AlgorithmRefusal}
use Rattle.algorithms.specs.declared.refusal.AlgorithmRefusal.TheVariants.{NoSuchCall}
use Rattle.redomail.specs.declared.deed.Deed.{Deed}
use Rattle.redomail.specs.declared.deed.Deed.TheVariants.{Outer}
use Rattle.algorithm_lab.specs.Heard.{Heard, deeds_heard, heard_of_crash}
use Rattle.algorithm_lab.specs.declared.monitor_event.MonitorCrash.{MonitorCrash}
use Rattle.algorithm_lab.specs.declared.monitor_event.MonitorStep.{MonitorStep}
use Rattle.algorithm_lab.specs.declared.run_refusal.RunRefusal.{RunRefusal}
use Rattle.algorithm_lab.specs.declared.run_refusal.RunRefusal.TheVariants.{Refused, OutOfMemory}
use Rattle.algorithm_lab.specs.declared.run_report.TextReport.{TextReport}
use Rattle.algorithm_lab.specs.declared.run_report.TextReport.TheVariants.{Did, Answered, Exceeded, Broken}
use Rattle.algorithm_lab.specs.Monitors.{MonitorState, EventPart, answer_reports, broken_between, broken_reports, crash_on, excess_of, left_by, monitor_left, part_of_start, part_of_step, phase_of, refusal_by, start_on, step_on, with_excess}

-- the deeds in what is reported
abbrev pub deeds_of : List TextReport → List Deed
deeds_of [] = []
deeds_of (Did outer ∷ reports) = Outer outer ∷ deeds_of reports
deeds_of (Answered p answer ∷ reports) = deeds_of reports
deeds_of (Exceeded p section ∷ reports) = deeds_of reports
deeds_of (Broken line ∷ reports) = deeds_of reports

-- ---- a monitor as a machine on which a schedule is played

-- a call of a schedule that an algorithm may have: those of the mailbox and its board are none
abbrev pub call_of : Call → Option AlgorithmCall
call_of calls.Lock = Some Lock
call_of calls.Unlock = Some Unlock
call_of calls.Recover = Some Recover
call_of calls.Withdraw = Some Withdraw
call_of call = None

-- a call that no algorithm has, of a process that is there
abbrev pub no_call : Result AlgorithmProcess AlgorithmRefusal → RunRefusal
no_call (Ok process) = Refused NoSuchCall
no_call (Err e) = Refused e

abbrev pub start_by : MonitorState → ℕ → Option AlgorithmCall → Result MonitorState RunRefusal
start_by m p (Some call) = start_on m p call
start_by m p None = Err (no_call (process_of m.world p))

-- what a line that starts a call does
abbrev pub start_part : MonitorState → ℕ → Call → Result EventPart RunRefusal
start_part m p call = part_of_start (start_by m p (call_of call))

-- what a step says, by what it says in the world. One that is refused says nothing
abbrev pub said_by : MonitorState → ℕ → Result (Advanced × AlgorithmWorldState) AlgorithmRefusal → MonitorStep
said_by m p (Ok s) =
    record {
      advanced = s.0;
      phase = phase_of m p;
      promises = m.world.algorithm.promises;
      excess = excess_of m p;
      broken = broken_between m (part_of_step m p s).left;
    }
said_by m p (Err e) =
    let nothing : Advanced = record { access = record { address = record { declaration = 0; index = 0 }; stores = None; swaps = false }; value = 0; noted = nothing_noted; answer = None; blocked = false } in
    record { advanced = nothing; phase = Out; promises = m.world.algorithm.promises; excess = None; broken = None }

-- what a crash says, by the world that it leaves. One that is refused says nothing
abbrev pub crash_said_by : MonitorState → ℕ → Result AlgorithmWorldState AlgorithmRefusal → MonitorCrash
crash_said_by m p (Ok w) =
    record {
      phase = phase_of m p;
      promises = m.world.algorithm.promises;
      broken = broken_between m (monitor_left m p w (heard_of_crash m.world.algorithm.promises p (phase_of m p)).phase 0);
    }
crash_said_by m p (Err e) = record { phase = phase_of m p; promises = m.world.algorithm.promises; broken = None }

abbrev pub monitor_transitions : Transitions MonitorState MonitorStep MonitorCrash RunRefusal
monitor_transitions =
    record {
      start_refusal = λ m p call. refusal_by (start_part m p call);
      started = λ m p call. left_by m (start_part m p call);
      step_refusal = λ m p. refusal_by (step_on m p);
      step = λ m p. said_by m p (advance m.world p);
      stepped = λ m p. left_by m (step_on m p);
      crash_refusal = λ m p. refusal_by (crash_on m p);
      crash = λ m p. crash_said_by m p (crash m.world p);
      crashed = λ m p. left_by m (crash_on m p);
      ends = λ step. is_some step.advanced.answer;
      is_silent = λ step. false;
      refuses_late = true;
      out_of_memory = OutOfMemory;
    }

-- what is heard of a step, by what it says
abbrev pub step_heard : ℕ → MonitorStep → Heard
step_heard p step = with_excess p step.excess (deeds_heard step.promises p step.phase step.advanced.noted)

-- what an event reports: what is heard of it, and then the answer of its call
abbrev pub event_reports : RunEvent MonitorStep MonitorCrash → List TextReport
event_reports (Took p step) = broken_reports step.broken ++ ((step_heard p step).reports ++ answer_reports p step.advanced.answer)
event_reports (Fell p crash) = broken_reports crash.broken ++ ((heard_of_crash crash.promises p crash.phase).reports ++ answer_reports p None)

-- ---- runs

-- what a run reports, what it leaves, and why it is refused
abbrev pub AlgorithmRun : Type 0 → Type 0
AlgorithmRun R = Fragment TextReport MonitorState R

-- one line. A line of steps is refused where one of them is, and the steps before that one were taken
abbrev pub line_on : MonitorState → Line → AlgorithmRun RunRefusal
line_on m line = line_by monitor_transitions event_reports m line

-- a crash of all, as one event
abbrev pub crash_all_on : MonitorState → Result EventPart RunRefusal
crash_all_on m = Ok (record { reports = (line_on m CrashAll).reports; ended = false; left = (line_on m CrashAll).left })

-- the lines from number k on
abbrev pub run_on : ℕ → MonitorState → List Line → AlgorithmRun (ℕ × RunRefusal)
run_on k m lines = run_by monitor_transitions event_reports k m lines

-- what it reports is added, and the world is as it leaves it
abbrev pub AddsRun : {R : Type 0} → AlgorithmRun R → List TextReport → List TextReport → MonitorState → Type 0
AddsRun run before now left = (now ≡ before ++ run.reports) × (left ≡ run.left)

-- what an event does to a list of reports. Where the list stops there is no memory for one more
abbrev pub report_effects : Effects (Vec TextReport Global) (RunEvent MonitorStep MonitorCrash) NoMemory
report_effects = record { hears = λ before event now. now.items ≡ before.items ++ event_reports event; stops = λ before event now stop. Unit {0} }
