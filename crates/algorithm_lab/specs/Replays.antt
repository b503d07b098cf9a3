-- What a replay of a schedule on an algorithm writes and answers.
use Rattle.std.specs.Prelude.{◌≡◌, ℕ, ◌+◌, ◌-◌, ◌^◌, min, List, [], Option, Some, None, Result, Ok, Err}
use Rattle.schedule.specs.Tapes.{Tape, Writes, Begins}
use Rattle.schedule.specs.declared.lines.line.Line.{Line}
use Rattle.schedule.specs.declared.replays.verdict.Verdict.{Verdict}
use Rattle.algorithms.specs.Worlds.{new_refusal}
use Rattle.algorithms.specs.declared.first_values.InitializedAlgorithm.{InitializedAlgorithm}
use Rattle.algorithms.specs.declared.refusal.AlgorithmRefusal.{AlgorithmRefusal}
use Rattle.algorithm_lab.specs.Monitors.{MonitorState, first_monitor}
use Rattle.algorithm_lab.specs.Reports.{reports_text, report_text, verdict_of}
use Rattle.algorithm_lab.specs.Runs.{AlgorithmRun, run_on}
use Rattle.algorithm_lab.specs.declared.replay_fault.AlgorithmReplayFault.{AlgorithmReplayFault}
use Rattle.algorithm_lab.specs.declared.replay_fault.AlgorithmReplayFault.TheVariants as faults
use Rattle.algorithm_lab.specs.declared.run_refusal.RunRefusal.{RunRefusal}
use Rattle.algorithm_lab.specs.declared.run_refusal.RunRefusal.TheVariants.{Refused}

-- why a schedule has no world: line 1 is refused where the algorithm has none of its sizes. Else there was no memory for it
abbrev pub world_fault : Option AlgorithmRefusal → AlgorithmReplayFault
world_fault None = faults.OutOfMemory
world_fault (Some e) = faults.Refused 1 (Refused e)

-- where there is no world of these sizes, line 1 is refused
abbrev pub run_unless : Option AlgorithmRefusal → MonitorState → List Line → AlgorithmRun (ℕ × RunRefusal)
run_unless None m lines = run_on 2 m lines
run_unless (Some e) m lines = record { reports = []; left = m; refused = Some (1, Refused e) }

-- the run of these lines on a new world of the algorithm
abbrev pub run_of : InitializedAlgorithm → ℕ → ℕ → List Line → AlgorithmRun (ℕ × RunRefusal)
run_of a procs limit lines = run_unless (new_refusal a procs limit) (first_monitor a procs limit) lines

-- all that a replay writes of a run: its report, or what it reports before the refusal
abbrev pub text_by : Option (ℕ × RunRefusal) → AlgorithmRun (ℕ × RunRefusal) → List ℕ
text_by None run = report_text run.left.world run.reports
text_by (Some refusal) run = reports_text run.left.world.algorithm run.reports

abbrev pub text_of : AlgorithmRun (ℕ × RunRefusal) → List ℕ
text_of run = text_by run.refused run

-- this is how a run ends: with the verdict on what it reports, or with the line that is refused
abbrev pub HasEnd : AlgorithmRun (ℕ × RunRefusal) → Result Verdict (ℕ × RunRefusal) → Type 0
HasEnd run (Ok verdict) = (run.refused ≡ None) × (verdict ≡ verdict_of run.left.world.algorithm run.left.world.procs run.reports)
HasEnd run (Err refusal) = run.refused ≡ Some refusal

-- what is answered of a run that has ended so
abbrev pub end_answer : Result Verdict (ℕ × RunRefusal) → Result Verdict AlgorithmReplayFault
end_answer (Ok verdict) = Ok verdict
end_answer (Err (line, refusal)) = Err (faults.Refused line refusal)

-- it is the text of this run, with its verdict or the line that is refused
abbrev pub IsReplayText : AlgorithmRun (ℕ × RunRefusal) → List ℕ → Result Verdict (ℕ × RunRefusal) → Type 0
IsReplayText run text ended = (text ≡ text_of run) × HasEnd run ended

-- this text of a run is written and its verdict answered, or the reason why not. A sink that fails has taken a beginning of the
-- text, and has failed once more
abbrev pub WritesRunText : Tape → Tape → List ℕ → AlgorithmRun (ℕ × RunRefusal) → Result Verdict AlgorithmReplayFault → Type 0
WritesRunText before now text run (Ok verdict) = Writes before now text × (run.refused ≡ None) × (verdict ≡ verdict_of run.left.world.algorithm run.left.world.procs run.reports)
WritesRunText before now text run (Err (faults.Refused line refusal)) = Writes before now text × (run.refused ≡ Some (line, refusal))
WritesRunText before now text run (Err faults.Write) = Begins before.taken now.taken text × (now.failures ≡ min (before.failures + 1) (2 ^ 64 - 1))
WritesRunText before now text run (Err faults.OutOfMemory) = now ≡ before

-- a replay writes its report
abbrev pub ReplaysAlgorithm : Tape → Tape → AlgorithmRun (ℕ × RunRefusal) → Result Verdict AlgorithmReplayFault → Type 0
ReplaysAlgorithm before now run answer = WritesRunText before now (text_of run) run answer
