-- What a replay writes.
use Rattle.std.proofs.Common.{◌≡◌, ℕ, ◌+◌, ◌^◌, ◌-◌, min, List, Option, Some, None, Ok, Err, Result, refl, sym, ap, ◌∙◌, subst, append-nil}
use Rattle.schedule.specs.Tapes.{Tape, Begins, Writes}
use Rattle.schedule.specs.declared.lines.line.Line.{Line}
use Rattle.schedule.specs.declared.replays.verdict.Verdict.{Verdict}
use Rattle.algorithms.specs.Worlds.{new_refusal}
use Rattle.algorithms.specs.declared.first_values.InitializedAlgorithm.{InitializedAlgorithm}
use Rattle.algorithms.specs.declared.refusal.AlgorithmRefusal.{AlgorithmRefusal}
use Rattle.algorithm_lab.specs.Monitors.{MonitorState, first_monitor}
use Rattle.algorithm_lab.specs.Replays.{world_fault, run_unless, run_of, end_answer, HasEnd, IsReplayText, ReplaysAlgorithm, WritesRunText}
use Rattle.algorithm_lab.specs.Runs.{AlgorithmRun, run_on}
use Rattle.algorithm_lab.specs.declared.replay_fault.AlgorithmReplayFault.{AlgorithmReplayFault}
use Rattle.algorithm_lab.specs.declared.replay_fault.AlgorithmReplayFault.TheVariants as faults
use Rattle.algorithm_lab.specs.declared.run_refusal.RunRefusal.{RunRefusal}

-- all of a text was written
pub written_out : (before now : Tape) (text written : List ℕ) (ended : Result Verdict (ℕ × RunRefusal)) → written ≡ text → Writes before now written
    → (run : AlgorithmRun (ℕ × RunRefusal)) → HasEnd run ended → WritesRunText before now text run (end_answer ended)
written_out before now text written (Ok verdict) same writes run end = (subst (λ (t : List ℕ). Writes before now t) same writes, end.0, end.1)
written_out before now text written (Err (line, refusal)) same writes run end = (subst (λ (t : List ℕ). Writes before now t) same writes, end)

-- a sink that fails has taken a beginning of it
pub cut_off : (before now : Tape) (text written : List ℕ) → written ≡ text
    → Begins before.taken now.taken written × (now.failures ≡ min (before.failures + 1) (2 ^ 64 - 1))
    → (run : AlgorithmRun (ℕ × RunRefusal)) → WritesRunText before now text run (Err faults.Write)
cut_off before now text written same begins run = (subst (λ (t : List ℕ). Begins before.taken now.taken t) same begins.0, begins.1)

-- where there is a world of a schedule's sizes, its run is the one on it
pub run_on_world : (a : InitializedAlgorithm) (procs limit : ℕ) (lines : List Line) (m : MonitorState) → m ≡ first_monitor a procs limit → new_refusal a procs limit ≡ None
    → run_on 2 m lines ≡ run_of a procs limit lines
run_on_world a procs limit lines m made accepted =
    ap (λ (s : MonitorState). run_on 2 s lines) made ∙ sym (ap (λ o. run_unless o (first_monitor a procs limit) lines) accepted)

-- its report was made, and written
pub replayed_all : (a : InitializedAlgorithm) (procs limit : ℕ) (lines : List Line) (m : MonitorState) (text : List ℕ) (ended : Result Verdict (ℕ × RunRefusal)) (before now : Tape)
    (answer : Result Verdict AlgorithmReplayFault) → m ≡ first_monitor a procs limit → new_refusal a procs limit ≡ None → IsReplayText (run_on 2 m lines) text ended
    → ((run : AlgorithmRun (ℕ × RunRefusal)) → HasEnd run ended → WritesRunText before now text run answer)
    → ReplaysAlgorithm before now (run_of a procs limit lines) answer
replayed_all a procs limit lines m text ended before now answer made accepted is writes =
    let run = run_on 2 m lines in
    subst (λ (r : AlgorithmRun (ℕ × RunRefusal)). ReplaysAlgorithm before now r answer) (run_on_world a procs limit lines m made accepted)
    (subst (λ (t : List ℕ). WritesRunText before now t run answer) is.0 (writes run is.1))

worldless : (t : Tape) (r : Option AlgorithmRefusal) (m : MonitorState) (lines : List Line) → ReplaysAlgorithm t t (run_unless r m lines) (Err (world_fault r))
worldless t None m lines = refl
worldless t (Some e) m lines = (record { taken = sym (append-nil t.taken); fine = refl }, refl)

-- where a schedule has no world nothing is written
pub none_played : (t : Tape) (a : InitializedAlgorithm) (procs limit : ℕ) (lines : List Line) (fault : AlgorithmReplayFault) → fault ≡ world_fault (new_refusal a procs limit) → ReplaysAlgorithm t t (run_of a procs limit lines) (Err fault)
none_played t a procs limit lines fault is = rw is (worldless t (new_refusal a procs limit) (first_monitor a procs limit) lines)
