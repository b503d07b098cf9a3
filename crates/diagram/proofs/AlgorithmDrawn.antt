-- A run of an algorithm that was played, and its drawing that was written.
use Rattle.std.proofs.Common.{◌≡◌, ℕ, List, false, Option, Some, None, Result, Ok, Err, refl, sym, subst, append-nil}
use Rattle.diagram.proofs.Common.{breaks_nothing, ReplayFault, Tape, Verdict, WritesText, Line}
use Rattle.diagram.proofs.NotEmpty.{drawing_some}
use Rattle.schedule.specs.declared.replays.replay_fault.ReplayFault.TheVariants.{Write, OutOfMemory}
use Rattle.schedule.specs.declared.texts.head.Head.{Head}
use Rattle.algorithms.specs.Worlds.{new_refusal}
use Rattle.algorithms.specs.declared.algorithm.Algorithm.{Algorithm}
use Rattle.algorithms.specs.declared.first_values.InitializedAlgorithm.{InitializedAlgorithm}
use Rattle.algorithms.specs.declared.refusal.AlgorithmRefusal.{AlgorithmRefusal}
use Rattle.algorithm_lab.specs.Monitors.{MonitorState, first_monitor}
use Rattle.algorithm_lab.specs.Replays.{run_of, run_unless, world_fault}
use Rattle.algorithm_lab.specs.Reports.{verdict_of}
use Rattle.algorithm_lab.specs.Runs.{AlgorithmRun, run_on}
use Rattle.algorithm_lab.specs.declared.replay_fault.AlgorithmReplayFault.{AlgorithmReplayFault}
use Rattle.algorithm_lab.specs.declared.replay_fault.AlgorithmReplayFault.TheVariants as faults
use Rattle.algorithm_lab.specs.declared.run_refusal.RunRefusal.{RunRefusal}
use Rattle.diagram.specs.declared.algorithm.row.AlgorithmRow.{AlgorithmRow}
use Rattle.diagram.specs.declared.diagram_layout.Style.{Style}
use Rattle.diagram.specs.AlgorithmDrawings.{IsDrawing, algorithm_text, answer_by, drawn_text, DrawsRun, end_by, run_text, text_unless}

-- the text of what was played is that of the run
pub text_same : (style : Style) (shown head : Head) (a : Algorithm) (m left : MonitorState) (lines : List Line) (rows : List AlgorithmRow) (verdict : Verdict) (refused : Option (ℕ × RunRefusal))
    → shown ≡ head → IsDrawing m lines rows verdict refused left → a ≡ left.world.algorithm → algorithm_text style shown a rows (end_by refused verdict) ≡ run_text style head m lines
text_same style shown head a m left lines rows verdict refused named is same = rw (named, same, is.2, is.0, is.1, is.3) refl

-- what is answered is so
pub draws : (t u : Tape) (text : List ℕ) (run : AlgorithmRun (ℕ × RunRefusal)) (verdict : Verdict) (refused : Option (ℕ × RunRefusal)) (r : Result (Unit {0}) ReplayFault) → WritesText t u text r → refused ≡ run.refused → verdict ≡ verdict_of run.left.world.algorithm run.left.world.procs run.reports
    → DrawsRun t u text run (answer_by r refused verdict)
draws t u text run verdict None (Ok x) h why ruled = (h, sym why, ruled)
draws t u text run verdict (Some (line, refusal)) (Ok x) h why ruled = (h, sym why)
draws t u text run verdict refused (Err Write) h why ruled = h
draws t u text run verdict refused (Err OutOfMemory) h why ruled = h
draws t u text run verdict refused _ h why ruled = absurd h

-- out of memory before anything is written
pub run_starved : (t : Tape) (style : Style) (head : Head) (m : MonitorState) (lines : List Line) (run : AlgorithmRun (ℕ × RunRefusal)) → DrawsRun t t (run_text style head m lines) run (Err faults.OutOfMemory)
run_starved t style head m lines run = (breaks_nothing t.taken (run_text style head m lines) (drawing_some false _ _ _ _), refl)

-- ---- a new world

on_world : (t u : Tape) (r : Option AlgorithmRefusal) (text : List ℕ) (m : MonitorState) (lines : List Line) (answer : Result Verdict AlgorithmReplayFault) → r ≡ None → DrawsRun t u text (run_on 2 m lines) answer
    → DrawsRun t u (text_unless r text) (run_unless r m lines) answer
on_world t u r text m lines answer none h = rw none h

-- there is one
pub on_new : (t u : Tape) (style : Style) (head : Head) (a : InitializedAlgorithm) (m : MonitorState) (lines : List Line) (answer : Result Verdict AlgorithmReplayFault)
    → m ≡ first_monitor a head.procs head.limit → new_refusal a head.procs head.limit ≡ None → DrawsRun t u (run_text style head m lines) (run_on 2 m lines) answer
    → DrawsRun t u (drawn_text style head a lines) (run_of a head.procs head.limit lines) answer
on_new t u style head a m lines answer made accepted h =
    let new : MonitorState = first_monitor a head.procs head.limit in
    on_world t u (new_refusal a head.procs head.limit) (run_text style head new lines) new lines answer accepted
    (subst (λ (x : MonitorState). DrawsRun t u (run_text style head x lines) (run_on 2 x lines) answer) made h)

worldless : (t : Tape) (r : Option AlgorithmRefusal) (style : Style) (head : Head) (m : MonitorState) (lines : List Line) → DrawsRun t t (text_unless r (run_text style head m lines)) (run_unless r m lines) (Err (world_fault r))
worldless t None style head m lines = run_starved t style head m lines (run_on 2 m lines)
worldless t (Some e) style head m lines = (record { taken = sym (append-nil t.taken); fine = refl }, refl)

-- there is none, and nothing is drawn
pub none_drawn : (t : Tape) (style : Style) (head : Head) (a : InitializedAlgorithm) (lines : List Line) (fault : AlgorithmReplayFault) → fault ≡ world_fault (new_refusal a head.procs head.limit)
    → DrawsRun t t (drawn_text style head a lines) (run_of a head.procs head.limit lines) (Err fault)
none_drawn t style head a lines fault is = rw is (worldless t (new_refusal a head.procs head.limit) style head (first_monitor a head.procs head.limit) lines)
