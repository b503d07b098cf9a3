use Rattle.std.proofs.Common.{◌≡◌, ℕ, None, IfErr, OnOk, subst}
use Rattle.std.proofs.lemmas.Result.{err_from_is_err_and}
use Rattle.algorithms.specs.Worlds.{new_refusal}
use Rattle.algorithm_lab.proofs.Replays.{run_on_world}
use Rattle.algorithm_lab.specs.Monitors.{first_monitor}
use Rattle.algorithm_lab.specs.Runs.{AlgorithmRun}
use Rattle.algorithm_lab.specs.declared.run_refusal.RunRefusal.{RunRefusal}
use Rattle.algorithm_commands.proofs.AlgorithmSessions.{no_world, session_begins}
use Rattle.algorithm_commands.specs.AlgorithmSessions.{IsFaultOfRun}
use Rattle.algorithm_commands.proofs.algorithm_session.monitor_of.Goals as goal

pub returns-in_err-monitor-clause-unmade : goal.returns-in_err-monitor-clause-unmade
returns-in_err-monitor-clause-unmade c =
    let s = c.args.schedule.now in
    let p = err_from_is_err_and c.from_residual.result c.from_residual.ensures.1 in
    rw (p.1, p.2) (
    no_world c.args.algorithm.algorithm (new_refusal c.args.algorithm s.procs s.limit) (first_monitor c.args.algorithm s.procs s.limit) s.lines _
    (c.in_err-monitor.ensures.unmade c.requires)
    )

pub returns-clause-made : goal.returns-clause-made
returns-clause-made c =
    session_begins c.args.algorithm c.args.schedule.now c.in_ok-monitor.monitor c.play_all.result c.in_ok-monitor.ensures.made c.play_all.ensures.left

pub returns-clause-accepted : goal.returns-clause-accepted
returns-clause-accepted c =
    let s = c.args.schedule.now in
    subst (λ (run : AlgorithmRun (ℕ × RunRefusal)). OnOk c.play_all.result (run.refused ≡ None))
    (run_on_world c.args.algorithm s.procs s.limit s.lines c.in_ok-monitor.monitor c.in_ok-monitor.ensures.made c.in_ok-monitor.ensures.accepted) c.play_all.ensures.accepted

pub returns-clause-unmade : goal.returns-clause-unmade
returns-clause-unmade c =
    let s = c.args.schedule.now in
    subst (λ (run : AlgorithmRun (ℕ × RunRefusal)). IfErr c.play_all.result (IsFaultOfRun c.args.algorithm.algorithm run))
    (run_on_world c.args.algorithm s.procs s.limit s.lines c.in_ok-monitor.monitor c.in_ok-monitor.ensures.made c.in_ok-monitor.ensures.accepted) (c.play_all.ensures.refused c.args.algorithm.algorithm c.requires)
