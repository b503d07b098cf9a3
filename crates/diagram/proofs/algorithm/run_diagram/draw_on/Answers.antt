use Rattle.std.proofs.Common.{◌≡◌, ℕ, List, ap, ◌∙◌, subst}
use Rattle.diagram.proofs.Common.{err_from_is_err_and, WritesText}
use Rattle.schedule.specs.Schedules.{head_of}
use Rattle.algorithm_lab.specs.Runs.{run_on}
use Rattle.algorithms.specs.Worlds.{AlgorithmWorldState}
use Rattle.diagram.proofs.AlgorithmDrawn.{draws, run_starved, text_same}
use Rattle.diagram.proofs.algorithm.run_diagram.draw_on.Goals as goal

pub returns-in_err-drawing : goal.returns-in_err-drawing
returns-in_err-drawing g c =
    let s = c.args.schedule.now in
    let p = err_from_is_err_and c.from_residual.result c.from_residual.ensures.1 in
    rw (p.1, p.2) (run_starved (g.W.Sink.tape c.args.w.now) c.args.style (head_of s) c.args.monitor s.lines (run_on 2 c.args.monitor s.lines))

pub returns : goal.returns
returns g c =
    let s = c.args.schedule.now in
    let m = c.args.monitor in
    let d = c.in_ok-drawing.drawing in
    let is = c.in_ok-drawing.ensures in
    let left = c.play.new.monitor in
    let t = g.W.Sink.tape c.args.w.now in
    let u = g.W.Sink.tape c.write_algorithm-written.new.w in
    let same : c.algorithm-algorithm.result.now ≡ left.world.algorithm = c.algorithm-algorithm.ensures ∙ ap (λ (w : AlgorithmWorldState). w.algorithm) c.world.ensures in
    let text = text_same c.args.style c.head.result (head_of s) c.algorithm-algorithm.result.now m left s.lines d.rows.items d.verdict d.refused c.head.ensures is same in
    rw c.answer.ensures
    (draws t u _ (run_on 2 m s.lines) d.verdict d.refused c.write_algorithm-written.result
    (subst (λ (x : List ℕ). WritesText t u x c.write_algorithm-written.result) text c.write_algorithm-written.ensures) is.1 is.3)
