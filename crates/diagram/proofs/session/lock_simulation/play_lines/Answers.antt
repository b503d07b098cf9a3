use Rattle.std.proofs.Common.{◌≡◌, ◌+◌, ◌∷◌, drop, [], sym, ap, ◌∙◌, arith}
use Rattle.diagram.proofs.Common.{drop_more, length-drop, nil_from_length}
use Rattle.diagram.proofs.Watching.{lock_next}
use Rattle.diagram.specs.LockSimulations.{LockSimulationState, lock_with}
use Rattle.diagram.specs.Semantics.{lines_on}
use Rattle.diagram.proofs.session.lock_simulation.play_lines.Goals as goal

pub loop-line-preserved : goal.loop-line-preserved
loop-line-preserved c =
    let i = c.loop-line.line-index in
    let lines = c.args.lines.now in
    let item = c.line-item.result in
    let lock : LockSimulationState = record { world = c.loop-line.world; last_steps = c.loop-line.last_steps } in
    let e : drop i lines ≡ item ∷ drop (i + 1) lines = drop_more lines i item c.loop-line-test.true ∙ ap (λ x. x ∷ drop (i + 1) lines) (sym c.line-item.is) in
    lock_next lock c.play_line.new.machine c.play_line.new.last_steps item (drop i lines) (drop (i + 1) lines) e c.in_ok-play_line.ensures.left c.in_ok-play_line.ensures.last_steps
    ∙ c.loop-line.invariant

pub returns : goal.returns
returns c =
    let i = c.loop-line.line-index in
    let lines = c.args.lines.now in
    let lock : LockSimulationState = record { world = c.loop-line.world; last_steps = c.loop-line.last_steps } in
    let none : drop i lines ≡ [] = nil_from_length (drop i lines) (omega (arith, length-drop i lines, c.loop-line-test.false)) in
    ap (λ ls. lines_on lock_with lock ls) (sym none) ∙ c.loop-line.invariant
