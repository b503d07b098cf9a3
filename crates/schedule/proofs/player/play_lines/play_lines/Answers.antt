use Rattle.std.proofs.Common.{◌≡◌, ◌+◌, ◌∷◌, drop, [], refl, sym, ap, ◌∙◌, arith, length-drop}
use Rattle.std.proofs.lemmas.List.{nil_from_length, drop_more}
use Rattle.schedule.proofs.Fragments.{runs_first, runs_more, runs_end, runs_halt}
use Rattle.schedule.proofs.player.play_lines.play_lines.Goals as goal

pub loop-line-init : goal.loop-line-init
loop-line-init g c = (runs_first g.M.Automaton.transitions g.L.Listener.effects 2 c.args.listener.now c.args.machine.now c.args.lines.now, refl)

pub returns-in-Err : goal.returns-in-Err
returns-in-Err g c =
    let i = c.loop-line.line-index in
    let lines = c.args.lines.now in
    let item = c.line-item.result in
    let e : drop i lines ≡ item ∷ drop (i + 1) lines = drop_more lines i item c.loop-line-test.true ∙ ap (λ x. x ∷ drop (i + 1) lines) (sym c.line-item.is) in
    runs_halt g.M.Automaton.transitions g.L.Listener.effects _ _ _ _ _ _ _ item _ _ c.in-Err.stop c.loop-line.invariant.0 e c.in-Err.ensures

pub loop-line-preserved : goal.loop-line-preserved
loop-line-preserved g c =
    let i = c.loop-line.line-index in
    let lines = c.args.lines.now in
    let item = c.line-item.result in
    let e : drop i lines ≡ item ∷ drop (i + 1) lines = drop_more lines i item c.loop-line-test.true ∙ ap (λ x. x ∷ drop (i + 1) lines) (sym c.line-item.is) in
    (runs_more g.M.Automaton.transitions g.L.Listener.effects _ _ _ _ _ _ _ item _ _ c.loop-line.invariant.0 e c.in_default.ensures, omega (arith, c.loop-line.invariant.1))

pub returns : goal.returns
returns g c =
    let i = c.loop-line.line-index in
    let lines = c.args.lines.now in
    let none : drop i lines ≡ [] = nil_from_length (drop i lines) (omega (arith, length-drop i lines, c.loop-line-test.false)) in
    runs_end g.M.Automaton.transitions g.L.Listener.effects _ _ _ _ _ _ c.loop-line.invariant.0 none
