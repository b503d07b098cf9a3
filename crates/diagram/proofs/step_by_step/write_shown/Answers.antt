use Rattle.std.proofs.Common.{◌∷◌, [], List, map, sym, subst}
use Rattle.diagram.proofs.Common.{RowAct, DiagramRow, row_of, events_shown, WritesRows}
use Rattle.diagram.proofs.Steps.{again_and_again}
use Rattle.diagram.proofs.step_by_step.write_shown.Goals as goal

pub returns-in-Silent : goal.returns-in-Silent
returns-in-Silent g c =
    let t = g.W.Sink.tape c.args.w.now in
    let u = g.W.Sink.tape c.write_times.new.w in
    let p = c.args.row.now.p in
    subst (λ (act : RowAct). WritesRows t u c.args.layout.now c.args.steps.now c.write_times.new.steps (map row_of (events_shown p act)) c.write_times.result) (sym c.in-Silent.is)
    (subst (λ (rows : List DiagramRow). WritesRows t u c.args.layout.now c.args.steps.now c.write_times.new.steps rows c.write_times.result)
    (again_and_again p c.in-Silent.times c.in-Silent.happened) c.write_times.ensures)

pub returns-in-Telling : goal.returns-in-Telling
returns-in-Telling g c =
    let t = g.W.Sink.tape c.args.w.now in
    let u = g.W.Sink.tape c.write_times-in-Telling.new.w in
    let p = c.args.row.now.p in
    subst (λ (act : RowAct). WritesRows t u c.args.layout.now c.args.steps.now c.write_times-in-Telling.new.steps (map row_of (events_shown p act)) c.write_times-in-Telling.result) (sym c.in-Telling.is)
    (subst (λ (row : DiagramRow). WritesRows t u c.args.layout.now c.args.steps.now c.write_times-in-Telling.new.steps (row ∷ []) c.write_times-in-Telling.result)
    c.row_of.ensures c.write_times-in-Telling.ensures)

pub returns-in-Fell : goal.returns-in-Fell
returns-in-Fell g c =
    let t = g.W.Sink.tape c.args.w.now in
    let u = g.W.Sink.tape c.write_times-in-Fell.new.w in
    let p = c.args.row.now.p in
    subst (λ (act : RowAct). WritesRows t u c.args.layout.now c.args.steps.now c.write_times-in-Fell.new.steps (map row_of (events_shown p act)) c.write_times-in-Fell.result) (sym c.in-Fell.is)
    (subst (λ (act : RowAct). WritesRows t u c.args.layout.now c.args.steps.now c.write_times-in-Fell.new.steps (record { p = p; act = act } ∷ []) c.write_times-in-Fell.result)
    c.in-Fell.is c.write_times-in-Fell.ensures)
