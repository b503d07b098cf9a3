use Rattle.std.proofs.Common.{◌≡◌, List, Err, ap, subst, ◌∙◌, ℕ}
use Rattle.diagram.proofs.Common.{err_from_is_err_and, Image, Writes, run_on, LifelinePhase, WritesText, DiagramEvent, events_on, events_in}
use Rattle.schedule.specs.declared.texts.head.Head.{Head}
use Rattle.schedule.specs.Schedules.{head_of}
use Rattle.diagram.specs.StepLines.{step_lines}
use Rattle.diagram.proofs.Lines.{no_lines, lines_end, lines_fail, steps_some}
use Rattle.diagram.proofs.following_lines.follow_as_lines.Goals as goal

pub returns-in_default-clause-follows : goal.returns-in_default-clause-follows
returns-in_default-clause-follows g c start keeps =
    let b = g.M.Machine.behaviour in
    let schedule = c.args.schedule.now in
    no_lines (g.W.Sink.tape c.args.w.now) start b.image_of (run_on b 2 c.args.machine.now schedule.lines) _
    (steps_some (head_of schedule) c.args.first (b.image_of c.args.machine.now) (events_on b c.args.machine.now schedule.lines))

pub returns-in_default-draw-clause-follows : goal.returns-in_default-draw-clause-follows
returns-in_default-draw-clause-follows g c start keeps =
    let b = g.M.Machine.behaviour in
    let schedule = c.args.schedule.now in
    no_lines (g.W.Sink.tape c.args.w.now) start b.image_of (run_on b 2 c.args.machine.now schedule.lines) _
    (steps_some (head_of schedule) c.args.first (b.image_of c.args.machine.now) (events_on b c.args.machine.now schedule.lines))

pub returns-in_err-write_steps-clause-follows : goal.returns-in_err-write_steps-clause-follows
returns-in_err-write_steps-clause-follows g c start keeps =
    let b = g.M.Machine.behaviour in
    let schedule = c.args.schedule.now in
    let drawing = c.in-Ok-draw.drawing in
    let drawn = c.in-Ok-draw.ensures in
    let steps : step_lines drawing.head drawing.first c.in-Ok.image (events_in drawing.rows.items)
    ≡ step_lines (head_of schedule) c.args.first (b.image_of c.args.machine.now) (events_on b c.args.machine.now schedule.lines) =
    ap (λ (head : Head). step_lines head drawing.first c.in-Ok.image (events_in drawing.rows.items)) drawn.sizes.0
    ∙ ap (λ (first : LifelinePhase). step_lines (head_of schedule) first c.in-Ok.image (events_in drawing.rows.items)) drawn.sizes.1
    ∙ ap (λ (image : Image). step_lines (head_of schedule) c.args.first image (events_in drawing.rows.items)) c.in-Ok.ensures.ok
    ∙ ap (λ (events : List DiagramEvent). step_lines (head_of schedule) c.args.first (b.image_of c.args.machine.now) events) drawn.events in
    let t = g.W.Sink.tape c.args.w.now in
    let u = g.W.Sink.tape c.write_steps.new.w in
    let fault = c.in_err-write_steps.field-0.0 in
    let p = err_from_is_err_and c.from_residual.result c.from_residual.ensures.1 in
    rw (p.1, p.2)
    (lines_fail t u start b.image_of (run_on b 2 c.args.machine.now schedule.lines) _ fault
    (subst (λ (text : List ℕ). WritesText {A = Unit {0}} t u text (Err fault)) steps c.in_err-write_steps.ensures))

pub returns-clause-follows : goal.returns-clause-follows
returns-clause-follows g c start keeps =
    let b = g.M.Machine.behaviour in
    let schedule = c.args.schedule.now in
    let drawing = c.in-Ok-draw.drawing in
    let drawn = c.in-Ok-draw.ensures in
    let steps : step_lines drawing.head drawing.first c.in-Ok.image (events_in drawing.rows.items)
    ≡ step_lines (head_of schedule) c.args.first (b.image_of c.args.machine.now) (events_on b c.args.machine.now schedule.lines) =
    ap (λ (head : Head). step_lines head drawing.first c.in-Ok.image (events_in drawing.rows.items)) drawn.sizes.0
    ∙ ap (λ (first : LifelinePhase). step_lines (head_of schedule) first c.in-Ok.image (events_in drawing.rows.items)) drawn.sizes.1
    ∙ ap (λ (image : Image). step_lines (head_of schedule) c.args.first image (events_in drawing.rows.items)) c.in-Ok.ensures.ok
    ∙ ap (λ (events : List DiagramEvent). step_lines (head_of schedule) c.args.first (b.image_of c.args.machine.now) events) drawn.events in
    let t = g.W.Sink.tape c.args.w.now in
    let u = g.W.Sink.tape c.write_steps.new.w in
    let v = g.W.Sink.tape c.write_end.new.w in
    lines_end t u v start b.image_of (run_on b 2 c.args.machine.now schedule.lines) c.draw.new.machine _ drawing.end c.write_end.result
    (subst (λ (text : List ℕ). Writes t u text) steps c.in_ok-write_steps.ensures) c.write_end.ensures (drawn.end start keeps) drawn.left
