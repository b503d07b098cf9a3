use Rattle.std.proofs.Common.{◌≡◌, List, Err, ap, subst, ◌∙◌, ℕ}
use Rattle.diagram.proofs.Common.{err_from_is_err_and, Writes, run_on, LifelinePhase, WritesText, DiagramEvent, events_on, marked_run_text, events_in, layout_of}
use Rattle.schedule.specs.declared.texts.head.Head.{Head}
use Rattle.schedule.specs.Schedules.{head_of}
use Rattle.diagram.proofs.Ended.{none_followed, steps_end, steps_fail}
use Rattle.diagram.proofs.NotEmpty.{followed_some}
use Rattle.diagram.proofs.step_by_step.follow.Goals as goal

pub returns-in_default-clause-follows : goal.returns-in_default-clause-follows
returns-in_default-clause-follows g c start keeps =
    let b = g.M.Machine.behaviour in
    let schedule = c.args.schedule.now in
    let events = events_on b c.args.machine.now schedule.lines in
    let layout = layout_of (head_of schedule) in
    none_followed (g.W.Sink.tape c.args.w.now) start b.image_of (run_on b 2 c.args.machine.now schedule.lines)
    (marked_run_text layout c.args.first events) (followed_some layout c.args.first events c.in_default.ensures.memory)

pub returns-in_err-write_steps-clause-follows : goal.returns-in_err-write_steps-clause-follows
returns-in_err-write_steps-clause-follows g c start keeps =
    let b = g.M.Machine.behaviour in
    let schedule = c.args.schedule.now in
    let drawing = c.in-Ok.drawing in
    let reports = c.in-Ok.ensures in
    let steps : marked_run_text (layout_of drawing.head) drawing.first (events_in drawing.rows.items)
    ≡ marked_run_text (layout_of (head_of schedule)) c.args.first (events_on b c.args.machine.now schedule.lines) =
    ap (λ (head : Head). marked_run_text (layout_of head) drawing.first (events_in drawing.rows.items)) reports.sizes.0
    ∙ ap (λ (first : LifelinePhase). marked_run_text (layout_of (head_of schedule)) first (events_in drawing.rows.items)) reports.sizes.1
    ∙ ap (λ (events : List DiagramEvent). marked_run_text (layout_of (head_of schedule)) c.args.first events) reports.events in
    let t = g.W.Sink.tape c.args.w.now in
    let u = g.W.Sink.tape c.write_steps.new.w in
    let fault = c.in_err-write_steps.field-0.0 in
    let p = err_from_is_err_and c.from_residual.result c.from_residual.ensures.1 in
    rw (p.1, p.2)
    (steps_fail t u start g.M.Machine.behaviour.image_of (run_on b 2 c.args.machine.now schedule.lines) _ fault
    (subst (λ (text : List ℕ). WritesText {A = Unit {0}} t u text (Err fault)) steps c.in_err-write_steps.ensures))

pub returns-clause-follows : goal.returns-clause-follows
returns-clause-follows g c start keeps =
    let b = g.M.Machine.behaviour in
    let schedule = c.args.schedule.now in
    let drawing = c.in-Ok.drawing in
    let reports = c.in-Ok.ensures in
    let steps : marked_run_text (layout_of drawing.head) drawing.first (events_in drawing.rows.items)
    ≡ marked_run_text (layout_of (head_of schedule)) c.args.first (events_on b c.args.machine.now schedule.lines) =
    ap (λ (head : Head). marked_run_text (layout_of head) drawing.first (events_in drawing.rows.items)) reports.sizes.0
    ∙ ap (λ (first : LifelinePhase). marked_run_text (layout_of (head_of schedule)) first (events_in drawing.rows.items)) reports.sizes.1
    ∙ ap (λ (events : List DiagramEvent). marked_run_text (layout_of (head_of schedule)) c.args.first events) reports.events in
    let t = g.W.Sink.tape c.args.w.now in
    let u = g.W.Sink.tape c.write_steps.new.w in
    let v = g.W.Sink.tape c.write_end.new.w in
    steps_end t u v start g.M.Machine.behaviour.image_of (run_on b 2 c.args.machine.now schedule.lines) c.draw.new.machine _ drawing.end c.write_end.result
    (subst (λ (text : List ℕ). Writes t u text) steps c.in_ok-write_steps.ensures) c.write_end.ensures (reports.end start keeps) reports.left
