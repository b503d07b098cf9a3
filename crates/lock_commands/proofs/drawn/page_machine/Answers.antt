use Rattle.std.proofs.Common.{◌≡◌, ◌∙◌, List, ℕ, ap, subst, inl}
use Rattle.diagram.specs.Pages.{page_text}
use Rattle.diagram.specs.declared.phase.LifelinePhase.{LifelinePhase}
use Rattle.rmeworld.specs.declared.image.Image.{Image}
use Rattle.schedule.specs.declared.texts.head.Head.{Head}
use Rattle.schedule.specs.Schedules.{head_of}
use Rattle.lock_commands.specs.Tellings.{IsDrawingWritten}
use Rattle.lock_commands.proofs.drawn.page_machine.Goals as goal

pub returns-clause-draws : goal.returns-clause-draws
returns-clause-draws g c start keeps =
    let b = g.M.Machine.behaviour in
    let schedule = c.args.schedule.now in
    let drawing = c.in_ok-drawing.drawing in
    let rows = drawing.rows.items in
    let before = c.in_ok-before.before in
    let after = c.in_ok-after.after in
    let run = c.in_ok-drawing.ensures in
    let text : page_text drawing.head drawing.first before rows after drawing.end
    ≡ page_text (head_of schedule) c.args.first (b.image_of c.args.machine.now) rows after drawing.end =
    ap (λ (head : Head). page_text head drawing.first before rows after drawing.end) run.sizes.0
    ∙ ap (λ (first : LifelinePhase). page_text (head_of schedule) first before rows after drawing.end) run.sizes.1
    ∙ ap (λ (image : Image). page_text (head_of schedule) c.args.first image rows after drawing.end) c.in_ok-before.ensures.image in
    inl
    (record {
      rows = rows;
      last = drawing.end;
      after = after;
      shows = run.events;
      ends_as = run.end start keeps;
      left = λ judged. c.in_ok-after.ensures.image ∙ ap (λ s. b.image_of s) (run.left judged);
      written =
          subst
          (λ (t : List ℕ). IsDrawingWritten (g.W.Sink.tape c.args.w.now)
          (g.W.Sink.tape c.write_paged.new.w) t drawing.end c.write_paged.result) text c.write_paged.ensures.written;
    })
