use Rattle.std.proofs.Common.{List, ap, subst, ◌∙◌, rules}
use Rattle.diagram.proofs.Common.{Line, deeds_of, run_on, verdict_on, DiagramRow, reports_in, events_on, events_in, CollectsRun}
use Rattle.diagram.proofs.RunEvents.{run_tells}
use Rattle.diagram.proofs.Drawn.{drawn}
use Rattle.diagram.proofs.drawing.draw.Goals as goal

pub returns : goal.returns
returns g c =
    let b = g.M.Machine.behaviour in
    let m = c.args.machine.now in
    let lines = c.args.schedule.now.lines in
    let now = c.take_lines-played.new.rows.rows.items in
    let r = c.take_lines-played.result in
    let run = run_on b 2 m lines in
    let s = c.take_lines-played.new.machine in
    let played = subst (λ (before : List DiagramRow). CollectsRun before now (events_on b m lines) run s r) c.new-rows.ensures.items
    (subst (λ (ls : List Line). CollectsRun c.new-rows.result.items now (events_on b m ls) (run_on b 2 m ls) s r) c.lines.ensures c.take_lines-played.ensures) in
    let all = drawn now (events_on b m lines) run s c.verdict_on-verdict.result r c.in_ok-end.end played c.in_ok-end.ensures.ends in
    let reports = ap reports_in all.shows ∙ run_tells b m lines in
    record {
      events = all.shows;
      rows = all.rows;
      reports = reports;
      end = λ start keeps. all.ends_so start (c.verdict_on-verdict.ensures start keeps ∙ ap (λ rows. verdict_on start (deeds_of (reports_in (events_in rows)))) c.deref.ensures.value ∙ ap (λ says. verdict_on start (deeds_of says)) reports);
      left = λ judged. all.stands;
      stands = all.stands;
      sizes = search rules;
      memory = tt;
    }
