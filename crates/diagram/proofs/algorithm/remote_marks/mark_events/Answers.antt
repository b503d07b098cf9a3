use Rattle.std.proofs.Common.{◌≡◌, ◌+◌, ◌∷◌, ◌++◌, [], List, drop, take, length, arith, sym, ap, subst, ◌∙◌, append-nil}
use Rattle.algorithms.specs.declared.algorithm.Algorithm.{Algorithm}
use Rattle.algorithms.specs.declared.remote_references.memory_event.MemoryEvent.{MemoryEvent}
use Rattle.algorithms.specs.remote_references.CopyRows.{AreCopiesAfter}
use Rattle.diagram.proofs.Common.{drop_more, length-drop, nil_from_length, take_more}
use Rattle.diagram.proofs.AlgorithmMarks.{IsMarkedSoFar, marked_more, memory_more}
use Rattle.diagram.specs.AlgorithmMarks.{all_memory_kept, mark_kept, marks_kept, memory_kept}
use Rattle.diagram.specs.declared.algorithm.event_list.MonitorEvent.{MonitorEvent}
use Rattle.diagram.specs.declared.algorithm.remote_marks.MarkedEvent.{MarkedEvent}
use Rattle.diagram.proofs.algorithm.remote_marks.mark_events.Goals as goal

pub loop-event-init : goal.loop-event-init
loop-event-init c =
    let w = c.args.world.now in (
      ap (λ (marked : List MarkedEvent). marked ++ marks_kept w [] c.args.events.now) c.new-marked.ensures.items,
      subst (λ n. AreCopiesAfter n [] c.in_ok-copies.copies) (ap length c.as_slice.ensures.value ∙ ap (λ (a : Algorithm). length a.declarations.items) c.algorithm.ensures) c.in_ok-copies.ensures,
    )

pub loop-event-preserved : goal.loop-event-preserved
loop-event-preserved c =
    let w = c.args.world.now in
    let i = c.loop-event.event-index in
    let events = c.args.events.now in
    let seen : List MemoryEvent = all_memory_kept (take i events) in (
      marked_more w events i _ c.loop-event.marked.items c.push.new.self.items c.mark_event.result c.loop-event-test.true (c.mark_event.ensures.marked seen c.loop-event.invariant.1)
          c.in_ok-push.ensures.items c.loop-event.invariant.0,
      subst (λ (run : List MemoryEvent). AreCopiesAfter (length w.algorithm.declarations.items) run c.mark_event.new.copies) (sym (memory_more events i _ c.loop-event-test.true))
          (c.mark_event.ensures.copies (length w.algorithm.declarations.items) seen c.loop-event.invariant.1),
    )

pub returns : goal.returns
returns c =
    let i = c.loop-event.event-index in
    let events = c.args.events.now in
    let none : drop i events ≡ [] = nil_from_length (drop i events) (omega (arith, length-drop i events, c.loop-event-test.false)) in
    sym (append-nil c.loop-event.marked.items)
    ∙ ap (λ (es : List MonitorEvent). c.loop-event.marked.items ++ marks_kept c.args.world.now (all_memory_kept (take i events)) es) (sym none) ∙ c.loop-event.invariant.0
