use Rattle.std.proofs.Common.{◌≡◌, ap, ◌∙◌}
use Rattle.robust.proofs.AccessCommon.{SeatView, glance_step, looks_of, stays_seat_view, alone_after, has_crashed}
use Rattle.table_runs.specs.declared.entry.SeatKnowledge.{SeatKnowledge}
use Rattle.robust.specs.PendingEvents.{started_call}
use Rattle.robust.proofs.access.port.Port.glance.Goals as goal

pub invariant_of-self : goal.invariant_of-self
invariant_of-self c =
    let w = c.self.inside in
    let d = c.glance.ensures in
    let l : SeatKnowledge = c.glance.new.seat.me.0 in
    let x : SeatView = record { table = w.seat.table_id; setup = w.setup; by = w.by; fallen = has_crashed w.pending_events; start = started_call w.pending_events; seen = w.seat.me.0.view.seen } in
    let y : SeatView = record { table = c.glance.new.seat.table_id; setup = w.setup; by = w.by; fallen = has_crashed w.pending_events; start = started_call w.pending_events; seen = l.view.seen } in
    let z : SeatView = record { table = x.table; setup = x.setup; by = x.by; fallen = x.fallen; start = x.start; seen = l.view.seen } in
    let now : y ≡ z = λ i. record { table = d.same.0 i; setup = w.setup; by = w.by; fallen = has_crashed w.pending_events; start = started_call w.pending_events; seen = l.view.seen } in
    let e = ap (λ m. m.0) c.self.invariant.seat in
    record {
      table = d.same.0 ∙ c.self.invariant.table;
      seat = λ i. (alone_after x w.seat.me.0 (glance_step c.args.word) c.glance.result l e d.did i, (d.same.2 ∙ ap (λ m. m.1) c.self.invariant.seat) i);
      seat_view = stays_seat_view x y c.args.word c.glance.result (looks_of x w.seat.me.0 c.args.word c.glance.result l y e d.did now) c.self.invariant.seat_view;
    }
