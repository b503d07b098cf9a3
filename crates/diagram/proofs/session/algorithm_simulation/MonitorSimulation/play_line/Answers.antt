use Rattle.std.proofs.Common.{◌++◌, ℕ, List, length, refl, sym, ap, ◌∙◌}
use Rattle.diagram.proofs.AlgorithmSessions.{accepted_line, refused_by, refused_line, same_count, went_back}
use Rattle.algorithms.specs.Worlds.{AlgorithmWorldState}
use Rattle.diagram.specs.AlgorithmSimulations.{kept_lines}
use Rattle.diagram.specs.declared.algorithm.event_list.MonitorEvent.{MonitorEvent}
use Rattle.diagram.proofs.session.algorithm_simulation.MonitorSimulation.play_line.Goals as goal

pub returns-in_ok-put_events-in-Ok : goal.returns-in_ok-put_events-in-Ok
returns-in_ok-put_events-in-Ok c =
    let left = c.play_line.new.machine in
    let of = c.algorithm.ensures ∙ ap (λ (w : AlgorithmWorldState). w.algorithm) c.world.ensures in
    let wrote =
    c.in_ok-put_events-in-Ok.ensures ∙ ap (λ (events : List MonitorEvent). c.args.out.now.items ++ kept_lines c.algorithm.result.now events) c.as_slice.ensures.value in
    let is =
    accepted_line c.new-list.result c.play_line.new.listener c.args.self.now left c.args.line.now c.algorithm.result.now c.args.out.now.items c.put_events.new.out.items c.in-Ok.ensures c.new-list.ensures of wrote in
    record { refused = is.0; text = is.1; after = is.2; same = tt }

pub go_back-requires : goal.go_back-requires
go_back-requires c =
    let m = c.args.self.now in
    let is = refused_by c.new-list.result c.play_line.new.listener m c.play_line.new.machine c.args.line.now c.in-Err.stop c.in_ok-number-in-Err.number c.in-Err.ensures c.new-list.ensures c.in_ok-number-in-Err.ensures in
    ap length c.in_ok-checkpoint.ensures.copy.1 ∙ c.in_ok-checkpoint.ensures.count ∙ sym (same_count c.play_line.new.machine m is.begins)

pub returns-in_ok-number-in-Err : goal.returns-in_ok-number-in-Err
returns-in_ok-number-in-Err c =
    let m = c.args.self.now in
    let left = c.play_line.new.machine in
    let number = c.in_ok-number-in-Err.number in
    let copy = c.in_ok-checkpoint.ensures.copy in
    let is = refused_by c.new-list.result c.play_line.new.listener m left c.args.line.now c.in-Err.stop number c.in-Err.ensures c.new-list.ensures c.in_ok-number-in-Err.ensures in
    let back = went_back m left c.go_back.new.self _ _ _ _ c.go_back.ensures.world c.go_back.ensures.phases c.go_back.ensures.steps copy.0 copy.1 copy.2 copy.3 is.begins in
    let said = refused_line m left c.go_back.new.self c.args.line.now number c.args.out.now.items is back in
    record { refused = said.0; text = said.1; after = said.2; same = (refl {A = List ℕ}, back) }
