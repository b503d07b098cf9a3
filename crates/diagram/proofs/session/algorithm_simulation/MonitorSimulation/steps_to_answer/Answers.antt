use Rattle.std.proofs.Common.{length, sym, ap, ◌∙◌}
use Rattle.diagram.proofs.AlgorithmSessions.{same_count, steps_begin, went_back}
use Rattle.diagram.proofs.session.algorithm_simulation.MonitorSimulation.steps_to_answer.Goals as goal

pub go_back-requires : goal.go_back-requires
go_back-requires c =
    let m = c.args.self.now in
    ap length c.in_ok-checkpoint.ensures.copy.1 ∙ c.in_ok-checkpoint.ensures.count ∙ sym (same_count c.steps_to_answer.new.machine m (steps_begin m c.steps_to_answer.new.machine c.args.p 1000000 c.in_ok-steps.ensures.left))

pub returns-in-Some-clause-same : goal.returns-in-Some-clause-same
returns-in-Some-clause-same c =
    let m = c.args.self.now in
    let left = c.steps_to_answer.new.machine in
    let copy = c.in_ok-checkpoint.ensures.copy in
    went_back m left c.go_back.new.self _ _ _ _ c.go_back.ensures.world c.go_back.ensures.phases c.go_back.ensures.steps copy.0 copy.1 copy.2 copy.3 (steps_begin m left c.args.p 1000000 c.in_ok-steps.ensures.left)

pub returns-in-None-clause-same : goal.returns-in-None-clause-same
returns-in-None-clause-same c =
    let m = c.args.self.now in
    let left = c.steps_to_answer.new.machine in
    let copy = c.in_ok-checkpoint.ensures.copy in
    went_back m left c.go_back.new.self _ _ _ _ c.go_back.ensures.world c.go_back.ensures.phases c.go_back.ensures.steps copy.0 copy.1 copy.2 copy.3 (steps_begin m left c.args.p 1000000 c.in_ok-steps.ensures.left)
