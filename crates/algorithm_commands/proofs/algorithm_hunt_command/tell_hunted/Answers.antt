use Rattle.std.proofs.Common.{inl, inr}
use Rattle.algorithm_commands.specs.AlgorithmHunts.{answer_for}
use Rattle.algorithm_commands.proofs.AlgorithmHunts.{not_hunted, nothing_found, something_found}
use Rattle.algorithm_commands.proofs.algorithm_hunt_command.tell_hunted.Goals as goal

pub returns-in-Ok-Some-clause-ends : goal.returns-in-Ok-Some-clause-ends
returns-in-Ok-Some-clause-ends g c =
    let hunted = c.schedule_hunted-found.ensures in
    let is = something_found c.args.args.now c.args.algorithm (answer_for c.args.algorithm c.args.args.now) c.in-Ok-Some.schedule
    (rw c.in-Ok-Some.field-0-is at (rw c.in-Ok-Some.is at hunted.written)) (rw c.in-Ok-Some.is at hunted.found) in
    inl (record {
      schedule = is.schedule;
      found = is.found;
      exact = is.exact;
      written = c.in-Ok-Some.schedule;
      of_it = is.of_it;
      prints = c.tell_schedule.ensures.prints;
    })

pub returns-in-Ok-None-clause-ends : goal.returns-in-Ok-None-clause-ends
returns-in-Ok-None-clause-ends g c =
    let hunted = c.schedule_hunted-found.ensures in
    inr (inl (record {
      sizes = rw c.in-Ok-None.is at hunted.accepted;
      none = nothing_found c.args.args.now.shrink c.args.algorithm (answer_for c.args.algorithm c.args.args.now) (rw c.in-Ok-None.field-0-is at (rw c.in-Ok-None.is at hunted.written));
      prints = c.tell_nothing.ensures.prints;
    }))

pub returns-in-Err-clause-ends : goal.returns-in-Err-clause-ends
returns-in-Err-clause-ends g c =
    let hunted = c.schedule_hunted-found.ensures in
    rw c.hunt_fault.ensures (
    not_hunted c.args.algorithm c.args.args.now (g.W.Sink.tape c.args.w.now) c.schedule_hunted-found.result c.in-Err.fault
    c.in-Err.is hunted.rounds hunted.steps hunted.refused
    )
