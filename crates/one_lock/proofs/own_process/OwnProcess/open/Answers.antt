use Rattle.std.proofs.Common.{rules, ◌≡◌, subst, sym}
use Rattle.rmeworld.specs.MachineState.{MachineState, machine_after_start}
use Rattle.rmeworld.specs.WorldState.{HasConfiguration}
use Rattle.one_lock.specs.Trails.{crashed_if}
use Rattle.one_lock.proofs.OwnSteps.{keeps_crashed, keeps_then, kept_by_start}
use Rattle.one_lock.proofs.own_process.OwnProcess.open.Goals as goal

-- src/own_process.rt:69:5
pub returns-else-is_err-clause-sizes : goal.returns-else-is_err-clause-sizes
returns-else-is_err-clause-sizes c =
    let begun : c.start.new.self ≡ machine_after_start c.crash_before.new.self.machine c.in-Some.call = search (rules, c.start.ensures.exact, c.if-is_err.ensures.negation) in
    let lost : c.crash_before.new.self.machine ≡ crashed_if c.args.opening.crash c.args.self.now.machine = search (rules, c.crash_before.ensures) in
    let s = c.args.self.now.machine in
    let t = c.crash_before.new.self.machine in
    keeps_then s t c.start.new.self
    (subst (HasConfiguration s.layout s.limit s.index) (sym lost) (keeps_crashed c.args.opening.crash s))
    (kept_by_start t c.start.new.self c.in-Some.call begun)
