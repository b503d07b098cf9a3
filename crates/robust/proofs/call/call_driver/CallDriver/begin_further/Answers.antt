use Rattle.std.proofs.Common.{◌≡◌, Option, None, IsSome, refl, sym, ◌∙◌, subst}
use Rattle.robust.proofs.CallCommon.{ProcessState, process_state_now, SeatView, Seated, IsRunBy, Begun}
use Rattle.table_runs.proofs.Begun.{begun_now}
use Rattle.table_runs.proofs.Running.{run_by_start, start_same, keeps_start}
use Rattle.robust.proofs.call.call_driver.CallDriver.begin_further.Goals as goal

pub invariant_of-self-2 : goal.invariant_of-self-2
invariant_of-self-2 c =
    let w = c.self.inside in
    let none = subst (λ (x : Seated). x.seat_view.start ≡ None) (sym c.self.view_is) c.requires in
    let k = keeps_start w.process c.start.new.self c.args.call.now c.in_ok-start.ensures.exact in
    subst (λ (y : SeatView). IsRunBy y c.start.new.self) (sym c.begin.ensures) (run_by_start w.port w.process c.start.new.self c.args.call.now none c.self.invariant k.0 k.1 k.2 c.in_ok-start.ensures.process_state)

pub returns-clause-begun : goal.returns-clause-begun
returns-clause-begun c =
    let w = c.self.inside in
    let none = subst (λ (x : Seated). x.seat_view.start ≡ None) (sym c.self.view_is) c.requires in
    let some = subst (λ (o : Option ProcessState). IsSome o) (sym c.in_ok-start.ensures.process_state ∙ start_same w.port w.process c.args.call.now c.self.invariant) refl in
    subst (λ (x : Seated). Begun c.args.call.now x.seat_view.setup.layout.procs (process_state_now c.begin.new.self)) c.self.view_is (begun_now w.port c.begin.new.self c.args.call.now none c.begin.ensures c.by-by.ensures.seat_view some)
