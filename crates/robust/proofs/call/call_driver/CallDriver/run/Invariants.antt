use Rattle.std.proofs.Common.{◌≡◌, ◌-◌, List, length, false}
use Rattle.robust.proofs.CallCommon.{TakenStep, Going, Lasts, process_state_now, NeverCrashes, IsUnder}
use Rattle.rmeworld.specs.Refused.{is_idle}
use Rattle.robust.proofs.call.call_driver.CallDriver.run.Given as goal

abbrev pub invariant-loop-turn : goal.invariant-loop-turn
invariant-loop-turn g l = record {
  so_far : ((mine : List TakenStep) × Going l.fn.self mine l.self × NeverCrashes (length mine) (g.C.CrashPlan.askings l.fn.plan) (g.C.CrashPlan.askings l.plan));
  under : IsUnder l.fn.call (process_state_now l.self.seat_view);
  busy : is_idle (process_state_now l.self.seat_view) ≡ false;
  lasts : Lasts l.self.seat_view.setup.layout.procs (256 - l.turn) (process_state_now l.self.seat_view);
}
