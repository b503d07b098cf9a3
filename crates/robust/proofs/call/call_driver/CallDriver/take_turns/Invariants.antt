use Rattle.std.proofs.Common.{◌≡◌, ℕ, ◌+◌, List, length}
use Rattle.robust.proofs.CallCommon.{Lock, TakenStep, Turning, process_state_now, NeverCrashes, Begun}
use Rattle.robust.proofs.call.call_driver.CallDriver.take_turns.Given as goal

abbrev pub invariant-loop-answer : goal.invariant-loop-answer
invariant-loop-answer g l = record {
  so_far : ((mine : List TakenStep) × (k : ℕ) × (k + l.left ≡ l.turns) × Turning l.fn.self mine k l.self × NeverCrashes (length mine) (g.C.CrashPlan.askings l.fn.plan) (g.C.CrashPlan.askings l.plan));
  begun : Begun Lock l.self.seat_view.setup.layout.procs (process_state_now l.self.seat_view);
}

abbrev pub decreases-loop-answer : goal.decreases-loop-answer
decreases-loop-answer g l = l.left
