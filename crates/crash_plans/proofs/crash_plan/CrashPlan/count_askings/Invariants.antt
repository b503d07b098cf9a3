use Rattle.std.proofs.Common.{◌≡◌, true}
use Rattle.crash_plans.specs.Plans.{many_more}
use Rattle.crash_plans.proofs.crash_plan.CrashPlan.count_askings.Given as goal

abbrev pub invariant-loop : goal.invariant-loop
invariant-loop g l = record {
  asked : (g.Self.CrashPlan.askings l.self).asked ≡ many_more l.counter (g.Self.CrashPlan.askings l.fn.self).asked;
  fallen : g.Self.CrashPlan.never_crashes l.fn.self ≡ true → (g.Self.CrashPlan.askings l.self).fallen ≡ (g.Self.CrashPlan.askings l.fn.self).fallen;
  never_crashes : g.Self.CrashPlan.never_crashes l.fn.self ≡ true → g.Self.CrashPlan.never_crashes l.self ≡ true;
}
