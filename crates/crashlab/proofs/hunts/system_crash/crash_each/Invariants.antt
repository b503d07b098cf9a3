use Rattle.std.proofs.Common.{◌≡◌, ◌-◌, ◌≤◌}
use Rattle.judge.specs.Stands.{Keeps}
use Rattle.judge.specs.Table.{State}
use Rattle.crashlab.specs.hunts.Hunts.{after_crashes}
use Rattle.crashlab.proofs.space.SystemCrashes.{HasHeard}
use Rattle.crashlab.proofs.hunts.system_crash.crash_each.Given as goal

-- the crashes so far, with those that are left
abbrev pub invariant-loop-p : goal.invariant-loop-p
invariant-loop-p l = record {
  layout : l.world.layout ≡ l.fn.world.layout;
  crashed : after_crashes l.fn.world 0 l.fn.world.layout.procs ≡ after_crashes l.world l.p (l.fn.world.layout.procs - l.p);
  heard : (s : State) → Keeps l.fn.judge s → l.fn.world.layout.procs ≤ s.procs → HasHeard s l.fn.world.layout.procs l.p l.judge;
}
