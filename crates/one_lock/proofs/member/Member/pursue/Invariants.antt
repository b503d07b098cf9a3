use Rattle.std.proofs.Common.{◌≡◌, IsNone}
use Rattle.one_lock.proofs.Common.{KeepsProcess, AskedEach, CountsOn}
use Rattle.one_lock.proofs.Answered.{HasGone}
use Rattle.one_lock.specs.Answers.{asked_call}
use Rattle.one_lock.proofs.member.Member.pursue.Given as goal

abbrev pub invariant-loop : goal.invariant-loop
invariant-loop g l =
    KeepsProcess l.initial.self l.self × CountsOn l.initial.self l.self × AskedEach l.initial.self l.self (g.P.CrashPlan.askings l.initial.plan) (g.P.CrashPlan.askings l.plan)
    × ((g.P.CrashPlan.askings l.plan).fallen ≡ (g.P.CrashPlan.askings l.initial.plan).fallen) × (IsNone l.fn.turns → IsNone l.left)
    × (l.self.standing ≡ l.initial.self.standing)
    × HasGone (asked_call g.S.Sizes.named l.initial.self.process l.initial.self.standing l.fn.call l.fn.turns) l.left l.initial.self.trail l.self.trail l.opening
