use Rattle.std.proofs.Common.{◌≡◌, drop}
use Rattle.judge.proofs.Common.{first_fault}
use Rattle.judge.proofs.faults.first_fault.Given as goal

abbrev pub invariant-loop-need : goal.invariant-loop-need
invariant-loop-need l = first_fault l.needs ≡ first_fault (drop l.need-index l.needs)
