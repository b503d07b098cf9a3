use Rattle.redomail.proofs.Passes.{may_leave}
use Rattle.redomail.proofs.laws.may_leave.Goals as goal

pub returns : goal.returns
returns c = may_leave
