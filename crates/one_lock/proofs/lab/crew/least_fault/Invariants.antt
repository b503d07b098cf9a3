use Rattle.std.proofs.Common.{map, take}
use Rattle.one_lock.proofs.LabCommon.{HaveAllSent}
use Rattle.one_lock.proofs.lab.crew.least_fault.Given as goal

abbrev pub invariant-loop-p : goal.invariant-loop-p
invariant-loop-p g l = HaveAllSent (take l.p (map (λ d. d.ending) l.ended))
