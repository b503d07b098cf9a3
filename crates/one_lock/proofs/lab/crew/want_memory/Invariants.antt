use Rattle.std.proofs.Common.{◌≢◌, map, take, All}
use Rattle.one_lock.proofs.LabCommon.{OutOfMemory, Fault}
use Rattle.one_lock.proofs.lab.crew.want_memory.Given as goal

abbrev pub invariant-loop-done : goal.invariant-loop-done
invariant-loop-done g l = All (λ e. e ≢ Fault OutOfMemory) (take l.done-index (map (λ d. d.ending) l.ended))
