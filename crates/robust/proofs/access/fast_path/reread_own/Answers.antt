use Rattle.std.proofs.Common.{refl}
use Rattle.robust.proofs.AccessCommon.{Opening, Unmarking, lock_restart}
use Rattle.rmecore.specs.declared.core_call.CoreCall.TheVariants.{Lock}
use Rattle.robust.proofs.FreeSteps.{way_then, way_to}
use Rattle.robust.proofs.Straight.{relocked_none, relocked_some}
use Rattle.robust.proofs.access.fast_path.reread_own.Goals as goal

pub returns-then-number-ne0-clause-stands : goal.returns-then-number-ne0-clause-stands
returns-then-number-ne0-clause-stands c = way_then c.read_choosing-choosing.ensures.way c.read_number-number.ensures.way

pub returns-then-inside-ne0-clause-stands : goal.returns-then-inside-ne0-clause-stands
returns-then-inside-ne0-clause-stands c =
    let y = c.read_number-number.new.port in
    let r = c.read_inside-inside in
    way_to c.args.port.now r.new.port 3 3 (lock_restart y.setup.layout.procs y.by 0 0 r.result) (Unmarking Lock) refl (relocked_some y.setup.layout.procs y.by r.result c.if-inside-ne0.true) (way_then (way_then c.read_choosing-choosing.ensures.way c.read_number-number.ensures.way) r.ensures.way)

pub returns-clause-rests : goal.returns-clause-rests
returns-clause-rests c = λ none.
    let y = c.read_number-number.new.port in
    let r = c.read_inside-inside in
    way_to c.args.port.now r.new.port 3 3 (lock_restart y.setup.layout.procs y.by 0 0 r.result) Opening refl (relocked_none y.setup.layout.procs y.by r.result c.if-inside-ne0.false) (way_then (way_then c.read_choosing-choosing.ensures.way c.read_number-number.ensures.way) r.ensures.way)
