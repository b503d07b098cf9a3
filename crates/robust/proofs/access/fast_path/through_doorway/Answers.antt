use Rattle.std.proofs.Common.{◌≡◌, ◌+◌, ◌≤◌, [], None, refl, sym, ap, arith}
use Rattle.robust.proofs.AccessCommon.{Wait, Door, above, Shutting, others, above_past, none_of, Way}
use Rattle.rmecore.specs.declared.core_call.CoreCall.TheVariants.{Lock}
use Rattle.robust.proofs.FreeSteps.{way_then, way_to}
use Rattle.robust.proofs.Straight.{way_begun, above_short}
use Rattle.robust.proofs.access.fast_path.through_doorway.Goals as goal

pub returns-then-greatest-limit-clause-way : goal.returns-then-greatest-limit-clause-way
returns-then-greatest-limit-clause-way c =
    let x = c.args.port.now in
    let p = c.peek_others-greatest in
    let w : Way x (3 + 1 + p.result.1) p.new.port (Door [] p.result.0) = way_then (way_then (c.reread_own.ensures.rests (none_of c.reread_own.result c.in_default.not-Some)) c.open.ensures.way) p.ensures.way in
    let e : 3 + 1 + p.result.1 ≡ p.result.1 + 4 = omega arith in
    let past : x.setup.layout.procs ≤ c.procs-procs.result = (let is = c.procs-procs.ensures.is in omega arith) in
    way_to x p.new.port (3 + 1 + p.result.1) (p.result.1 + 4) (Door [] p.result.0) (Door (above x.setup.layout.procs x.by c.procs-procs.result) p.result.0) e (ap (λ js. Door js p.result.0) (sym (above_past x.setup.layout.procs x.by c.procs-procs.result past))) w

pub returns-clause-way : goal.returns-clause-way
returns-clause-way c =
    let x = c.args.port.now in
    let p = c.peek_others-greatest in
    let u = c.take.new.port in
    let w : Way x (3 + 1 + p.result.1 + 1) u (Shutting Lock (p.result.0 + 1)) = way_then (way_then (way_then (c.reread_own.ensures.rests (none_of c.reread_own.result c.in_default.not-Some)) c.open.ensures.way) p.ensures.way) c.take.ensures.way in
    let e : 3 + 1 + p.result.1 + 1 + 1 ≡ p.result.1 + 6 = omega arith in
    way_to x c.shut.new.port (3 + 1 + p.result.1 + 1 + 1) (p.result.1 + 6) (Wait (p.result.0 + 1) (others u.setup.layout.procs u.by) None) (Wait (p.result.0 + 1) (above x.setup.layout.procs x.by 0) None) e (λ i. Wait (p.result.0 + 1) (above (w.same.0 i).layout.procs (w.same.1 i) 0) None) (way_then w c.shut.ensures.way)

pub returns-clause-begun : goal.returns-clause-begun
returns-clause-begun c =
    let x = c.args.port.now in
    let w = returns-clause-way c in
    let p = c.peek_others-greatest in
    let short = above_short x.setup.layout.procs x.by 0 in
    let most = c.procs-procs.ensures.seat_view.size.layout.few in
    way_begun x c.shut.new.port (p.result.1 + 6) (Wait (p.result.0 + 1) (above x.setup.layout.procs x.by 0) None) w refl refl tt (omega arith)
