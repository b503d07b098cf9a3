use Rattle.std.proofs.Common.{rules, ◌≡◌, sym}
use Rattle.rmeworld.specs.declared.call.Call.TheVariants.{Append}
use Rattle.one_lock.proofs.LabCommon.{Crashed}
use Rattle.one_lock.proofs.Endings.{ended_by}
use Rattle.one_lock.proofs.lab.crew.send.Goals as goal

pub returns-then-not-is_crash-clause-ends : goal.returns-then-not-is_crash-clause-ends
returns-then-not-is_crash-clause-ends g c =
    let ready = c.loop.invariant.ready in
    let e = c.in-Err.ensures in
    let crash : c.in-Err.fault ≡ Crashed → ⊥ = search rules in
    ended_by g.S.Sizes.named c.loop.member c.append.new.self c.append.new.self.trail (Append c.args.seq c.args.value) c.in-Err.fault e.goes (e.faults ready.0 (sym ready.1)) crash e.at_lock (e.whole ready.0 (sym ready.1))
