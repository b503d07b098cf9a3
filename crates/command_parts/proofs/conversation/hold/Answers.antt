use Rattle.std.proofs.Common.{refl, inl}
use Rattle.std.proofs.lemmas.Result.{err_from_is_err_and}
use Rattle.command_parts.specs.Devices.{devices}
use Rattle.command_parts.proofs.Beginning.{broken_off}
use Rattle.command_parts.proofs.conversation.hold.Goals as goal

pub returns-clause-ends : goal.returns-clause-ends
returns-clause-ends g c = (g.W.Sink.tape c.write_state.new.w, refl, c.in_ok-write_state.ensures.written, c.in_ok-converse.ensures.holds)

-- the state at its begin is not written
pub returns-in_err-write_state-clause-ends : goal.returns-in_err-write_state-clause-ends
returns-in_err-write_state-clause-ends g c =
    let p = err_from_is_err_and c.from_residual.result c.from_residual.ensures.1 in
    rw (p.1, p.2) (inl (refl, refl, c.in_err-write_state.ensures.failed))

-- it breaks off
pub returns-in_err-converse-clause-ends : goal.returns-in_err-converse-clause-ends
returns-in_err-converse-clause-ends g c =
    let p = err_from_is_err_and c.from_residual-in_err-converse.result c.from_residual-in_err-converse.ensures.1 in
    rw (p.1, p.2) (
    broken_off g.V.Simulation.semantics c.args.session.now c.args.buffer.now.items
    (devices (g.S.Source.reading c.args.r.now) (g.F.Folder.used c.args.folder.now) (g.W.Sink.tape c.args.w.now))
    (devices (g.S.Source.reading c.converse.new.r) (g.F.Folder.used c.converse.new.folder) (g.W.Sink.tape c.converse.new.w))
    (g.W.Sink.tape c.write_state.new.w) _ c.in_ok-write_state.ensures.written c.in_err-converse.ensures.holds
    )
