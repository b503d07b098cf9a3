use Rattle.std.proofs.Common.{◌∙◌, sym}
use Rattle.std.proofs.lemmas.Result.{err_from_is_err_and}
use Rattle.diagram.specs.Sessions.{reply_to, request_in}
use Rattle.command_parts.proofs.Holding.{nothing_begun, saving_begun}
use Rattle.command_parts.proofs.conversation.reply.Goals as goal

-- the line is not answered
pub returns-in_err-answer-clause-broken : goal.returns-in_err-answer-clause-broken
returns-in_err-answer-clause-broken g c =
    let p = err_from_is_err_and c.from_residual.result c.from_residual.ensures.1 in
    rw p.1 (
    nothing_begun g.V.Simulation.semantics (reply_to (request_in c.args.session.now c.args.line.now)) c.args.session.now c.args.line.now
    (g.F.Folder.used c.args.folder.now)
    )

-- what it saves is not said
pub returns-in_err-save-in-Saves-clause-broken : goal.returns-in_err-save-in-Saves-clause-broken
returns-in_err-save-in-Saves-clause-broken g c =
    let p = err_from_is_err_and c.from_residual-in_err-save-in-Saves.result c.from_residual-in_err-save-in-Saves.ensures.1 in
    rw p.1 (
    saving_begun g.V.Simulation.semantics (request_in c.args.session.now c.args.line.now) c.args.session.now c.answer.new.self c.args.line.now
    (g.F.Folder.used c.args.folder.now) (g.F.Folder.used c.save.new.folder)
    (sym c.in_ok-answer.ensures.reply ∙ c.in-Saves.is) c.in_ok-answer.ensures.session c.in_err-save-in-Saves.ensures.broken
    )
