use Rattle.std.proofs.Common.{◌∙◌, sym}
use Rattle.std.proofs.lemmas.Result.{err_from_is_err_and}
use Rattle.command_parts.proofs.Holding.{last_breaks}
use Rattle.command_parts.proofs.conversation.write_last.Goals as goal

pub returns-in_err-write_all : goal.returns-in_err-write_all
returns-in_err-write_all g c =
    let p = err_from_is_err_and c.from_residual-in_err-write_all.result c.from_residual-in_err-write_all.ensures.1 in
    rw (p.1, p.2) (
    last_breaks c.args.session.now c.args.rest.now _ (g.W.Sink.tape c.args.w.now) (g.W.Sink.tape c.write_all.new.sink)
    (sym c.is_empty.ensures ∙ c.if-is_empty.false) (c.deref.ensures.value ∙ c.in_ok-page.ensures)
    c.in_err-write_all.ensures.beginning c.in_err-write_all.ensures.failed
    )
