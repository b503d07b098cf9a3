use Rattle.std.proofs.Common.{◌∙◌, refl, sym}
use Rattle.command_parts.proofs.Writing.{not_written}
use Rattle.command_parts.proofs.findings.tell_text.Goals as goal

pub returns-then-is_err-clause-prints : goal.returns-then-is_err-clause-prints
returns-then-is_err-clause-prints g c =
    not_written c.write_all.result c.args.text.now c.args.text.now (g.W.Sink.tape c.args.w.now) (g.W.Sink.tape c.write_all.new.sink)
    (sym c.is_err.ensures.value ∙ c.if-is_err.true) refl c.write_all.ensures.beginning c.write_all.ensures.failed
