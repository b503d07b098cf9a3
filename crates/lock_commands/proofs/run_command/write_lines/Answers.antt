use Rattle.std.proofs.Common.{◌∙◌, sym}
use Rattle.lock_commands.specs.Tallies.{tallies_text}
use Rattle.command_parts.proofs.Writing.{not_written}
use Rattle.lock_commands.proofs.run_command.write_lines.Goals as goal

pub returns-then-is_err-clause-unwritten : goal.returns-then-is_err-clause-unwritten
returns-then-is_err-clause-unwritten g c =
    not_written c.write_all.result c.as_bytes.result.now (tallies_text c.args.tallies.now) (g.W.Sink.tape c.args.w.now) (g.W.Sink.tape c.write_all.new.sink)
    (sym c.is_err.ensures.value ∙ c.if-is_err.true) (c.as_bytes.ensures.value ∙ c.in_ok-text.ensures)
    c.write_all.ensures.beginning c.write_all.ensures.failed
