use Rattle.std.proofs.Common.{◌∙◌, ℕ, List, subst}
use Rattle.command_parts.specs.Endings.{Prints}
use Rattle.algorithm_commands.proofs.algorithm_mean_command.tell_totals.Goals as goal

pub returns-clause-prints : goal.returns-clause-prints
returns-clause-prints g c =
    subst (λ (text : List ℕ). Prints 0 text (g.W.Sink.tape c.args.w.now) (g.W.Sink.tape c.tell_text.new.w) c.tell_text.result)
    (c.as_bytes.ensures.value ∙ (c.deref.ensures.0 ∙ c.mean_line-line.ensures)) c.tell_text.ensures.prints
