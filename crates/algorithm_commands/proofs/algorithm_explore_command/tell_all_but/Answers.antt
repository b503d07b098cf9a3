use Rattle.std.proofs.Common.{◌∙◌, ℕ, List, Option, Some, sym, subst}
use Rattle.algorithm_explorer.specs.declared.left_out.LeftOut.{LeftOut}
use Rattle.algorithm_commands.specs.AlgorithmExplores.{all_line_but}
use Rattle.command_parts.specs.Endings.{Prints}
use Rattle.algorithm_commands.proofs.algorithm_explore_command.tell_all_but.Goals as goal

pub returns-in_default-clause-prints : goal.returns-in_default-clause-prints
returns-in_default-clause-prints g c =
    subst (λ (left : Option LeftOut). Prints 0 (all_line_but c.args.states left) (g.W.Sink.tape c.args.w.now) (g.W.Sink.tape c.tell_all.new.w) c.tell_all.result)
    (sym c.in_default.is) c.tell_all.ensures.prints

pub returns-clause-prints : goal.returns-clause-prints
returns-clause-prints g c =
    subst (λ (left : Option LeftOut). Prints 0 (all_line_but c.args.states left) (g.W.Sink.tape c.args.w.now) (g.W.Sink.tape c.tell_text.new.w) c.tell_text.result) (sym c.in-Some.is)
    (subst (λ (text : List ℕ). Prints 0 text (g.W.Sink.tape c.args.w.now) (g.W.Sink.tape c.tell_text.new.w) c.tell_text.result)
    (c.as_bytes.ensures.value ∙ (c.deref.ensures.0 ∙ c.left_out_line-line.ensures))
    c.tell_text.ensures.prints)
