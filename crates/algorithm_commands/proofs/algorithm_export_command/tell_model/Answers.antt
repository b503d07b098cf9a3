use Rattle.std.proofs.Common.{◌∙◌, ℕ, List, ap, subst}
use Rattle.algorithms.specs.Worlds.{first_world}
use Rattle.algorithms.specs.declared.algorithm.AlgorithmCall.{AlgorithmCall}
use Rattle.promela.specs.Models.{model_text}
use Rattle.command_parts.specs.Endings.{Prints}
use Rattle.algorithm_commands.proofs.AlgorithmExports.{ends_model}
use Rattle.algorithm_commands.proofs.algorithm_export_command.tell_model.Goals as goal

pub returns-in-Ok-clause-ends : goal.returns-in-Ok-clause-ends
returns-in-Ok-clause-ends g c =
    let o = c.args.args.now in
    let made = rw c.in-Ok.is at c.write_promela-written.ensures.text in
    let sizes = rw c.in-Ok.is at c.write_promela-written.ensures.accepted in
    let calls = c.deref.ensures.value ∙ c.in_ok-calls.ensures in
    let text = c.deref-in-Ok.ensures.value ∙ made.2
    ∙ ap (λ (calls : List AlgorithmCall). model_text (first_world c.args.algorithm o.procs o.limit) made.0 o.crashes calls) calls in
    ends_model c.args.algorithm o _ _ c.tell_text.result sizes made.0 made.1
    (subst (λ (all : List ℕ). Prints 0 all (g.W.Sink.tape c.args.w.now) (g.W.Sink.tape c.tell_text.new.w) c.tell_text.result) text c.tell_text.ensures.prints)
