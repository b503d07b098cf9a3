use Rattle.std.proofs.Common.{◌++◌, ◌∙◌, ℕ, List, ap, subst}
use Rattle.schedule.specs.Reports.{verdict_line}
use Rattle.schedule.specs.declared.replays.verdict.Verdict.TheVariants.{Fine}
use Rattle.command_parts.specs.Endings.{Prints}
use Rattle.command_parts.proofs.findings.tell_fine.Goals as goal

pub returns-clause-prints : goal.returns-clause-prints
returns-clause-prints g c =
    subst (λ (text : List ℕ). Prints 0 text (g.W.Sink.tape c.args.w.now) (g.W.Sink.tape c.tell_text.new.w) c.tell_text.result)
    (c.deref.ensures.value ∙ c.in_ok-put_verdict.ensures ∙ ap (λ (xs : List ℕ). xs ++ verdict_line Fine) c.new-line.ensures.items)
    c.tell_text.ensures.prints
