use Rattle.std.proofs.Common.{◌++◌, ◌∷◌, [], List, ℕ, subst}
use Rattle.schedule.proofs.Playing.{begins_further, begins_wider}
use Rattle.schedule.specs.Tapes.{Begins}
use Rattle.cli.proofs.Telling.{on_err, on_err_too}
use Rattle.cli.proofs.explain.meaning_writer.tell_name.Goals as goal

pub returns-in_err-put-clause-beginning : goal.returns-in_err-put-clause-beginning
returns-in_err-put-clause-beginning g c =
    on_err c.from_residual.result _
    (subst (λ (name : List ℕ). Begins (g.W.Sink.tape c.args.w.now).taken (g.W.Sink.tape c.put.new.w).taken (name ++ 10 ∷ [])) c.meaning_of-meaning.ensures
    (begins_wider _ _ c.meaning_of-meaning.result.name.now (10 ∷ []) c.in_err-put.ensures.beginning))

pub returns-clause-beginning : goal.returns-clause-beginning
returns-clause-beginning g c =
    on_err_too c.put-2.result _ _
    (λ last. subst (λ (name : List ℕ). Begins (g.W.Sink.tape c.args.w.now).taken (g.W.Sink.tape c.put-2.new.w).taken (name ++ 10 ∷ [])) c.meaning_of-meaning.ensures
    (begins_further _ _ _ c.meaning_of-meaning.result.name.now (10 ∷ []) c.in_ok-put.ensures.all last))
    c.put-2.ensures.beginning
