use Rattle.std.proofs.Common.{not, ◌∙◌, ap, sym}
use Rattle.algorithms.specs.remote_references.RemoteReferences.{is_remote}
use Rattle.algorithms.proofs.remote_references.copies.Copies.is_remote.Goals as goal

pub returns-in-Distributed : goal.returns-in-Distributed
returns-in-Distributed c = λ declarations run before l within.
    ap not c.lives_at.ensures ∙ ap (λ model. is_remote model c.args.home run c.args.p c.args.access) (sym c.in-Distributed.is)

pub returns-in-WriteBack : goal.returns-in-WriteBack
returns-in-WriteBack c = λ declarations run before l within.
    ap not (c.has_copy_for.ensures declarations run before l within) ∙ ap (λ model. is_remote model c.args.home run c.args.p c.args.access) (sym c.in-WriteBack.is)
