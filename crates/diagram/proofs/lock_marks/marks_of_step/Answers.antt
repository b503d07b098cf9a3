use Rattle.std.proofs.Common.{ℕ, refl, subst, sym, ◌∙◌}
use Rattle.algorithms.specs.remote_references.CopyRows.{AreCopiesAfter}
use Rattle.diagram.proofs.lock_marks.marks_of_step.Goals as goal

pub returns : goal.returns
returns c = λ run copies.
    let many = c.lock_declarations-declarations.ensures in
    c.marks_at.ensures run (subst (λ (n : ℕ). AreCopiesAfter n run c.args.copies.now) (sym many) copies)
    ∙ rw (many, c.lock_home-home.ensures, c.access_of-access.ensures) refl
