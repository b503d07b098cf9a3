use Rattle.std.proofs.Common.{◌≡◌, ℕ, List, Option, length, ap, ap₂, refl, subst, sym, ◌∙◌}
use Rattle.algorithms.specs.Homes.{home_of}
use Rattle.algorithms.specs.declared.algorithm.Algorithm.{Algorithm}
use Rattle.algorithms.specs.remote_references.CopyRows.{AreCopiesAfter}
use Rattle.diagram.specs.RemoteMarks.{marks_at}
use Rattle.diagram.proofs.algorithm.remote_marks.marks_if_declared.Goals as goal

pub returns : goal.returns
returns c = λ run copies.
    let w = c.args.world.now in
    let p = c.args.p in
    let access = c.args.access in
    let many = ap length c.as_slice.ensures.value ∙ ap (λ (a : Algorithm). length a.declarations.items) c.algorithm-algorithm.ensures in
    let home : c.home_of-home.result ≡ home_of w.algorithm w.procs w.limit access.address =
    c.home_of-home.ensures ∙ rw (c.algorithm-algorithm.ensures, c.procs.ensures, c.limit.ensures) refl in
    c.marks_at.ensures run (subst (λ (n : ℕ). AreCopiesAfter n run c.args.copies.now) (sym many) copies)
    ∙ ap₂ (λ (n : ℕ) (home : Option ℕ). marks_at n home run p access) many home
