use Rattle.std.proofs.Common.{◌≡◌, ◌∙◌, true, false, Some, ap, refl, sym}
use Rattle.diagram.specs.RemoteMarks.{has_place}
use Rattle.diagram.proofs.remote_marks.marks_at.Goals as goal

pub returns-then-has_place : goal.returns-then-has_place
returns-then-has_place c = λ run copies.
    let placed : has_place c.args.declarations c.args.p c.args.access.address ≡ true = sym c.has_place.ensures ∙ c.if-has_place.true in
    rw placed (ap Some (c.marks_of_home.ensures c.args.declarations run copies placed))

pub returns-else-has_place : goal.returns-else-has_place
returns-else-has_place c = λ run copies.
    let other : has_place c.args.declarations c.args.p c.args.access.address ≡ false = sym c.has_place.ensures ∙ c.if-has_place.false in
    rw other refl
