use Rattle.std.proofs.Common.{◌≡◌, ◌+◌, max, sym, ap, ◌∙◌, arith}
use Rattle.rme_c.proofs.Common.{Door, above, door_goes, standing_at}
use Rattle.rmecore.specs.Place as PlaceOf
use Rattle.rme_c.proofs.lock_arms.after_door.Goals as goal

pub returns-in-Some-clause-place : goal.returns-in-Some-clause-place
returns-in-Some-clause-place c =
    let p = c.args.p.now in
    let same : max c.args.greatest c.args.value ≡ c.args.greatest = omega (arith, c.if-value-eq0.true) in
    rw c.peeks_from.ensures.to (ap (λ g. PlaceOf.Door (above p.procs p.index (c.in-Some.j + 1)) g) (sym same) ∙ sym (door_goes (standing_at p (Door c.args.from c.args.greatest)) c.args.from c.args.greatest c.in-Some.j c.args.value (sym c.first_other.ensures.first ∙ c.in-Some.is)))

pub returns-in-Some-2-clause-place : goal.returns-in-Some-2-clause-place
returns-in-Some-2-clause-place c =
    rw (c.peeks_from-in-Some-2.ensures.to, c.max.ensures) (sym (door_goes (standing_at c.args.p.now (Door c.args.from c.args.greatest)) c.args.from c.args.greatest c.in-Some.j c.args.value (sym c.first_other.ensures.first ∙ c.in-Some.is)))
