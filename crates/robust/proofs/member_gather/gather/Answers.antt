use Rattle.std.proofs.Common.{◌≡◌, ◌<◌, ◌∷◌, List, true, length, get_or, refl, sym, ap, ◌∙◌, subst, arith}
use Rattle.robust.proofs.Common.{has_member, Seated, OneArena, Gathers, first_removed}
use Rattle.robust.proofs.member_gather.gather.Goals as goal

pub read_all-requires-clause-all : goal.read_all-requires-clause-all
read_all-requires-clause-all c =
    let some : 0 < length c.args.members.items = omega arith in
    let whole : c.args.members.items ≡ c.remove-first.result ∷ c.remove-first.new.self.items = first_removed _ _ _ some c.remove-first.ensures.value c.remove-first.ensures.items in
    let procs : c.setup-setup.result.layout.procs ≡ c.remove-first.result.seat_view.setup.layout.procs = ap (λ s. s.layout.procs) c.setup-setup.ensures.is ∙ ap (λ (x : Seated). x.seat_view.setup.layout.procs) (c.index.ensures ∙ ap (λ (xs : List Seated). get_or xs 0 c.index.result.now) whole) in
    λ p h. subst (λ (xs : List Seated). has_member p xs ≡ true) (c.as_slice.ensures.value ∙ whole) (c.if-not-has_all.ensures.yes refl p (omega (arith, procs)))

pub read_all-requires-clause-arena : goal.read_all-requires-clause-arena
read_all-requires-clause-arena c =
    let some : 0 < length c.args.members.items = omega arith in
    let whole : c.args.members.items ≡ c.remove-first.result ∷ c.remove-first.new.self.items = first_removed _ _ _ some c.remove-first.ensures.value c.remove-first.ensures.items in
    subst OneArena whole c.requires.arena

pub returns-clause-gathered : goal.returns-clause-gathered
returns-clause-gathered c =
    let some : 0 < length c.args.members.items = omega arith in
    let whole : c.args.members.items ≡ c.remove-first.result ∷ c.remove-first.new.self.items = first_removed _ _ _ some c.remove-first.ensures.value c.remove-first.ensures.items in
    subst (λ (xs : List Seated). Gathers xs c.read_all.result) (sym whole) c.read_all.ensures.gathers

pub returns-clause-lawful : goal.returns-clause-lawful
returns-clause-lawful c = c.read_all.ensures.lawful
