use Rattle.std.proofs.Common.{◌≡◌, sym, subst, rules}
use Rattle.rmeworld.proofs.Common.{IsLawfulImage}
use Rattle.rmeworld.proofs.LawfulNow.{image_is_lawful}
use Rattle.rmeworld.proofs.world.World.image.Goals as goal

pub returns-clause-lawful : goal.returns-clause-lawful
returns-clause-lawful c =
    let cells : c.new-cells.result ≡ c.self.inside.cells.items = search rules in
    let lock : c.new-lock.result ≡ c.self.inside.words.items = search rules in
    subst IsLawfulImage (λ i. record { cap = c.self.inside.layout.cap; cells = sym cells i; limit = c.self.inside.limit; lock = sym lock i; version = 2; width = c.self.inside.layout.width })
    (image_is_lawful _ c.self.invariant)
