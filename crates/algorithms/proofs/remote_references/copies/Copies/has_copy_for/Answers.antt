use Rattle.std.proofs.Common.{◌≡◌, ◌∙◌, true, false, length, sym, subst}
use Rattle.algorithms.specs.remote_references.Copies.{has_copy, has_exclusive_copy, stores_or_swaps}
use Rattle.algorithms.specs.remote_references.CopyRows.{AreCopiesAfter, AreRowsOf, IsRowOf}
use Rattle.algorithms.proofs.remote_references.copies.Copies.has_copy_for.Goals as goal

pub returns-then-stores_or_swaps : goal.returns-then-stores_or_swaps
returns-then-stores_or_swaps c = λ declarations run before l within.
    let was = subst (AreCopiesAfter declarations run) (sym c.self.view_is) before in
    let stores : stores_or_swaps c.args.access ≡ true = sym c.stores_or_swaps.ensures ∙ c.if-stores_or_swaps.true in
    let rows = subst (λ rows. AreRowsOf rows (λ word q. has_exclusive_copy q word run)) (sym c.as_slice.ensures.value) was.exclusive in
    let here = subst (λ rows. IsRowOf (length rows) c.args.access.address) (sym c.as_slice.ensures.value) (subst (λ n. IsRowOf n c.args.access.address) (sym was.exclusive_all) within) in
    rw stores (c.has_in.ensures (λ word q. has_exclusive_copy q word run) rows here l)

pub returns-else-stores_or_swaps : goal.returns-else-stores_or_swaps
returns-else-stores_or_swaps c = λ declarations run before l within.
    let was = subst (AreCopiesAfter declarations run) (sym c.self.view_is) before in
    let loads : stores_or_swaps c.args.access ≡ false = sym c.stores_or_swaps.ensures ∙ c.if-stores_or_swaps.false in
    let rows = subst (λ rows. AreRowsOf rows (λ word q. has_copy q word run)) (sym c.as_slice-else-stores_or_swaps.ensures.value) was.held in
    let here = subst (λ rows. IsRowOf (length rows) c.args.access.address) (sym c.as_slice-else-stores_or_swaps.ensures.value) (subst (λ n. IsRowOf n c.args.access.address) (sym was.held_all) within) in
    rw loads (c.has_in-else-stores_or_swaps.ensures (λ word q. has_copy q word run) rows here l)
