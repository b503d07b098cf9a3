use Rattle.std.proofs.Common.{◌≡◌, ◌+◌, ap, ◌∙◌, arith}
use Rattle.redomail.specs.Layout.{place_at, last_at}
use Rattle.rme_c.proofs.Common.{Layout, saturate, layout_of}
use Rattle.rme_c.proofs.StoredAll.{record_row, commit, entry_row, numbered, counts, disarm}
use Rattle.rme_c.proofs.appends.name_stores.Goals as goal

pub name_row-requires-clause-row : goal.name_row-requires-clause-row
name_row-requires-clause-row c =
    λ j h. record_row c.args.p.now c.requires.eight c.args.entry.at c.args.entry.seq c.requires.fits _ j (omega arith) h

pub name-requires-clause-next : goal.name-requires-clause-next
name-requires-clause-next c =
    let few = c.requires.fits.1.0 in
    commit c.args.p.now c.requires.eight c.args.entry.at c.args.entry.seq c.requires.fits _ _ (omega arith) (omega arith) (omega (arith, few))

pub name_row-requires-2-clause-row : goal.name_row-requires-2-clause-row
name_row-requires-2-clause-row c =
    λ j h.
    let p = c.args.p.now in
    let placed : c.place.result ≡ saturate (place_at (layout_of p) c.args.entry.at + 0) = c.place.ensures ∙ ap (λ (l : Layout). saturate (place_at l c.args.entry.at + 0)) c.layout-layout.ensures in
    entry_row p c.requires.eight c.args.entry.at c.args.entry.seq c.requires.fits _ _ j (omega arith) (omega (arith, c.saturating_add-place.ensures, placed)) h

pub name-requires-2-clause-next : goal.name-requires-2-clause-next
name-requires-2-clause-next c =
    let p = c.args.p.now in
    let few = c.requires.fits.1.0 in
    let below = c.requires.fits.0 in
    let most = c.requires.fits.1.1.0.most in
    let last : c.last.result ≡ last_at (layout_of p) p.index = c.last.ensures ∙ ap (λ (l : Layout). last_at l p.index) c.layout-layout.ensures in
    numbered p c.requires.eight c.args.entry.at c.args.entry.seq c.requires.fits _ _ (omega arith) (omega (arith, last)) (omega (arith, last, few, below, most))

pub name-requires-3-clause-next : goal.name-requires-3-clause-next
name-requires-3-clause-next c =
    let few = c.requires.fits.1.0 in
    counts c.args.p.now c.requires.eight c.args.entry.at c.args.entry.seq c.requires.fits _ _ _ (omega arith) (omega arith) (omega (arith, few)) (omega (arith, c.saturating_add.ensures))

pub name-requires-4-clause-next : goal.name-requires-4-clause-next
name-requires-4-clause-next c =
    let few = c.requires.fits.1.0 in
    disarm c.args.p.now c.requires.eight c.args.entry.at c.args.entry.seq c.requires.fits _ _ (omega arith) (omega arith) (omega (arith, few))
