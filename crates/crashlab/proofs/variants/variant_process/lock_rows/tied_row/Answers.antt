use Rattle.std.proofs.Common.{◌≡◌, Some, sym, ap, ◌∙◌, eq-eqb}
use Rattle.crashlab.proofs.Common.{Load, Weigh, Stage, Number, place_of, next_access, Straight}
use Rattle.crashlab.proofs.variants.Waits.{ties_past}
use Rattle.crashlab.proofs.variants.variant_process.lock_rows.tied_row.Goals as goal

pub returns-clause-some : goal.returns-clause-some
returns-clause-some c =
    let s = c.args.process.now in
    let j = c.in-Some-Load-Weigh-Number.j in
    let next : next_access s ≡ Some (Load Weigh (Number j)) = cc in
    ties_past s c.in-Wait.number c.in-Wait.next j c.args.value c.in-Wait.looked c.requires c.in-Wait.ensures next (eq-eqb _ _ c.if-number-value.false)
    ∙ ap (λ (t : Stage). Some (place_of s.layout.procs s.index t, Straight)) (sym c.past-past.ensures)
