use Rattle.std.proofs.Common.{◌≡◌, ℕ, ◌==◌, ◌||◌, true, Some, sym, ap, ◌∙◌}
use Rattle.crashlab.proofs.Common.{Load, Look, Stage, Choosing, place_of, is_before, next_access, Straight}
use Rattle.crashlab.proofs.variants.Waits.{weighs_past}
use Rattle.crashlab.proofs.variants.variant_process.lock_rows.weighing_row.Goals as goal

pub returns-clause-some : goal.returns-clause-some
returns-clause-some c =
    let s = c.args.process.now in
    let j = c.in-Some-Load-Look-Choosing.j in
    let next : next_access s ≡ Some (Load Look (Choosing j)) = cc in
    let less : ((c.args.value == 0) || is_before c.in-Wait.number s.index c.args.value j) ≡ true = ap (λ (p : ℕ). (c.args.value == 0) || is_before c.in-Wait.number p c.args.value j) (sym c.index.ensures.index) ∙ sym c.passes.ensures ∙ c.if-not-passes.false in
    weighs_past s c.in-Wait.number c.in-Wait.next j c.args.value c.in-Wait.looked c.requires c.in-Wait.ensures next less
    ∙ ap (λ (t : Stage). Some (place_of s.layout.procs s.index t, Straight)) (sym c.past-past.ensures)
