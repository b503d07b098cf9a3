use Rattle.std.proofs.Common.{◌≡◌, sym, ap, ◌∙◌, arith}
use Rattle.atomic_table.specs.Seated.{TableId}
use Rattle.table_runs.proofs.Opens.{cut_rest, rest_step}
use Rattle.robust.proofs.access.port.Port.first.Goals as goal

pub cut_off-own-requires : goal.cut_off-own-requires
cut_off-own-requires c =
    let same : c.args.seat.now.table_id ≡ c.deref.result.now.shared.table_id = c.requires.table.0 ∙ ap (λ t. t.shared.table_id) (sym c.in_ok-board.ensures ∙ sym c.deref.ensures) in
    (same, omega (arith, ap (λ (t : TableId). t.words) same, c.requires.within.0), cut_rest _ _ c.args.setup c.args.by c.args.seat.now.me.0 (ap (λ m. m.0) c.requires.seat) c.requires.within.0)

pub returns-clause-rest : goal.returns-clause-rest
returns-clause-rest c =
    let s = c.cut_off-own.ensures in
    (s.0, s.1 ∙ (λ i. (rest_step c.args.setup c.args.by c.args.seat.now.me.0 (ap (λ m. m.0) c.requires.seat) c.requires.within.0 i, (c.requires.seat i).1)))
