use Rattle.std.proofs.Common.{◌≡◌, ◌∙◌, ◌∷◌, ◌++◌, List, [], sym, ap, append-nil, append_assoc, subst}
use Rattle.robust.proofs.Common.{TableId, Absorbs, SeatView, single_seat, Seated, word_count, knows_some, absorbs_on, knows_first, one_table}
use Rattle.robust.proofs.member_gather.join_all.Goals as goal

pub loop-other-init : goal.loop-other-init
loop-other-init c =
    let w = c.into_port.ensures in
    let p = c.into_parts-board.ensures in (
      p.table.0 ∙ sym p.table.1,
      p.table.0 ∙ ap (λ (x : SeatView). x.table) w,
      ap (λ (t : TableId). t.words) p.table.0 ∙ p.seat_view.words ∙ ap (λ (x : SeatView). word_count x.setup) w ∙ ap word_count (sym c.requires.setup),
      ([], sym (append-nil _), knows_first c.args.first _ (ap (λ m. m.0) p.seat ∙ ap (λ (x : SeatView). single_seat x.setup x.by x.seen) w)),
    )

pub absorb-requires-clause-table : goal.absorb-requires-clause-table
absorb-requires-clause-table c =
    let i = c.loop-other.invariant in
    let items : c.args.others.items ≡ (c.pop.new.self.items ++ c.in-Some.other ∷ []) ++ i.3.0 = i.3.1 ∙ ap (λ (l : List Seated). l ++ i.3.0) c.in-Some.ensures.items in (
      i.0 ∙ ap (λ b. b.shared.table_id) (sym c.deref.ensures),
      i.2,
      ap (λ (x : SeatView). x.table) c.into_port-in-Some.ensures ∙ one_table c.args.first c.args.others.items c.pop.new.self.items i.3.0 c.in-Some.other c.requires.arena items ∙ sym i.1,
    )

pub absorb-requires-clause-some : goal.absorb-requires-clause-some
absorb-requires-clause-some c = let k = c.loop-other.invariant.3 in knows_some c.args.first k.0 _ _ k.2

pub loop-other-preserved : goal.loop-other-preserved
loop-other-preserved c =
    let i = c.loop-other.invariant in
    let a = c.absorb.ensures in
    let x = c.in-Some.other in
    let items : c.args.others.items ≡ (c.pop.new.self.items ++ x ∷ []) ++ i.3.0 = i.3.1 ∙ ap (λ (l : List Seated). l ++ i.3.0) c.in-Some.ensures.items in
    let absorbs : Absorbs c.loop-other.seat.me.0 x.seat_view c.absorb.new.seat.me.0 = subst (λ (y : SeatView). Absorbs c.loop-other.seat.me.0 y c.absorb.new.seat.me.0) c.into_port-in-Some.ensures a.absorbs in (
      a.same.0 ∙ i.0,
      a.same.0 ∙ i.1,
      ap (λ (t : TableId). t.words) a.same.0 ∙ i.2,
      (x ∷ i.3.0, items ∙ append_assoc c.pop.new.self.items (x ∷ []) i.3.0, absorbs_on c.args.first i.3.0 c.loop-other.seat.me.0 c.absorb.new.seat.me.0 x i.3.2 absorbs),
    )
