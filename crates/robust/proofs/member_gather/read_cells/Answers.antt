use Rattle.std.proofs.Common.{◌≡◌, ℕ, List, [], ◌∷◌, ◌++◌, length, map, sym, ap, ◌∙◌, arith}
use Rattle.robust.proofs.Common.{Data as DataAt, count_from, end_of, stays_on, looked_stays, found_first, length-counted, mapped_more}
use Rattle.robust.proofs.member_gather.read_cells.Goals as goal

pub push_reserved-requires : goal.push_reserved-requires
push_reserved-requires c =
    let i = c.loop-i.invariant in
    let n : length c.loop-i.cells.items ≡ c.loop-i.i = ap length i.read ∙ length-counted _ c.loop-i.i in
    omega (arith, n, i.room, c.loop-i.cells.ok.0, c.data_words-i-end.ensures)

pub loop-i-preserved : goal.loop-i-preserved
loop-i-preserved c =
    let i = c.loop-i.invariant in
    let r = c.read-cell.ensures in
    let s = c.args.setup.now in
    let word = DataAt c.loop-i.i in
    let f : ℕ → ℕ = (end_of s c.args.seat.now.me.0.view.seen).cells in
    let value : c.read-cell.result ≡ f c.loop-i.i = found_first s word _ _ _ _ i.stays r.looked in
    record {
      table = r.same ∙ i.table;
      stays = stays_on s _ _ _ i.stays (looked_stays s word _ _ _ r.looked);
      read = c.push_reserved.ensures.items ∙ ap (λ (l : List ℕ). l ++ c.read-cell.result ∷ []) i.read ∙ ap (λ (x : ℕ). map f (count_from 0 c.loop-i.i) ++ x ∷ []) value ∙ sym (mapped_more f c.loop-i.i);
      room = omega (arith, c.push_reserved.ensures.capacity, i.room);
    }
