use Rattle.std.proofs.Common.{◌≡◌, ℕ, ◌+◌, ◌*◌, List, [], ◌∷◌, ◌++◌, map, replicate, sym, ap, ◌∙◌, arith}
use Rattle.robust.proofs.Common.{TableId, SeatView, count_from, Seated, word_count, size_small, mapped_more, fresh_member}
use Rattle.table_runs.proofs.Keeps.{opens}
use Rattle.robust.proofs.arena.make.Goals as goal

pub overflow_add-count : goal.overflow_add-count
overflow_add-count c = let s = size_small c.args.setup.layout c.requires.size.layout in omega (arith, s, c.requires.size.layout.few, c.data_words.ensures)

pub of_words-requires : goal.of_words-requires
of_words-requires c =
    let count : 3 * c.args.setup.layout.procs + c.data_words.result ≡ word_count c.args.setup = ap (λ (m : ℕ). 3 * c.args.setup.layout.procs + m) c.data_words.ensures in
    opens c.args.setup c.as_slice.result.now [] (c.as_slice.ensures.value ∙ c.in_ok-words.ensures.items_if_clones_equal (λ y h. h) ∙ ap (λ (m : ℕ). replicate m 0) count)

pub loop-p-preserved : goal.loop-p-preserved
loop-p-preserved c =
    let i = c.loop-p.invariant in
    let r = c.in_ok-port.ensures.rest in
    let f : ℕ → Seated = fresh_member c.loop-p.seat.table_id c.args.setup in
    let value : c.new-in-loop-p.result ≡ f c.loop-p.p = c.new-in-loop-p.ensures ∙ ap (λ (x : SeatView). record { seat_view = x; steps = 0 }) c.in_ok-port.ensures.port in
    let items : c.push.new.self.items ≡ map f (count_from 0 (c.loop-p.p + 1)) =
    c.in_ok-push.ensures.items ∙ ap (λ (l : List Seated). l ++ c.new-in-loop-p.result ∷ []) i.made ∙ ap (λ (x : Seated). map f (count_from 0 c.loop-p.p) ++ x ∷ []) value ∙ sym (mapped_more f c.loop-p.p)
    in record {
      table = r.0 ∙ i.table;
      words = ap (λ (t : TableId). t.words) r.0 ∙ i.words;
      seat = r.1;
      made = items ∙ ap (λ (t : TableId). map (fresh_member t c.args.setup) (count_from 0 (c.loop-p.p + 1))) (sym r.0);
    }
