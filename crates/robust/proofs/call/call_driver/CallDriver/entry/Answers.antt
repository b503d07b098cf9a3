use Rattle.std.proofs.Common.{◌≡◌, ℕ, suc, ◌+◌, ◌<◌, ap, sym, ◌∙◌, subst, arith, length-set}
use Rattle.robust.proofs.CallCommon.{slice_index, Data as DataAt, words_of, place_at, size, row, Setup, Looks, cells_of, row_words, Glances, setup_same, place_is, glances_snoc, stood, read_more}
use Rattle.robust.proofs.CallCommon.{entry_read}
use Rattle.redomail.specs.Mailbox.{message}
use Rattle.robust.proofs.call.call_driver.CallDriver.entry.Goals as goal

pub overflow_add-at : goal.overflow_add-at
overflow_add-at c =
    let p = place_is c.args.self.now.seat_view c.setup.result c.args.a c.place-at.result c.setup.ensures.seat_view c.setup.ensures.is c.requires c.place-at.ensures in
    let w : c.setup.result.layout.width ≡ c.args.self.now.seat_view.setup.layout.width = ap (λ (s : Setup). s.layout.width) c.setup.ensures.is in
    omega (arith, p.0, p.1, p.2, w, c.loop-k-test.true)

pub glance-requires : goal.glance-requires
glance-requires c =
    let p = place_is c.args.self.now.seat_view c.setup.result c.args.a c.place-at.result c.setup.ensures.seat_view c.setup.ensures.is c.requires c.place-at.ensures in
    let w : c.setup.result.layout.width ≡ c.args.self.now.seat_view.setup.layout.width = ap (λ (s : Setup). s.layout.width) c.setup.ensures.is in
    let same = setup_same c.args.self.now (row_words (place_at c.args.self.now.seat_view.setup.layout c.args.a) c.loop-k.k) c.loop-k.self c.loop-k.invariant.looked in
    subst (λ (s : Setup). c.place-at.result + c.loop-k.k < size s.layout) (sym same) (omega (arith, p.0, p.1, w, c.loop-k-test.true))

pub loop-k-preserved : goal.loop-k-preserved
loop-k-preserved c =
    let x = c.args.self.now in
    let i = c.loop-k.invariant in
    let k = c.loop-k.k in
    let p = place_is x.seat_view c.setup.result c.args.a c.place-at.result c.setup.ensures.seat_view c.setup.ensures.is c.requires c.place-at.ensures in
    let w : c.setup.result.layout.width ≡ x.seat_view.setup.layout.width = ap (λ (s : Setup). s.layout.width) c.setup.ensures.is in
    let at : ℕ = place_at x.seat_view.setup.layout c.args.a in
    let within : k < 2 + x.seat_view.setup.layout.width = omega (arith, w, c.loop-k-test.true) in
    let most = c.setup.ensures.seat_view.size.layout.most in
    let looks : Looks c.loop-k.self.seat_view (DataAt (at + k)) c.glance.result c.glance.new.self.seat_view =
    subst (λ (r : ℕ). Looks c.loop-k.self.seat_view (DataAt (r + k)) c.glance.result c.glance.new.self.seat_view) p.0 c.glance.ensures.seen in
    let v = stood x c.loop-k.self c.glance.new.self (row_words at k) c.args.a k c.glance.result c.setup.ensures.seat_view i.looked looks c.glance.ensures.steps c.requires within in
    let next : suc k ≡ k + 1 = omega arith in
    record {
      looked = subst (λ (n : ℕ). Glances x (row_words at n) c.glance.new.self) next (glances_snoc x (row_words at k) c.loop-k.self c.glance.new.self (DataAt (at + k)) c.glance.result i.looked looks c.glance.ensures.steps);
      long = length-set c.loop-k.words k c.glance.result ∙ i.long;
      read = read_more c.loop-k.words k c.glance.result (cells_of x.seat_view.setup x.seat_view.seen) at (omega (arith, i.long, within, most)) i.read v;
    }

pub returns-clause-message : goal.returns-clause-message
returns-clause-message c =
    let x = c.args.self.now in
    let xs = c.loop-k.words in
    let w : c.setup.result.layout.width ≡ x.seat_view.setup.layout.width = ap (λ (s : Setup). s.layout.width) c.setup.ensures.is in
    ap (message (slice_index xs 0) (slice_index xs 1)) (c.value_at.ensures ∙ ap (row (words_of xs) 2) w)
    ∙ entry_read x.seat_view.setup.layout (cells_of x.seat_view.setup x.seat_view.seen) c.args.a xs (λ j h. c.loop-k.invariant.read j (omega (arith, w, h, c.loop-k-test.false)))
