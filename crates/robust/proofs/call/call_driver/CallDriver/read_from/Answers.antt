use Rattle.std.proofs.Common.{◌≡◌, ℕ, ◌-◌, refl, sym, ◌∙◌, subst, arith}
use Rattle.robust.proofs.CallCommon.{Data as DataAt, Looks, cells_of, entry_words, Glances, drop_none, reports, count_within, reads_all, both_ok}
use Rattle.robust.proofs.call.call_driver.CallDriver.read_from.Goals as goal

pub glance-count-requires : goal.glance-count-requires
glance-count-requires c = count_within c.args.self.now.seat_view.setup.layout

pub entries-requires-clause-count : goal.entries-requires-clause-count
entries-requires-clause-count c = reports c.args.self.now.seat_view c.glance-count.new.self.seat_view 2 c.glance-count.result c.glance-count.ensures.seen

pub returns-then-place-count-clause-messages : goal.returns-then-place-count-clause-messages
returns-then-place-count-clause-messages c =
    let x = c.args.self.now in
    let y = c.glance-count.new.self in
    let place = c.args.place in
    let count = c.glance-count.result in
    let looks : Looks x.seat_view (DataAt 2) count y.seat_view = c.glance-count.ensures.seen in
    let steps : y.steps ≡ x.steps = c.glance-count.ensures.steps in
    let none : 0 ≡ count - place = omega (arith, c.if-place-count.true) in
    let nothing : Glances y (entry_words y.seat_view.setup.layout place (count - place)) y = subst (λ (n : ℕ). Glances y (entry_words y.seat_view.setup.layout place n) y) none refl in
    reads_all x place count y y c.new.result.items c.setup-setup.ensures.seat_view looks steps nothing (c.new.ensures.items ∙ sym (drop_none y.seat_view.setup.layout (cells_of y.seat_view.setup y.seat_view.seen) place count (omega (arith, c.if-place-count.true))))

pub returns-clause-messages : goal.returns-clause-messages
returns-clause-messages c =
    let x = c.args.self.now in
    let y = c.glance-count.new.self in
    let z = c.entries.new.self in
    let place = c.args.place in
    let count = c.glance-count.result in
    let looks : Looks x.seat_view (DataAt 2) count y.seat_view = c.glance-count.ensures.seen in
    let steps : y.steps ≡ x.steps = c.glance-count.ensures.steps in
    both_ok _ _ _ c.entries.result c.entries.ensures.messages c.entries.ensures.glances (λ v reports glances. reads_all x place count y z v.items c.setup-setup.ensures.seat_view looks steps glances reports)
