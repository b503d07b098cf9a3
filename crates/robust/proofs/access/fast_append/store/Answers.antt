use Rattle.std.proofs.Common.{◌≡◌, ◌<◌, ◌≤◌, ℕ, ◌+◌, ◌*◌, ◌∷◌, length, drop, sym, ap, ◌∙◌, subst, arith}
use Rattle.robust.proofs.AccessCommon.{saturate, last_at, place_at, record_of, held-small, step-commit, step-last, step-count, place_low, Setup, steps_of, stored_so_far}
use Rattle.robust.proofs.FastAppend.{room_for, lawful, record_row, entry_row, disarm_may, all_five, all_stored, all_ends}
use Rattle.robust.proofs.access.fast_append.store.Goals as goal

pub put_row-requires-clause-table : goal.put_row-requires-clause-table
put_row-requires-clause-table c = let low = place_low c.args.entry.now.setup.layout c.args.entry.now.setup.layout.cap in omega arith

pub put_row-requires-clause-small : goal.put_row-requires-clause-small
put_row-requires-clause-small c = (room_for c.args.entry.now.setup.layout c.args.entry.now.at (lawful c.args.port.now c.args.entry.now c.requires.of c.by-seat_view.ensures.seat_view) c.requires.room).1

pub put_row-requires-clause-wide : goal.put_row-requires-clause-wide
put_row-requires-clause-wide c =
    let sizes = lawful c.args.port.now c.args.entry.now c.requires.of c.by-seat_view.ensures.seat_view in
    let most = sizes.most in omega arith

pub put_row-requires-clause-row : goal.put_row-requires-clause-row
put_row-requires-clause-row c =
    let sizes = lawful c.args.port.now c.args.entry.now c.requires.of c.by-seat_view.ensures.seat_view in
    let most = sizes.most in record_row c.args.entry.now (omega arith)

pub put-requires-clause-at : goal.put-requires-clause-at
put-requires-clause-at c = c.put_row.ensures.at ∙ ap (stored_so_far c.args.entry.now) (omega arith)

pub put-requires-clause-table : goal.put-requires-clause-table
put-requires-clause-table c = let low = place_low c.args.entry.now.setup.layout c.args.entry.now.setup.layout.cap in omega arith

pub put-requires-clause-next : goal.put-requires-clause-next
put-requires-clause-next c = let e = c.args.entry.now in step-commit e.setup.layout e.own (record_of e.at e.seq e.value) _ (omega arith)

pub put_row-requires-2-clause-at : goal.put_row-requires-2-clause-at
put_row-requires-2-clause-at c = c.put.ensures.at ∙ ap (stored_so_far c.args.entry.now) (omega arith)

pub put_row-requires-2-clause-small : goal.put_row-requires-2-clause-small
put_row-requires-2-clause-small c = (room_for c.args.entry.now.setup.layout c.args.entry.now.at (lawful c.args.port.now c.args.entry.now c.requires.of c.by-seat_view.ensures.seat_view) c.requires.room).1

pub put_row-requires-2-clause-table : goal.put_row-requires-2-clause-table
put_row-requires-2-clause-table c =
    let e = c.args.entry.now in
    let sizes = lawful c.args.port.now c.args.entry.now c.requires.of c.by-seat_view.ensures.seat_view in
    let room = room_for e.setup.layout e.at sizes c.requires.room in
    let high = room.0 in
    let small = room.1 in
    let is : c.place.result ≡ saturate (place_at e.setup.layout e.at + 0) = c.place.ensures in omega arith

pub put_row-requires-2-clause-row : goal.put_row-requires-2-clause-row
put_row-requires-2-clause-row c =
    let e = c.args.entry.now in
    let sizes = lawful c.args.port.now c.args.entry.now c.requires.of c.by-seat_view.ensures.seat_view in
    let room = room_for e.setup.layout e.at sizes c.requires.room in
    let high = room.0 in
    let small = room.1 in
    let near : place_at e.setup.layout e.at + (2 + length e.value) ≤ 900000 = omega arith in
    let is : c.place.result ≡ saturate (place_at e.setup.layout e.at + 0) = c.place.ensures in
    entry_row e (2 + c.width-row.result) c.place.result (omega arith) (omega arith) near

pub put-requires-2-clause-at : goal.put-requires-2-clause-at
put-requires-2-clause-at c = c.put_row-2.ensures.at ∙ ap (stored_so_far c.args.entry.now) (omega arith)

pub put-requires-2-clause-table : goal.put-requires-2-clause-table
put-requires-2-clause-table c =
    let e = c.args.entry.now in
    let low = place_low e.setup.layout e.setup.layout.cap in
    let below = subst (λ (t : Setup × ℕ). t.1 < t.0.layout.procs) (λ i. (c.requires.of.0 i, c.requires.of.1 i)) c.by-seat_view.ensures.seat_view.below in
    let is : c.last.result ≡ last_at e.setup.layout e.own = c.last.ensures in omega arith

pub put-requires-2-clause-next : goal.put-requires-2-clause-next
put-requires-2-clause-next c =
    let e = c.args.entry.now in
    let k : ℕ = 2 * (2 + c.width-row.result) + 1 in
    subst (λ (n : ℕ). drop k (steps_of e) ≡ (n, e.seq) ∷ drop (k + 1) (steps_of e)) (sym c.last.ensures) (step-last e.setup.layout e.own (record_of e.at e.seq e.value) k (omega arith))

pub put-requires-3-clause-at : goal.put-requires-3-clause-at
put-requires-3-clause-at c = c.put-2.ensures.at ∙ ap (stored_so_far c.args.entry.now) (omega arith)

pub put-requires-3-clause-table : goal.put-requires-3-clause-table
put-requires-3-clause-table c = let low = place_low c.args.entry.now.setup.layout c.args.entry.now.setup.layout.cap in omega arith

pub put-requires-3-clause-next : goal.put-requires-3-clause-next
put-requires-3-clause-next c =
    let e = c.args.entry.now in
    let sizes = lawful c.args.port.now c.args.entry.now c.requires.of c.by-seat_view.ensures.seat_view in
    let h : saturate (e.at + 1) ≡ e.at + 1 = held-small (e.at + 1) (let few = sizes.small in omega arith) in
    let k : ℕ = 2 * (2 + c.width-row.result) + 2 in
    subst (λ (n : ℕ). drop k (steps_of e) ≡ (2, n) ∷ drop (k + 1) (steps_of e)) h (step-count e.setup.layout e.own (record_of e.at e.seq e.value) k (omega arith))

pub store-requires-clause-may : goal.store-requires-clause-may
store-requires-clause-may c = disarm_may c.put-3.new.port c.args.entry.now _ (omega arith) c.put-3.ensures.at

pub store-requires-clause-table : goal.store-requires-clause-table
store-requires-clause-table c =
    let l = c.put-3.new.port.setup.layout in
    let low = place_low l l.cap in omega arith

pub returns : goal.returns
returns c =
    let e = c.args.entry.now in
    let y = c.put-3.new.port in
    let k : ℕ = 2 * (2 + c.width-row.result) + 2 + 1 in
    let many : k ≡ 7 + 2 * length e.value = omega arith in
    let five = all_five c.args.port.now c.put_row.new.port c.put.new.port c.put_row-2.new.port c.put-2.new.port y e c.put_row.ensures.unanswered c.put.ensures.unanswered c.put_row-2.ensures.unanswered c.put-2.ensures.unanswered c.put-3.ensures.unanswered in
    let adds = c.store.ensures.adds in
    record {
      at = all_stored y e k many c.put-3.ensures.at c.store.new.self c.store.ensures;
      ends = all_ends y e k many c.put-3.ensures.at c.store.new.self c.store.ensures c.args.port.now five;
      of = (adds.setup ∙ c.put-3.ensures.of.0, adds.by ∙ c.put-3.ensures.of.1);
    }
