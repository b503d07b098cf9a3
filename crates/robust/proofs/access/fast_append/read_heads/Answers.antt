use Rattle.std.proofs.Common.{◌≡◌, ◌<◌, sym, ◌∙◌, subst, arith}
use Rattle.robust.proofs.AccessCommon.{last_at, size, place_low, Setup}
use Rattle.robust.proofs.FastAppend.{closed_may, count_may, last_may, heads_go, heads_left, count_fits}
use Rattle.robust.proofs.access.fast_append.read_heads.Goals as goal

pub load-closed-requires-clause-may : goal.load-closed-requires-clause-may
load-closed-requires-clause-may c = λ v small. closed_may c.args.port.now c.args.seq c.args.value.now c.requires.at v

pub load-closed-requires-clause-table : goal.load-closed-requires-clause-table
load-closed-requires-clause-table c =
    let l = c.args.port.now.setup.layout in
    let low = place_low l l.cap in omega arith

pub load-count-requires-clause-may : goal.load-count-requires-clause-may
load-count-requires-clause-may c = λ v small. count_may c.args.port.now c.args.seq c.args.value.now c.requires.at c.load-closed.new.self c.load-closed.result c.load-closed.ensures v

pub load-count-requires-clause-table : goal.load-count-requires-clause-table
load-count-requires-clause-table c =
    let l = c.load-closed.new.self.setup.layout in
    let low = place_low l l.cap in omega arith

pub load-last-requires-clause-may : goal.load-last-requires-clause-may
load-last-requires-clause-may c = λ v small.
    let x = c.args.port.now in
    let is : c.last.result ≡ last_at x.setup.layout x.by = c.last.ensures ∙ (λ i. last_at (c.setup.ensures.is i).layout (c.by-own.ensures.is i)) in
    last_may x c.args.seq c.args.value.now c.requires.at c.load-closed.new.self c.load-closed.result c.load-closed.ensures c.load-count.new.self c.load-count.result c.load-count.ensures c.last.result is v

pub load-last-requires-clause-table : goal.load-last-requires-clause-table
load-last-requires-clause-table c =
    let x = c.args.port.now in
    let is : c.last.result ≡ last_at x.setup.layout x.by = c.last.ensures ∙ (λ i. last_at (c.setup.ensures.is i).layout (c.by-own.ensures.is i)) in
    let low = place_low x.setup.layout x.setup.layout.cap in
    let below = c.by-own.ensures.seat_view.below in
    let here : c.last.result < size x.setup.layout = omega arith in
    subst (λ (s : Setup). c.last.result < size s.layout) (sym (c.load-count.ensures.adds.setup ∙ c.load-closed.ensures.adds.setup)) here

pub returns-clause-at : goal.returns-clause-at
returns-clause-at c =
    let x = c.args.port.now in
    let is : c.last.result ≡ last_at x.setup.layout x.by = c.last.ensures ∙ (λ i. last_at (c.setup.ensures.is i).layout (c.by-own.ensures.is i)) in
    heads_go x c.args.seq c.args.value.now c.requires.at c.load-closed.new.self c.load-closed.result c.load-closed.ensures c.load-count.new.self c.load-count.result c.load-count.ensures c.last.result is c.load-last.new.self c.load-last.result c.load-last.ensures

pub returns-clause-left : goal.returns-clause-left
returns-clause-left c =
    let x = c.args.port.now in
    let is : c.last.result ≡ last_at x.setup.layout x.by = c.last.ensures ∙ (λ i. last_at (c.setup.ensures.is i).layout (c.by-own.ensures.is i)) in
    heads_left x c.args.seq c.args.value.now c.requires.at c.load-closed.new.self c.load-closed.result c.load-closed.ensures c.load-count.new.self c.load-count.result c.load-count.ensures c.last.result is c.load-last.new.self c.load-last.result c.load-last.ensures

pub returns-clause-room : goal.returns-clause-room
returns-clause-room c =
    let y = c.load-closed.new.self in
    let fits = count_fits c.args.port.now y c.load-count.new.self c.load-count.result _ c.by-own.ensures.seat_view c.load-closed.ensures.adds c.load-count.ensures in
    fits

pub returns-clause-same : goal.returns-clause-same
returns-clause-same c =
    let a = c.load-closed.ensures.adds in
    let b = c.load-count.ensures.adds in
    let d = c.load-last.ensures.adds in (d.setup ∙ (b.setup ∙ a.setup), d.by ∙ (b.by ∙ a.by))
