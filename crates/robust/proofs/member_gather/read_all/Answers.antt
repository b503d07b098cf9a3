use Rattle.std.proofs.Common.{◌∙◌, ◌≤◌, ◌^◌, sym, ap, subst}
use Rattle.robust.proofs.Common.{Choosing as ChoosingOf, IsLawfulImage, Setup, image_at, Stays, IsRun, end_of, stays_on, looked_stays, knows_all, still_all, image_is, gathers, lawful_end}
use Rattle.rmeworld.specs.MachineState.{IsSize}
use Rattle.robust.proofs.member_gather.read_all.Goals as goal

pub read-requires-clause-all : goal.read-requires-clause-all
read-requires-clause-all c = knows_all c.setup-setup.result c.args.first c.args.others.items _ c.join_all-board.result.1.me.0 c.setup-setup.ensures.is c.join_all-board.ensures.knows c.setup-setup.ensures.seat_view.size.procs c.requires.all

pub read_lock-requires-clause-all : goal.read_lock-requires-clause-all
read_lock-requires-clause-all c =
    let z = c.setup-setup.result in
    let k = c.join_all-board.result.1.me.0 in
    let all = knows_all z c.args.first c.args.others.items _ k c.setup-setup.ensures.is c.join_all-board.ensures.knows c.setup-setup.ensures.seat_view.size.procs c.requires.all in
    still_all z k _ (looked_stays z (ChoosingOf 0) k _ _ c.read.ensures.looked) all

pub read_cells-requires-clause-all : goal.read_cells-requires-clause-all
read_cells-requires-clause-all c =
    let z = c.setup-setup.result in
    let k = c.join_all-board.result.1.me.0 in
    let all = knows_all z c.args.first c.args.others.items _ k c.setup-setup.ensures.is c.join_all-board.ensures.knows c.setup-setup.ensures.seat_view.size.procs c.requires.all in
    still_all z k _ (stays_on z k _ _ (looked_stays z (ChoosingOf 0) k _ _ c.read.ensures.looked) c.read_lock.ensures.stays) all

pub returns-clause-gathers : goal.returns-clause-gathers
returns-clause-gathers c =
    let z = c.setup-setup.result in
    let k = c.join_all-board.result.1.me.0 in
    let same = c.setup-setup.ensures.is in
    let look = c.read.ensures.looked in
    let stays : Stays z k c.read.new.seat.me.0 = looked_stays z (ChoosingOf 0) k _ _ look in
    let is = image_is z k c.read.new.seat.me.0 c.read_lock.new.seat.me.0 c.new-2.result c.new.result stays c.read_lock.ensures.stays (c.new-2.ensures ∙ c.read_lock.ensures.lock) (c.new.ensures ∙ c.read_cells.ensures.cells) in
    gathers c.args.first c.args.others.items k _ c.join_all-board.ensures.knows c.requires.all (subst (λ (s : Setup). IsRun s k.view.seen) same look.run) look.reports (is ∙ ap (λ (s : Setup). image_at s (end_of s k.view.seen)) same)

pub returns-clause-lawful : goal.returns-clause-lawful
returns-clause-lawful c =
    let z = c.setup-setup.result in
    let k = c.join_all-board.result.1.me.0 in
    let same = sym c.setup-setup.ensures.is in
    let look = c.read.ensures.looked in
    let stays : Stays z k c.read.new.seat.me.0 = looked_stays z (ChoosingOf 0) k _ _ look in
    let is = image_is z k c.read.new.seat.me.0 c.read_lock.new.seat.me.0 c.new-2.result c.new.result stays c.read_lock.ensures.stays (c.new-2.ensures ∙ c.read_lock.ensures.lock) (c.new.ensures ∙ c.read_cells.ensures.cells) in
    let size : IsSize z.layout = subst (λ (s : Setup). IsSize s.layout) same c.setup-setup.ensures.seat_view.size in
    let limited : (1 ≤ z.limit) × (z.limit ≤ 2 ^ 62) = subst (λ (s : Setup). (1 ≤ s.limit) × (s.limit ≤ 2 ^ 62)) same c.setup-setup.ensures.seat_view.limited in
    subst IsLawfulImage (sym is) (lawful_end z k.view.seen look.run size limited)
