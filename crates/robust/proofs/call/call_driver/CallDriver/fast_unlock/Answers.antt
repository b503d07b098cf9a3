use Rattle.std.proofs.Common.{Ok, refl, sym, subst}
use Rattle.robust.proofs.CallCommon.{Unlocked, Unlock, Seated, began, called_counts, EndsIn}
use Rattle.robust.proofs.FastCalls.{unlock_served}
use Rattle.robust.proofs.call.call_driver.CallDriver.fast_unlock.Goals as goal

pub returns-clause-served : goal.returns-clause-served
returns-clause-served g c =
    let x = c.args.self.now in
    let ends = subst (λ (u : Seated). EndsIn (began x Unlock).seat_view 2 Unlocked u.seat_view) (sym c.self.view_is) c.go_out.ensures.ends in
    unlock_served x c.self.inside.port _ _ c.go_out.ensures.seat_view ends c.count_without_crash.ensures

pub returns-clause-table : goal.returns-clause-table
returns-clause-table g c =
    let x = c.args.self.now in
    called_counts x (began x Unlock) (record { seat_view = c.self.inside.port; steps = 2 }) Unlock _ _ (Ok Unlocked) refl c.go_out.ensures.seat_view (returns-clause-served g c)

pub returns-clause-seat : goal.returns-clause-seat
returns-clause-seat g c =
    let r = (returns-clause-served g c).1.calls in
    λ i. (r.table i, r.setup i, r.by i)
