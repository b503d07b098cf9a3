use Rattle.std.proofs.Common.{◌≡◌, ◌<◌, All, sym, ◌∙◌, subst}
use Rattle.one_lock.proofs.Common.{Layout, new_seats, AreAll}
use Rattle.std.proofs.lemmas.Result.{IfOk-weaker}
use Rattle.rmeworld.proofs.Beginning.{sized}
use Rattle.one_lock.proofs.Seats.{new_arena, new_all}
use Rattle.one_lock.proofs.arena.Arena.of_sizes.Goals as goal

pub returns-clause-arena : goal.returns-clause-arena
returns-clause-arena g c =
    let l : Layout = record { procs = c.args.procs; cap = c.args.cap; width = c.args.width } in
    let parts = sym c.requires.each ∙ c.requires.parts in
    IfOk-weaker c.members_of.result (λ members. members.items ≡ new_seats l c.args.limit l.procs) (λ members. All (λ m. m.layout.procs ≡ g.L.Ledger.parts) members.items)
    (λ members made. new_arena l c.args.limit g.L.Ledger.parts members.items made parts) c.members_of.ensures.ok

pub returns-clause-all : goal.returns-clause-all
returns-clause-all g c =
    let l : Layout = record { procs = c.args.procs; cap = c.args.cap; width = c.args.width } in
    let parts = sym c.requires.each ∙ c.requires.parts in
    let some = subst (λ k. 0 < k) parts (sized l c.args.limit c.in_ok-world.ensures.accepted).0.procs in
    IfOk-weaker c.members_of.result (λ members. members.items ≡ new_seats l c.args.limit l.procs) (λ members. AreAll g.L.Ledger.parts members.items)
    (λ members made. new_all l c.args.limit g.L.Ledger.parts members.items made parts some) c.members_of.ensures.ok

pub members_of-requires-clause-size : goal.members_of-requires-clause-size
members_of-requires-clause-size g c =
    let l : Layout = record { procs = c.args.procs; cap = c.args.cap; width = c.args.width } in
    (sized l c.args.limit c.in_ok-world.ensures.accepted).0

pub members_of-requires-clause-limited : goal.members_of-requires-clause-limited
members_of-requires-clause-limited g c =
    let l : Layout = record { procs = c.args.procs; cap = c.args.cap; width = c.args.width } in
    (sized l c.args.limit c.in_ok-world.ensures.accepted).1.0
