use Rattle.std.proofs.Common.{◌≡◌, ◌∙◌, map, All}
use Rattle.robust.proofs.Common.{HasWorked, seat_done, seat_promised, seats_of}
use Rattle.robust.proofs.Worked.{if_both}
use Rattle.robust.proofs.lab.lab_run.fn.work_all.scope.Goals as goal

pub returns : goal.returns
returns g c =
    let started = c.in_ok-threads.ensures in
    let spec = c.captures.spec in
    if_both (λ all. map seat_done all.items ≡ map (λ h. seat_promised h.promise) c.in_ok-threads.threads.items) (λ all. All (HasWorked spec) all.items) (λ all. (map seat_done all.items ≡ seats_of c.captures.members.items) × All (HasWorked spec) all.items) c.join_all.result
    c.join_all.ensures.seats (c.join_all.ensures.worked spec started.spec) (λ all seats worked. (seats ∙ started.seats, worked))
