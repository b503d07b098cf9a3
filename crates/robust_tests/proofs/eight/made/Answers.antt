use Rattle.std.proofs.Common.{ap}
use Rattle.robust.specs.MemberLaws.{seats_of}
use Rattle.robust_tests.proofs.eight.made.Goals as goal

pub returns : goal.returns
returns g c =
    let m = c.in-Ok.ensures.made in
    (m.0, record { layout = record { procs = 8; cap = 1; width = 1 }; limit = 1000000 }, ap seats_of m.1)
