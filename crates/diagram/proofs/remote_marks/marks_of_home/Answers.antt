use Rattle.std.proofs.Common.{refl}
use Rattle.diagram.proofs.RemoteMarks.{place_among}
use Rattle.diagram.proofs.remote_marks.marks_of_home.Goals as goal

pub returns : goal.returns
returns c = λ declarations run copies placed.
    let place = place_among declarations c.args.p c.args.access.address placed in
    rw (
      c.is_remote.ensures declarations run copies place.0 place.1,
      c.is_remote-2.ensures declarations run copies place.0 place.1,
      c.is_remote-3.ensures declarations run copies place.0 place.1,
    ) refl
