use Rattle.schedule.proofs.ReplaysCommon.{line_at}
use Rattle.schedule.proofs.InPlace.{never_fails}
use Rattle.schedule.proofs.replays.play_in_place.play_next.Goals as goal

pub unreachable-requires : goal.unreachable-requires
unreachable-requires g c =
    let read = c.requires.read in
    never_fails (line_at c.args.width) read.0 c.args.text.now read.1 c.in_default.field-0 read.2 (c.in_default.ensures.fault read.0)
