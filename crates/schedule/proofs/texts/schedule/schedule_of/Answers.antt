use Rattle.std.proofs.Common.{◌≡◌, Ok, refl}
use Rattle.schedule.proofs.TextsCommon.{schedule_at, scheduled_with}
use Rattle.schedule.proofs.Schedules.{schedule_takes}
use Rattle.schedule.proofs.texts.schedule.schedule_of.Goals as goal

pub invariant_of-result : goal.invariant_of-result
invariant_of-result c =
    let read : schedule_at c.args.text.now ≡ Ok (scheduled_with (c.in_ok-head.head, c.in_ok-head.lines.items)) = rw c.in_ok-head.ensures refl in
    (schedule_takes c.args.text.now _ read).1
