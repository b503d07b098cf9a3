use Rattle.std.proofs.Common.{◌≡◌, Ok, refl}
use Rattle.schedule.proofs.TextsCommon.{traced_with, trace_at}
use Rattle.schedule.proofs.Traces.{trace_takes}
use Rattle.schedule.proofs.texts.trace.trace_of.Goals as goal

pub invariant_of-result : goal.invariant_of-result
invariant_of-result c =
    let read : trace_at c.args.text.now ≡ Ok (traced_with (c.in_ok-head.head, c.in_ok-head.deeds.items)) = rw c.in_ok-head.ensures refl in
    (trace_takes c.args.text.now _ read).1
