use Rattle.std.proofs.Common.{◌++◌, ◌∙◌, [], unwrap_or}
use Rattle.schedule.proofs.Heading.{replays_between}
use Rattle.schedule.proofs.replays.replay_text.replay_to_writer.Goals as goal

pub returns-clause-known : goal.returns-clause-known
returns-clause-known g c = λ text remaining known.
    let source = c.new-source.result in
    let read = c.replay-answer.new.source in
    let sink = c.new-sink.result in
    let written = c.replay-answer.new.w in
    replays_between text (unwrap_or (g.W.Write.contents c.args.writer) [])
    (record { given = source.given.items; ended = source.ended; failures = source.failures })
    (record { given = read.given.items; ended = read.ended; failures = read.failures })
    (record { taken = unwrap_or (g.W.Write.contents sink.first.value) [] ++ sink.taken.items; failures = sink.failures })
    (record { taken = unwrap_or (g.W.Write.contents written.first.value) [] ++ written.taken.items; failures = written.failures })
    (g.W.Write.contents c.into_inner.result) c.replay-answer.result c.new-sink.ensures (c.into_inner.ensures known)
    (c.replay-answer.ensures.known text (c.new-source.ensures.coming ∙ remaining))
