use Rattle.std.proofs.Common.{◌≡◌, length}
use Rattle.schedule.specs.Tapes.{WritesFront}
use Rattle.schedule.proofs.texts.device.write_all.Given as goal

abbrev pub invariant-loop-rest : goal.invariant-loop-rest
invariant-loop-rest g l = record {
  front : WritesFront (g.W.Sink.tape l.initial.sink).taken (g.W.Sink.tape l.sink).taken l.bytes l.rest;
  fine : (g.W.Sink.tape l.sink).failures ≡ (g.W.Sink.tape l.initial.sink).failures;
}

abbrev pub decreases-loop-rest : goal.decreases-loop-rest
decreases-loop-rest g l = length l.rest
