use Rattle.std.proofs.Common.{take}
use Rattle.schedule.specs.Tapes.{Writes}
use Rattle.cli.specs.Report.{list_of}
use Rattle.cli.proofs.explain.meaning_writer.tell_names.Given as goal

abbrev pub invariant-loop-dictionary_entry : goal.invariant-loop-dictionary_entry
invariant-loop-dictionary_entry g l =
    Writes (g.W.Sink.tape l.initial.w) (g.W.Sink.tape l.w) (list_of (take l.dictionary_entry-index l.dictionary_entries))
