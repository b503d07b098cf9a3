use Rattle.std.proofs.Common.{Option, subst, sym}
use Rattle.cli.specs.Report.{list_of}
use Rattle.cli.specs.declared.explain.dictionary_entry.DictionaryEntry.{DictionaryEntry}
use Rattle.cli.specs.declared.explain.dictionary_entry.TheConstants.{ENTRIES}
use Rattle.commands.specs.Commands.{ExplainEnds}
use Rattle.commands.proofs.command.explain_command.Goals as goal

pub returns-in-Some-clause-ends : goal.returns-in-Some-clause-ends
returns-in-Some-clause-ends g c =
    let reports = c.tell_dictionary_entry.ensures in
    subst (λ (entry : Option DictionaryEntry). ExplainEnds entry (g.W.Sink.tape c.args.w.now) (g.W.Sink.tape c.tell_dictionary_entry.new.w) c.ending_after.result) (sym c.in-Some.is)
    (reports.0, reports.1, c.ending_after.ensures.prints _ _ _ reports.2, c.ending_after.ensures.failed)

pub returns-in-Some-clause-ended : goal.returns-in-Some-clause-ended
returns-in-Some-clause-ended g c = c.ending_after.ensures.ended _ _ _ c.tell_dictionary_entry.ensures.2

pub returns-in-None-clause-ends : goal.returns-in-None-clause-ends
returns-in-None-clause-ends g c =
    subst (λ (entry : Option DictionaryEntry). ExplainEnds entry (g.W.Sink.tape c.args.w.now) (g.W.Sink.tape c.tell_all_names.new.w) c.ending_after-in-None.result) (sym c.in-None.is)
    (c.ending_after-in-None.ensures.prints _ _ (list_of ENTRIES) c.tell_all_names.ensures, c.ending_after-in-None.ensures.failed)

pub returns-in-None-clause-ended : goal.returns-in-None-clause-ended
returns-in-None-clause-ended g c = c.ending_after-in-None.ensures.ended _ _ (list_of ENTRIES) c.tell_all_names.ensures
