use Rattle.std.proofs.Common.{◌++◌, ◌∷◌, [], List, ℕ, take, sym, subst}
use Rattle.schedule.proofs.Playing.{begins_further, begins_wider}
use Rattle.schedule.specs.Tapes.{Begins}
use Rattle.cli.specs.Names.{name_of}
use Rattle.cli.specs.Report.{list_of}
use Rattle.cli.specs.declared.explain.dictionary_entry.DictionaryEntry.TheVariants.{Fault}
use Rattle.schedule.specs.declared.lines.fault.LineFault.TheVariants as lines
use Rattle.cli.proofs.Telling.{on_err, lines_around}
use Rattle.cli.proofs.explain.meaning_writer.tell_names.Goals as goal

pub returns-in_err-tell_name-clause-beginning : goal.returns-in_err-tell_name-clause-beginning
returns-in_err-tell_name-clause-beginning g c =
    on_err c.from_residual.result _
    (subst (λ (text : List ℕ). Begins (g.W.Sink.tape c.args.w.now).taken (g.W.Sink.tape c.tell_name.new.w).taken text)
    (sym (lines_around (λ e. name_of e ++ 10 ∷ []) c.args.dictionary_entries.now c.loop-dictionary_entry.dictionary_entry-index (Fault lines.NoHeader) c.loop-dictionary_entry-test.true))
    (begins_further _ _ _ (list_of (take c.loop-dictionary_entry.dictionary_entry-index c.args.dictionary_entries.now)) _ c.loop-dictionary_entry.invariant.taken
    (begins_wider _ _ _ _ c.in_err-tell_name.ensures.beginning)))
