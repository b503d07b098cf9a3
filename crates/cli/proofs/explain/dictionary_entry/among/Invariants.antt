use Rattle.std.proofs.Common.{◌≢◌, take, All}
use Rattle.cli.specs.Names.{name_of}
use Rattle.cli.proofs.explain.dictionary_entry.among.Given as goal

abbrev pub invariant-loop-dictionary_entry : goal.invariant-loop-dictionary_entry
invariant-loop-dictionary_entry l = All (λ dictionary_entry. name_of dictionary_entry ≢ l.name) (take l.dictionary_entry-index l.dictionary_entries)
