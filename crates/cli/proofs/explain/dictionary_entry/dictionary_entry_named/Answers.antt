-- the name of each entry is that of a listed one
use Rattle.cli.proofs.Listed.{nowhere}
use Rattle.cli.proofs.explain.dictionary_entry.dictionary_entry_named.Goals as goal

pub returns-clause-none : goal.returns-clause-none
returns-clause-none c = λ none. nowhere c.args.name.now (c.among.ensures.none none)
