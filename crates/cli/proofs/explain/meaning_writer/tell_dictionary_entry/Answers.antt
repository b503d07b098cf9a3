use Rattle.cli.proofs.Telling.{written}
use Rattle.cli.proofs.explain.meaning_writer.tell_dictionary_entry.Goals as goal

pub returns : goal.returns
returns g c = (
  c.meaning_of-meaning.result,
  c.meaning_of-meaning.ensures,
  written _ _ _ c.tell.result c.tell.ensures.reports c.tell.ensures.beginning c.tell.ensures.failed,
)
