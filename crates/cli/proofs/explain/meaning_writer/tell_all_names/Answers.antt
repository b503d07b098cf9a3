use Rattle.cli.proofs.Telling.{written}
use Rattle.cli.proofs.explain.meaning_writer.tell_all_names.Goals as goal

pub returns : goal.returns
returns g c = written _ _ _ c.tell_names.result c.tell_names.ensures.reports c.tell_names.ensures.beginning c.tell_names.ensures.failed
