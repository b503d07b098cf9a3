use Rattle.redomail.proofs.Stands.{shown_entries_stand}
use Rattle.redomail.proofs.laws.shown_entries_stand.Goals as goal

pub returns : goal.returns
returns c = shown_entries_stand
