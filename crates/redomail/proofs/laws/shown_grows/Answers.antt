use Rattle.redomail.proofs.Stands.{shown_grows}
use Rattle.redomail.proofs.laws.shown_grows.Goals as goal

pub returns : goal.returns
returns c = shown_grows
