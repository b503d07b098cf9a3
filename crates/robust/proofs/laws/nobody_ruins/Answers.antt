use Rattle.robust.proofs.Unruined.{nobody_ruins}
use Rattle.robust.proofs.laws.nobody_ruins.Goals as goal

pub returns : goal.returns
returns c = nobody_ruins c.messages_were_sent.ensures.ruined c.loads_tell.ensures
