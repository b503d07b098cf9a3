use Rattle.rmeworld.proofs.FromImages.{image_global_state, started_later}
use Rattle.rmeworld.proofs.Worlds.{new_global_state}
use Rattle.rmeworld.proofs.laws.worlds_begin.Goals as goal

pub returns-clause-new : goal.returns-clause-new
returns-clause-new c = new_global_state

pub returns-clause-image : goal.returns-clause-image
returns-clause-image c = image_global_state

pub returns-clause-judged : goal.returns-clause-judged
returns-clause-judged c = started_later
