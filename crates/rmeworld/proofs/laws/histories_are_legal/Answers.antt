use Rattle.rmeworld.proofs.Keeping.{legal_from_new, legal_from_image}
use Rattle.rmeworld.proofs.laws.histories_are_legal.Goals as goal

pub returns-clause-new : goal.returns-clause-new
returns-clause-new c = legal_from_new

pub returns-clause-later : goal.returns-clause-later
returns-clause-later c = legal_from_image
