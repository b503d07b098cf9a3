use Rattle.rmeworld.proofs.HomeState.{enter_first, enter_crashed, enter_image}
use Rattle.rmeworld.proofs.laws.every_process_can_enter.Goals as goal

pub returns-clause-new : goal.returns-clause-new
returns-clause-new c = enter_first

pub returns-clause-later : goal.returns-clause-later
returns-clause-later c = enter_crashed

pub returns-clause-image : goal.returns-clause-image
returns-clause-image c = enter_image
