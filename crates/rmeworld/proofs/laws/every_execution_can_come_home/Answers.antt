use Rattle.rmeworld.proofs.HomeState.{from_first, from_crashed, from_image, mended_first}
use Rattle.rmeworld.proofs.laws.every_execution_can_come_home.Goals as goal

pub returns-clause-new : goal.returns-clause-new
returns-clause-new c = from_first

pub returns-clause-later : goal.returns-clause-later
returns-clause-later c = from_crashed

pub returns-clause-image : goal.returns-clause-image
returns-clause-image c = from_image

pub returns-clause-mended : goal.returns-clause-mended
returns-clause-mended c = mended_first
