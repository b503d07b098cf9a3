use Rattle.progress.proofs.WorldWaiting.{world_first, world_crashed, world_image}
use Rattle.progress.proofs.laws.waiting_in_a_world_is_bounded.Goals as goal

pub returns-clause-new : goal.returns-clause-new
returns-clause-new c = λ l limit p execution below reports. world_first l limit p execution below reports

pub returns-clause-later : goal.returns-clause-later
returns-clause-later c = λ l limit p words cells execution below lawful reports. world_crashed l limit p words cells execution below lawful reports

pub returns-clause-image : goal.returns-clause-image
returns-clause-image c = λ i p execution lawful below reports. world_image i p execution lawful below reports
