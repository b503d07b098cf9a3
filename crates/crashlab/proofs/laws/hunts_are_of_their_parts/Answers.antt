use Rattle.std.proofs.Common.{refl}
use Rattle.crashlab.proofs.hunts.Shares.{both}
use Rattle.crashlab.proofs.laws.hunts_are_of_their_parts.Goals as goal

pub returns-clause-parts : goal.returns-clause-parts
returns-clause-parts c variant asked first rounds more = both variant asked first rounds more

pub returns-clause-whole : goal.returns-clause-whole
returns-clause-whole c variant seed rounds steps = refl
