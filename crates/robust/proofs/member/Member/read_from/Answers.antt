use Rattle.std.proofs.Common.{◌∙◌}
use Rattle.table_runs.proofs.Glanced.{either_way}
use Rattle.robust.proofs.member.Member.read_from.Goals as goal

pub invariant_of-self : goal.invariant_of-self
invariant_of-self c = either_way _ _ _ c.read_from.result c.read_from.ensures.messages c.read_from.ensures.no_room (λ v a. a.start) (λ b. b.looks.start) ∙ c.self.invariant
