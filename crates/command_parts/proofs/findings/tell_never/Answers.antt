use Rattle.std.proofs.Common.{append_assoc}
use Rattle.command_parts.proofs.findings.tell_never.Goals as goal

pub returns-clause-prints : goal.returns-clause-prints
returns-clause-prints g c = simp append_assoc c.tell_none.ensures.prints
