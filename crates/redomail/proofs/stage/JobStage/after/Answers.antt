use Rattle.redomail.specs.Stages.{StoresNothing}
use Rattle.std.proofs.Common.{subst}
use Rattle.redomail.proofs.stage.JobStage.after.Goals as goal

pub unreachable-requires : goal.unreachable-requires
unreachable-requires c = subst StoresNothing c.in-Write.is c.requires.asks
