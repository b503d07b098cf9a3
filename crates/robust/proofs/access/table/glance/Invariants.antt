use Rattle.robust.proofs.AccessCommon.{glance_step}
use Rattle.robust.proofs.access.table.glance.Given as goal

abbrev pub ghosts-load_named : goal.ghosts-load_named
ghosts-load_named a = record { step = glance_step a.word; value = 0 }
