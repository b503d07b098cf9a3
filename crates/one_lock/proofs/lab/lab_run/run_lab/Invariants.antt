use Rattle.one_lock.proofs.LabCommon.{setup_of}
use Rattle.std.specs.Prelude.{Some}
use Rattle.one_lock.proofs.lab.lab_run.run_lab.Given as goal

-- the ledger of the blank that was just made
abbrev pub ghosts-run-L-Ledger : goal.ghosts-run-L-Ledger
ghosts-run-L-Ledger g a = record { name = a.blank.name; parts = a.blank.parts }

-- the sizes of the lab
abbrev pub ghosts-run-S-Sizes : goal.ghosts-run-S-Sizes
ghosts-run-S-Sizes g a = record { named = Some (setup_of a.spec) }
