use Rattle.robust_tests.proofs.sweeps.wrong_at.Given as goal

-- the ledger of the blank that was just made
abbrev pub ghosts-wrong_on_plain : goal.ghosts-wrong_on_plain
ghosts-wrong_on_plain g a = record { name = a.blank.name; parts = a.blank.parts }
