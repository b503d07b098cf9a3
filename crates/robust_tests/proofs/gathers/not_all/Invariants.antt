use Rattle.robust_tests.proofs.gathers.not_all.Given as goal

-- the ledger of the blank that was just made
abbrev pub ghosts-misses_some : goal.ghosts-misses_some
ghosts-misses_some g a = record { name = a.blank.name; parts = a.blank.parts }
