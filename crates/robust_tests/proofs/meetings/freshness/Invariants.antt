use Rattle.robust_tests.proofs.meetings.freshness.Given as goal

-- the ledger of the blank that was just made
abbrev pub ghosts-both_append_on_plain : goal.ghosts-both_append_on_plain
ghosts-both_append_on_plain g a = record { name = a.blank.name; parts = a.blank.parts }
