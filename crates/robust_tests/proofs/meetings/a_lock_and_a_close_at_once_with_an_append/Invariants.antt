use Rattle.robust_tests.proofs.meetings.a_lock_and_a_close_at_once_with_an_append.Given as goal

-- the ledger of the blank that was just made
abbrev pub ghosts-meets_on_plain : goal.ghosts-meets_on_plain
ghosts-meets_on_plain g a = record { name = a.blank.name; parts = a.blank.parts }
