-- The help of a session.
use Rattle.std.specs.Prelude.{List, [], ◌∷◌, ◌++◌, ℕ, codes}

-- a line of it
abbrev pub help_line : List ℕ → List ℕ
help_line text = text ++ 10 ∷ []

-- what can be asked for
unfoldable pub help_text : List ℕ
help_text =
    help_line (codes "a line of a schedule: lock P, step P K, crash P, unlock P, recover P, withdraw P")
    ++ help_line (codes "                      of the built-in lock also: consistent P, append P SEQ VALUE, ..")
    ++ help_line (codes "undo         go back to before the last line")
    ++ help_line (codes "redo         take the line again that was undone last")
    ++ help_line (codes "to answer P  take steps of P until its call is answered")
    ++ help_line (codes "save FILE    write the schedule so far to a file, for replay")
    ++ help_line (codes "help, quit")
