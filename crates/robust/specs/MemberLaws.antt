-- What a member keeps, whatever call it makes.
use Rattle.std.specs.Prelude.{ℕ, List, map}
use Rattle.atomic_table.specs.Seated.{TableId}
use Rattle.table_runs.specs.declared.setup.Setup.{Setup}
use Rattle.table_runs.specs.WorkingMembers.{Seated}

-- which seat it is: its table, the sizes, and the process
abbrev pub seat_of : Seated → TableId × Setup × ℕ
seat_of x = (x.seat_view.table, x.seat_view.setup, x.seat_view.by)

-- the seats of these members
abbrev pub seats_of : List Seated → List (TableId × Setup × ℕ)
seats_of xs = map seat_of xs
