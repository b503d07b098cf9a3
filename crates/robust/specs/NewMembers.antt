-- What the making of a running lock gives.
use Rattle.std.specs.Prelude.{ℕ, List, map}
use Rattle.atomic_table.specs.Seated.{TableId}
use Rattle.table_runs.specs.declared.setup.Setup.{Setup}
use Rattle.table_runs.specs.Rule.{count_from}
use Rattle.table_runs.specs.SeatView.{new_seat_view}
use Rattle.table_runs.specs.WorkingMembers.{Seated}

-- a member before any step
abbrev pub fresh_member : TableId → Setup → ℕ → Seated
fresh_member t s p = record { seat_view = new_seat_view t s p; steps = 0 }

-- a member for each process
abbrev pub fresh_members : TableId → Setup → List Seated
fresh_members t s = map (fresh_member t s) (count_from 0 s.layout.procs)
