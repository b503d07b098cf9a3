-- What workers that have ended hand back.
use Rattle.std.specs.Prelude.{ℕ, None}
use Rattle.atomic_table.specs.Seated.{TableId}
use Rattle.table_runs.specs.declared.setup.Setup.{Setup}
use Rattle.table_runs.specs.declared.lab.spec.Spec.{Spec}
use Rattle.robust.specs.declared.lab.worker.Done.{Done}
use Rattle.robust.specs.declared.lab.worker.HandsBack.{HandsBack}
use Rattle.robust.specs.LabFaults.{EndsSo}
use Rattle.table_runs.specs.SeatView.{own_of}
use Rattle.table_runs.specs.Ruins.{AreInWorkerOrder}
use Rattle.robust.specs.WorkerSends.{SendsOnly}
use Rattle.robust.specs.MemberLaws.{seat_of}

-- the seat of the member that a worker has handed back
abbrev pub seat_done : Done → TableId × Setup × ℕ
seat_done done = seat_of done.member

-- the seat of the member that a worker at work will hand back
abbrev pub seat_promised : HandsBack → TableId × Setup × ℕ
seat_promised promise = seat_of promise.0.value

-- the sizes of a lab's arena
abbrev pub sizes_of : Spec → Setup
sizes_of s = record { layout = record { procs = s.procs; cap = s.cap; width = s.width }; limit = s.limit }

-- A worker that has ended has appended only messages of its own, has ended in one of a worker's ways, and has started its
-- calls in order.
abbrev pub HasWorked : Spec → Done → Type 0
HasWorked s done = SendsOnly s.width s.messages done.member × EndsSo s done.member done.ending × AreInWorkerOrder None (own_of done.member.seat_view)
