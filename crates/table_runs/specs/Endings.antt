-- How a worker of a laboratory ended, and the fault that the lab answers.
use Rattle.std.specs.Prelude.{ℕ, Option, Some, None}
use Rattle.table_runs.specs.declared.lab.lab_fault.LabFault.{LabFault}
use Rattle.table_runs.specs.declared.lab.lab_fault.LabFault.TheVariants.{Member, Reply}
use Rattle.table_runs.specs.declared.lab.worker_end.WorkerEnd.{WorkerEnd}
use Rattle.table_runs.specs.declared.lab.worker_end.WorkerEnd.TheVariants.{AllSent, Fault, Refused}

-- the fault of worker p, by how it ended
abbrev pub fault_by : ℕ → WorkerEnd → Option LabFault
fault_by p AllSent = None
fault_by p (Fault fault) = Some (Member p fault)
fault_by p (Refused reply) = Some (Reply p reply)
