use Rattle.std.proofs.Common.{◌≡◌, ◌<◌, ◌≤◌, ℕ, vec_len, vec_capacity, slice_index_or}
use Rattle.rmeworld.proofs.Common.{resting, absent_machine}
use Rattle.rmeworld.proofs.world.all_at_rest.Given as goal

abbrev pub invariant-loop-index : goal.invariant-loop-index
invariant-loop-index l =
    record {
      length : vec_len l.processes ≡ l.index;
      room : l.layout.procs ≤ vec_capacity l.processes;
      each : (p : ℕ) → p < l.index → slice_index_or l.processes.items p absent_machine ≡ resting l.layout l.limit p;
    }
