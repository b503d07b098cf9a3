use Rattle.std.proofs.Common.{◌≡◌, vec_len, map}
use Rattle.std.specs.List.{range_with_len}
use Rattle.lock_commands.specs.Gates.{gate_of}
use Rattle.lock_commands.proofs.run_command.gates_of.Given as goal

abbrev pub invariant-loop-p : goal.invariant-loop-p
invariant-loop-p l = (l.gates.items ≡ map (gate_of l.args) (range_with_len 0 l.p)) × (vec_len l.gates ≡ l.p)
