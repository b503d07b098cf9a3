-- The crash plan of one more sender.
use Rattle.std.proofs.Common.{◌≡◌, ℕ, ◌+◌, [], ◌∷◌, ◌++◌, map, arith}
use Rattle.std.specs.List.{range_with_len}
use Rattle.std.proofs.lemmas.List.FromFn.{map-range_with_len_more}
use Rattle.cli.specs.declared.arguments.args.RunArgs.{RunArgs}
use Rattle.lock_commands.specs.Gates.{gate_of}

pub gates_more : (args : RunArgs) (n : ℕ) → map (gate_of args) (range_with_len 0 (n + 1)) ≡ map (gate_of args) (range_with_len 0 n) ++ gate_of args n ∷ []
gates_more args n = map-range_with_len_more (gate_of args) 0 n n (omega arith)
