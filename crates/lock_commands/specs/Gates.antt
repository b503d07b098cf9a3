-- The crash plans of a run's senders.
use Rattle.std.specs.Prelude.{ℕ, ◌+◌, ◌%◌, ◌^◌, List, map}
use Rattle.std.specs.List.{range_with_len}
use Rattle.rand_core.specs.Pcg32Seed.{pcg32_seed}
use Rattle.rand_pcg.specs.Pcg.{pcg32_of_seed}
use Rattle.crash_plans.specs.Plans.{SeededState, no_askings}
use Rattle.cli.specs.declared.arguments.args.RunArgs.{RunArgs}

-- the crashes of sender p are drawn from the seed and p, modulo 2^64
abbrev pub gate_of : RunArgs → ℕ → SeededState
gate_of args p = record { generator = pcg32_of_seed (pcg32_seed 16 ((args.seed + p) % 2 ^ 64)); per_mille = args.crash; askings = no_askings }

-- the crash plans of all senders
abbrev pub gates_for : RunArgs → List SeededState
gates_for args = map (gate_of args) (range_with_len 0 args.procs)
