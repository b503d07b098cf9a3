-- How the count of costs on random schedules ends that has counted nothing.
use Rattle.std.proofs.Common.{◌≡◌, ◌⊎◌, ◌↔◌, ◌<◌, ◌≤◌, Option, Some, None, Result, Err, IsErrOf, inl, inr, refl, arith}
use Rattle.algorithms.specs.Worlds.{new_refusal}
use Rattle.algorithms.specs.declared.first_values.InitializedAlgorithm.{InitializedAlgorithm}
use Rattle.algorithms.specs.declared.refusal.AlgorithmRefusal.{AlgorithmRefusal}
use Rattle.algorithm_hunts.specs.declared.hunt_fault.AlgorithmHuntFault.{AlgorithmHuntFault}
use Rattle.algorithm_hunts.specs.declared.hunt_fault.AlgorithmHuntFault.TheVariants.{BadRounds, BadSteps, Refused, OutOfMemory}
use Rattle.schedule.specs.Tapes.{Tape}
use Rattle.cli.specs.Sizes.{IsHuntSize}
use Rattle.cli.specs.declared.arguments.args.MeanCostArgs.{MeanCostArgs}
use Rattle.algorithm_commands.specs.AlgorithmHunts.{fault_of_hunt}
use Rattle.algorithm_commands.specs.AlgorithmMeanCosts.{CountsAlgorithm}
use Rattle.algorithm_commands.proofs.AlgorithmHunts.{no_world}

no_rounds : (args : MeanCostArgs) → (args.rounds ≡ 0) ⊎ (10000 < args.rounds) → IsHuntSize args.rounds args.steps → ⊥
no_rounds args (inl none) fits = omega (arith, none, fits.0.0)
no_rounds args (inr more) fits = omega (arith, more, fits.0.1)

no_steps : (args : MeanCostArgs) → (args.steps ≡ 0) ⊎ (10000 < args.steps) → IsHuntSize args.rounds args.steps → ⊥
no_steps args (inl none) fits = omega (arith, none, fits.1)
no_steps args (inr more) fits = omega (arith, more, fits.2)

-- nothing was counted, and why not
pub not_counted : {A : Type 0} (a : InitializedAlgorithm) (args : MeanCostArgs) (now : Tape) (counted : Result A AlgorithmHuntFault) (fault : AlgorithmHuntFault)
    → counted ≡ Err fault → (IsErrOf counted BadRounds ↔ ((args.rounds ≡ 0) ⊎ (10000 < args.rounds)))
    → (IsErrOf counted BadSteps ↔ ((0 < args.rounds) × (args.rounds ≤ 10000) × ((args.steps ≡ 0) ⊎ (10000 < args.steps))))
    → ((e : AlgorithmRefusal) → IsErrOf counted (Refused e) → new_refusal a args.procs args.limit ≡ Some e)
    → CountsAlgorithm a args now now (Err (fault_of_hunt fault))
not_counted a args now counted BadRounds is rounds steps refused =
    inr (inl (refl, record { sizes = inl (no_rounds args (rounds.0 is)); silent = record { taken = refl; fine = refl } }))
not_counted a args now counted BadSteps is rounds steps refused =
    inr (inl (refl, record { sizes = inl (no_steps args (steps.0 is).2); silent = record { taken = refl; fine = refl } }))
not_counted a args now counted (Refused e) is rounds steps refused =
    inr (inl (refl, record { sizes = inr (no_world (new_refusal a args.procs args.limit) e (refused e is)); silent = record { taken = refl; fine = refl } }))
not_counted a args now counted OutOfMemory is rounds steps refused = inr (inr (refl, record { taken = refl; fine = refl }))
