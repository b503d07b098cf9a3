-- How a hunt on an algorithm ends that has found nothing.
use Rattle.std.proofs.Common.{◌≡◌, ◌⊎◌, ◌↔◌, ℕ, ◌+◌, ◌<◌, ◌≤◌, Bool, true, false, Option, Some, None, IfSome, Result, Err, IsErrOf, inl, inr, refl, sym, subst, arith}
use Rattle.algorithms.specs.Worlds.{new_refusal}
use Rattle.algorithms.specs.declared.first_values.InitializedAlgorithm.{InitializedAlgorithm}
use Rattle.algorithms.specs.declared.refusal.AlgorithmRefusal.{AlgorithmRefusal}
use Rattle.algorithm_hunts.specs.declared.hunt_fault.AlgorithmHuntFault.{AlgorithmHuntFault}
use Rattle.algorithm_hunts.specs.declared.hunt_fault.AlgorithmHuntFault.TheVariants.{BadRounds, BadSteps, Refused, OutOfMemory}
use Rattle.algorithm_hunts.specs.Hunted.{IsFoundByHunt}
use Rattle.schedule.specs.Schedules.{Scheduled}
use Rattle.schedule.specs.Tapes.{Tape}
use Rattle.cli.specs.declared.arguments.args.AlgorithmHuntArgs.{AlgorithmHuntArgs}
use Rattle.algorithm_commands.specs.AlgorithmHunts.{AlgorithmHuntFits, HuntsAlgorithm, IsWrittenFor, fault_of_hunt}

no_rounds : (args : AlgorithmHuntArgs) → (args.rounds ≡ 0) ⊎ (10000 < args.first_round + args.rounds) → AlgorithmHuntFits args → ⊥
no_rounds args (inl none) fits = omega (arith, none, fits.0.0.0.0)
no_rounds args (inr more) fits = omega (arith, more, fits.1)

no_steps : (args : AlgorithmHuntArgs) → (args.moves.steps ≡ 0) ⊎ (10000 < args.moves.steps) → AlgorithmHuntFits args → ⊥
no_steps args (inl none) fits = omega (arith, none, fits.0.0.1)
no_steps args (inr more) fits = omega (arith, more, fits.0.0.2)

pub no_world : (o : Option AlgorithmRefusal) (e : AlgorithmRefusal) → o ≡ Some e → o ≡ None → ⊥
no_world None e some none = cc
no_world (Some x) e some none = cc

-- the hunt has found nothing, and why not
pub not_hunted : {A : Type 0} (a : InitializedAlgorithm) (args : AlgorithmHuntArgs) (now : Tape) (found : Result A AlgorithmHuntFault) (fault : AlgorithmHuntFault)
    → found ≡ Err fault → (IsErrOf found BadRounds ↔ ((args.rounds ≡ 0) ⊎ (10000 < args.first_round + args.rounds)))
    → (IsErrOf found BadSteps ↔ ((0 < args.rounds) × (args.first_round + args.rounds ≤ 10000) × ((args.moves.steps ≡ 0) ⊎ (10000 < args.moves.steps))))
    → ((e : AlgorithmRefusal) → IsErrOf found (Refused e) → new_refusal a args.procs args.limit ≡ Some e)
    → HuntsAlgorithm a args now now (Err (fault_of_hunt fault))
not_hunted a args now found BadRounds is rounds steps refused =
    inr (inr (inl (refl, record { sizes = inl (no_rounds args (rounds.0 is)); silent = record { taken = refl; fine = refl } })))
not_hunted a args now found BadSteps is rounds steps refused =
    inr (inr (inl (refl, record { sizes = inl (no_steps args (steps.0 is).2); silent = record { taken = refl; fine = refl } })))
not_hunted a args now found (Refused e) is rounds steps refused =
    inr (inr (inl (refl, record { sizes = inr (no_world (new_refusal a args.procs args.limit) e (refused e is)); silent = record { taken = refl; fine = refl } })))
not_hunted a args now found OutOfMemory is rounds steps refused = inr (inr (inr (refl, record { taken = refl; fine = refl })))

-- nothing is written only where nothing is found
pub nothing_found : (shrink : Bool) (a : InitializedAlgorithm) (answer : Option Scheduled) → IsWrittenFor shrink a answer None → None ≡ answer
nothing_found false a answer is = is
nothing_found true a None is = is
nothing_found true a (Some found) is = absurd is

-- a schedule that is found, for which this one is written
pub record IsFoundFor (args : AlgorithmHuntArgs) (a : InitializedAlgorithm) (answer : Option Scheduled) (written : Scheduled) : Type 0 where
  pub schedule : Scheduled
  pub found : IsFoundByHunt a args.procs args.limit args.moves.steps schedule
  pub exact : Some schedule ≡ answer
  pub of_it : IsWrittenFor args.shrink a (Some schedule) (Some written)

some_answer : (args : AlgorithmHuntArgs) (shrink : Bool) (a : InitializedAlgorithm) (answer : Option Scheduled) (written : Scheduled) → args.shrink ≡ shrink → IsWrittenFor shrink a answer (Some written)
    → IfSome answer (IsFoundByHunt a args.procs args.limit args.moves.steps) → IsFoundFor args a answer written
some_answer args false a answer written asked is found = record {
  schedule = written;
  found = subst (λ o. IfSome o (IsFoundByHunt a args.procs args.limit args.moves.steps)) (sym is) found;
  exact = is;
  of_it = subst (λ b. IsWrittenFor b a (Some written) (Some written)) (sym asked) refl;
}
some_answer args true a None written asked is found = absurd (cc is)
some_answer args true a (Some schedule) written asked is found = record {
  schedule = schedule;
  found = found;
  exact = refl;
  of_it = subst (λ b. IsWrittenFor b a (Some schedule) (Some written)) (sym asked) is;
}

pub something_found : (args : AlgorithmHuntArgs) (a : InitializedAlgorithm) (answer : Option Scheduled) (written : Scheduled) → IsWrittenFor args.shrink a answer (Some written)
    → IfSome answer (IsFoundByHunt a args.procs args.limit args.moves.steps) → IsFoundFor args a answer written
something_found args a answer written is found = some_answer args args.shrink a answer written refl is found
