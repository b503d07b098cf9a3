-- The sizes of a run in range are those of a lab, and why a run has no tallies.
use Rattle.std.proofs.Common.{◌≡◌, ◌⊎◌, ℕ, ◌-◌, ◌*◌, ◌^◌, ◌≤◌, min, refl, inl, inr, arith, subst, sym}
use Rattle.std.proofs.Math.Nat.{min-eq_left, one-le-mul}
use Rattle.std.proofs.lemmas.Nat.{mul-le}
use Rattle.table_runs.specs.Lab.{IsBadSpec}
use Rattle.robust.specs.LabFaults.{EndsLab}
use Rattle.table_runs.specs.declared.lab.lab_fault.LabFault.{LabFault}
use Rattle.table_runs.specs.declared.lab.lab_fault.LabFault.TheVariants as of_lab
use Rattle.table_runs.specs.declared.lab.spec.Spec.{Spec}
use Rattle.cli.specs.declared.arguments.args.RunArgs.{RunArgs}
use Rattle.lock_commands.specs.Ends.{HasNoTallies, lab_for, fault_of_lab}
use Rattle.cli.specs.Sizes.{RunFits}
use Rattle.command_parts.specs.declared.fault.CommandFault.{CommandFault}

-- room for each message isn't more than a mailbox may have
room_fits : (p m : ℕ) → p ≤ 16 → m ≤ 4096 → min (p * m) (2 ^ 64 - 1) ≡ p * m
room_fits p m few some =
    let most = mul-le p m 16 4096 few some in
    min-eq_left (omega (arith, most))

pub fits_lab : (args : RunArgs) → RunFits args → IsBadSpec (lab_for args) args.procs → ⊥
fits_lab args fits (inl (inl none)) = omega (arith, fits.0.0, none)
fits_lab args fits (inl (inr more)) = omega (arith, fits.0.1, more)
fits_lab args fits (inr (inl (inl none))) = omega (arith, none)
fits_lab args fits (inr (inl (inr more))) = omega (arith, more)
fits_lab args fits (inr (inr (inl (inl none)))) =
    let room = room_fits args.procs args.messages fits.0.1 fits.1.1 in
    let some = one-le-mul fits.0.0 fits.1.0 in
    omega (arith, none, room, some)
fits_lab args fits (inr (inr (inl (inr more)))) =
    let room = room_fits args.procs args.messages fits.0.1 fits.1.1 in
    let most = mul-le args.procs args.messages 16 4096 fits.0.1 fits.1.1 in
    omega (arith, more, room, most)
fits_lab args fits (inr (inr (inr (inl (inl none))))) = omega (arith, fits.3, none)
fits_lab args fits (inr (inr (inr (inl (inr more))))) = omega (arith, fits.4, more)
fits_lab args fits (inr (inr (inr (inr (inl (inl none)))))) = omega (arith, fits.1.0, none)
fits_lab args fits (inr (inr (inr (inr (inl (inr more)))))) = omega (arith, fits.1.1, more)
fits_lab args fits (inr (inr (inr (inr (inr other))))) = other refl

-- the fault of a lab that has a gate for each sender
pub lab_fails : (args : RunArgs) (fault : LabFault) → (fault ≡ of_lab.BadSpec → IsBadSpec (lab_for args) args.procs)
    → (fault ≡ of_lab.BadSpec) ⊎ EndsLab (lab_for args) fault → HasNoTallies args (fault_of_lab fault)
lab_fails args of_lab.BadSpec bad why = λ fits. fits_lab args fits (bad refl)
lab_fails args of_lab.OutOfMemory bad why = tt
lab_fails args (of_lab.Member p fault) bad (inl is) = cc
lab_fails args (of_lab.Member p fault) bad (inr may) = may.0
lab_fails args (of_lab.Reply p reply) bad (inl is) = cc
lab_fails args (of_lab.Reply p reply) bad (inr may) = may.0

-- the same by what the calls of a run say
pub lab_fails_so : (args : RunArgs) (spec : Spec) (gates : ℕ) (fault : LabFault) (reports : CommandFault) → spec ≡ lab_for args → gates ≡ args.procs
    → reports ≡ fault_of_lab fault → (fault ≡ of_lab.BadSpec → IsBadSpec spec gates) → (fault ≡ of_lab.BadSpec) ⊎ EndsLab spec fault → HasNoTallies args reports
lab_fails_so args spec gates fault reports sizes count is bad why =
    subst (λ (f : CommandFault). HasNoTallies args f) (sym is)
    (lab_fails args fault
    (λ e. subst (λ (s : Spec). IsBadSpec s args.procs) sizes (subst (λ (n : ℕ). IsBadSpec spec n) count (bad e)))
    (subst (λ (s : Spec). (fault ≡ of_lab.BadSpec) ⊎ EndsLab s fault) sizes why))
