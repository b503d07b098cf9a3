-- The own steps of a process in its exit section, in its recovery and in its doorway, which a text may bound. Bounded exit: each
-- `unlock` ends within K own steps of its process, whatever the others do. Bounded recovery: who crashed inside has entered again
-- within K own steps of its next `lock` (Golab and Ramaraju 2016, "bounded exit" and "bounded critical section re-entry"). Bounded
-- doorway: a process is ready within K own steps of its `lock` (Lamport 1974). A step that waits is an own step (step complexity).
use Rattle.std.specs.Prelude.{ℕ, ◌==◌, nat_lt, nat_le, Bool, true, false, not, ◌&&◌, ◌||◌, if◌then◌else◌, Option, Some, None, is_some}
use Rattle.std.specs.Option.{option_map}
use Rattle.rmecore.specs.Simulated.{one_more}
use Rattle.rmecore.specs.declared.fault.Fault.{Fault}
use Rattle.rmecore.specs.declared.fault.Fault.TheVariants.{LongExit, LongRecovery, LongDoorway}
use Rattle.rmecore.specs.declared.phase.Phase.{Phase}
use Rattle.rmecore.specs.declared.phase.Phase.TheVariants.{Out, Door, Ready, Inside, DeadIn}
use Rattle.algorithms.specs.declared.algorithm.Entries.{Entries}
use Rattle.algorithms.specs.declared.algorithm.StepBounds.{StepBounds}
use Rattle.algorithms.specs.declared.process.AlgorithmPlace.{AlgorithmPlace}
use Rattle.algorithms.specs.declared.process.AlgorithmPlace.TheVariants.{Rest, Dead, At}
use Rattle.algorithms.specs.declared.promised_steps.PromisedSteps.{PromisedSteps}
use Rattle.algorithm_lab.specs.declared.section.BoundedSection.{BoundedSection}
use Rattle.algorithm_lab.specs.declared.section.BoundedSection.TheVariants.{Exit, Recovery, Doorway}
use Rattle.algorithm_lab.specs.declared.section.StepBound.{StepBound}

-- ---- where a process is

-- a call begins at a place after the first one, and at or before the second
abbrev pub begins_between : ℕ → ℕ → Option ℕ → Bool
begins_between begin at None = false
begins_between begin at (Some entry) = nat_lt begin entry && nat_le entry at

-- the line at a place is one of the call that begins at `begin`: no other call begins between them
abbrev pub is_in_call : Entries → ℕ → ℕ → Bool
is_in_call entries begin at =
    nat_le begin at
    && not (begins_between begin at (Some entries.lock) || (begins_between begin at (Some entries.unlock)
    || (begins_between begin at entries.recover || begins_between begin at entries.withdraw)))

-- the section of `lock` in which a process in this phase is
abbrev pub section_of_lock : Phase → Option BoundedSection
section_of_lock Out = Some Doorway
section_of_lock Door = Some Doorway
section_of_lock Ready = None
section_of_lock Inside = None
section_of_lock DeadIn = Some Recovery

-- the section in which a process in this phase takes the line at a place
abbrev pub section_of_line : Entries → Phase → ℕ → Option BoundedSection
section_of_line entries phase at =
    if is_in_call entries entries.unlock at then Some Exit
    else if is_in_call entries entries.lock at then section_of_lock phase else None

-- the section that a process in this phase is in at this place
abbrev pub section_at : Entries → Phase → AlgorithmPlace → Option BoundedSection
section_at entries phase Rest = None
section_at entries phase Dead = None
section_at entries phase (At at) = section_of_line entries phase at

-- ---- what is promised

-- the text bounds the own steps of a section
abbrev pub bounds_steps : StepBounds → Bool
bounds_steps bounds = is_some bounds.exit || (is_some bounds.recovery || is_some bounds.doorway)

abbrev pub promised_bound : PromisedSteps → BoundedSection → Option ℕ
promised_bound promised Exit = promised.exit
promised_bound promised Recovery = promised.recovery
promised_bound promised Doorway = promised.doorway

abbrev pub bound_with : BoundedSection → ℕ → StepBound
bound_with section most = record { section = section; most = most }

-- a section with its bound, where one is promised
abbrev pub bound_on : PromisedSteps → BoundedSection → Option StepBound
bound_on promised section = option_map (bound_with section) (promised_bound promised section)

-- the same of a process that may be in no section
abbrev pub bound_if : PromisedSteps → Option BoundedSection → Option StepBound
bound_if promised None = None
bound_if promised (Some section) = bound_on promised section

-- what is wrong where more own steps are taken than is promised
abbrev pub excess_fault : BoundedSection → Fault
excess_fault Exit = LongExit
excess_fault Recovery = LongRecovery
excess_fault Doorway = LongDoorway

-- ---- the count

-- a process that was in a section is in it now
abbrev pub is_still_in : BoundedSection → Option BoundedSection → Bool
is_still_in Exit (Some Exit) = true
is_still_in Recovery (Some Recovery) = true
is_still_in Doorway (Some Doorway) = true
is_still_in section now = false

-- the own steps in a section after one more. They are not counted on past one above the bound
abbrev pub one_step_more : ℕ → ℕ → ℕ
one_step_more most taken = if nat_lt most taken then taken else one_more taken

-- The own steps of a process that are counted after a step of it: those in the section that it was in, where that has a bound, and
-- the process is in it now. Else there are none.
abbrev pub steps_after : Option StepBound → ℕ → Option BoundedSection → ℕ
steps_after None taken now = 0
steps_after (Some bound) taken now = if is_still_in bound.section now then one_step_more bound.most taken else 0

-- the section in which a step is the first above the bound, where `taken` own steps were taken in it before
abbrev pub excess : Option StepBound → ℕ → Option BoundedSection
excess None taken = None
excess (Some bound) taken = if bound.most == taken then Some bound.section else None
