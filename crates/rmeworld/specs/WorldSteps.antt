-- A step of a world, whichever of its functions takes it.
use Rattle.std.specs.Prelude.{◌≡◌, ℕ, Bool, false, IfSome, Some, None}
use Rattle.rmecore.specs.Machine.{at_scan, word_of}
use Rattle.rmecore.specs.Paid.{is_glance}
use Rattle.rmecore.specs.Simulated.{tally_at}
use Rattle.rmecore.specs.Tallied.{IsExact}
use Rattle.rmecore.specs.declared.access.Access.{Access}
use Rattle.rmecore.specs.declared.access.Access.TheVariants.{Load, Store}
use Rattle.rmecore.specs.declared.scan.Scan.{Scan}
use Rattle.rmeworld.specs.declared.script_state.ScriptState.TheVariants.{Free}
use Rattle.rmeworld.specs.declared.outcome.Outcome.{Outcome}
use Rattle.rmeworld.specs.declared.stepped.Stepped.{Stepped}
use Rattle.rmeworld.specs.Replayed.{world_step_report, world_after_step}
use Rattle.rmeworld.specs.MachineState.{MachineState, standing, next_access, IsAllowed, IsLeast, InWords, StoresOwn}
use Rattle.rmeworld.specs.Tallied.{HasTaken}
use Rattle.rmeworld.specs.WorldState.{WorldState, process_state_at, Takes, world_event_of, ChoosesLeast}

-- The step of p is the one of the definition, and s is its report.
pub record Advances (old : WorldState) (p : ℕ) (s : Stepped) (new : WorldState) : Type 0 where
  pub step : Takes old (world_event_of p s.happened) new
  pub kind : is_glance s.happened.kind ≡ false
  pub least : ChoosesLeast old p s.happened
  pub reports : s ≡ world_step_report old p
  pub ok : new ≡ world_after_step old p
  pub taken : IfSome s.answer (λ a. IsExact (tally_at new.tallies p) → HasTaken old.layout (process_state_at old.processes p) (tally_at new.tallies p) a)

-- it is a load
abbrev pub IsLoad : Access → Type 0
IsLoad (Load kind word) = Unit {0}
IsLoad (Store kind word x) = ⊥

-- The scan is in progress, and this load is its next access.
pub record ScanGoesOn (st : MachineState) (scan : Scan) (a : Access) : Type 0 where
  pub free : st.script_state ≡ Free
  pub load : IsLoad a
  pub at : at_scan (standing st) scan ≡ standing st
  pub next : next_access st ≡ Some a
  pub allowed : IsAllowed st a
  pub least : IsLeast st a
  pub within : InWords st.layout.procs (word_of a)
  pub own : StoresOwn st.index a

-- The effects of a silent step: no deed of the lock, and not the call's last step.
abbrev pub silent_outcome : Bool → Outcome
silent_outcome blocked = record { progress = record { outer = None; done = None; blocked = blocked }; answer = None }
