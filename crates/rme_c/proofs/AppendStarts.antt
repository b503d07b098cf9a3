-- The start of an append by a holder with nothing to mend.
use Rattle.std.proofs.Common.{◌≡◌, ℕ, List, length, take, Some, None, refl, sym, ap, ◌∙◌, subst, eq-eqb}
use Rattle.rme_c.proofs.Common.{Lock, Within, RmeProcess, machine_state_at, machine_state_of, position_of}
use Rattle.rmecore.specs.declared.stage.Stage.TheVariants as stage
use Rattle.rmeworld.specs.MachineState.{machine_after_start}
use Rattle.rmeworld.specs.declared.call.Call.TheVariants as start
use Rattle.rme_c.specs.declared.script_position.ScriptPosition.TheVariants as script_position
use Rattle.rme_c.specs.Starts.{call_cause}

pub may_append : (p : RmeProcess) (number : ℕ) (value : List ℕ) → position_of p ≡ Lock stage.Inside → p.unmended ≡ 0 → length value ≡ p.width → call_cause (machine_state_of p) (Some (start.Append number value)) ≡ None
may_append p number value here mended wide =
    subst (λ y. call_cause (machine_state_at p y) (Some (start.Append number value)) ≡ None) (sym here) (rw (mended, eq-eqb (length value) p.width wide) refl)

pub appends : (p m : RmeProcess) (number : ℕ) (value : List ℕ) → position_of p ≡ Lock stage.Inside → position_of m ≡ Within (script_position.Closed number) → m ≡ record p { barred = 0; value = value; steps = 0; position = m.position }
    → machine_state_of m ≡ machine_after_start (machine_state_of p) (start.Append number (take p.width value))
appends p m number value here there same =
    ap (machine_state_at m) there
    ∙ ap (λ (z : RmeProcess). machine_state_at z (Within (script_position.Closed number))) same
    ∙ ap (λ y. machine_after_start (machine_state_at p y) (start.Append number (take p.width value))) (sym here)
