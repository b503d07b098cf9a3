-- The bounds on own steps of a text, in worlds of a size.
use Rattle.std.specs.Prelude.{ℕ, Bool, true, ◌&&◌, Option, Some, None, is_some}
use Rattle.algorithms.specs.Extents.{size_value}
use Rattle.algorithms.specs.declared.algorithm.StepBounds.{StepBounds}
use Rattle.algorithms.specs.declared.expression.Expression.{Expression}
use Rattle.algorithms.specs.declared.promised_steps.PromisedSteps.{PromisedSteps}

-- the value of a bound. None: there is no bound, or it is out of range
abbrev pub bound_value : ℕ → ℕ → Option Expression → Option ℕ
bound_value procs limit None = None
bound_value procs limit (Some bound) = size_value procs limit bound

abbrev pub promised_steps_at : ℕ → ℕ → StepBounds → PromisedSteps
promised_steps_at procs limit bounds = record {
  exit = bound_value procs limit bounds.exit;
  recovery = bound_value procs limit bounds.recovery;
  doorway = bound_value procs limit bounds.doorway;
}

-- ---- which sizes have them

abbrev pub has_bound_value : ℕ → ℕ → Option Expression → Bool
has_bound_value procs limit None = true
has_bound_value procs limit (Some bound) = is_some (size_value procs limit bound)

-- each bound has a value
abbrev pub has_step_bounds : ℕ → ℕ → StepBounds → Bool
has_step_bounds procs limit bounds =
    has_bound_value procs limit bounds.exit && (has_bound_value procs limit bounds.recovery && has_bound_value procs limit bounds.doorway)
