-- A text that bounds no section has no bound anywhere, and a step of it no excess.
use Rattle.std.proofs.Common.{◌≡◌, Bool, true, false, ◌||◌, Option, Some, None, refl, ap}
use Rattle.std.specs.Option.{option_map}
use Rattle.std.specs.Prelude.{is_some}
use Rattle.algorithms.specs.PromisedSteps.{bound_value}
use Rattle.algorithms.specs.Worlds.{AlgorithmWorldState, promised_steps}
use Rattle.algorithms.specs.declared.expression.Expression.{Expression}
use Rattle.algorithm_lab.specs.Sections.{bound_if, bound_with, bounds_steps}
use Rattle.algorithm_lab.specs.declared.section.BoundedSection.{BoundedSection}
use Rattle.algorithm_lab.specs.declared.section.BoundedSection.TheVariants.{Exit, Recovery, Doorway}
use Rattle.algorithm_lab.specs.declared.section.StepBound.{StepBound}

left_false : (a b : Bool) → a || b ≡ false → a ≡ false
left_false false b none = refl
left_false true b none = absurd (cc)

right_false : (a b : Bool) → a || b ≡ false → b ≡ false
right_false false b none = none
right_false true b none = absurd (cc)

none_is : (o : Option Expression) → is_some o ≡ false → o ≡ None
none_is None none = refl
none_is (Some bound) none = absurd (cc)

-- the bound of a section with what is said of it
abbrev said_bound : AlgorithmWorldState → BoundedSection → Option Expression → Option StepBound
said_bound w section said = option_map (bound_with section) (bound_value w.procs w.limit said)

pub no_bound : (w : AlgorithmWorldState) (o : Option BoundedSection) → bounds_steps w.algorithm.step_bounds ≡ false → bound_if (promised_steps w) o ≡ None
no_bound w None none = refl
no_bound w (Some Exit) none =
    let bounds = w.algorithm.step_bounds in
    ap (said_bound w Exit) (none_is bounds.exit (left_false (is_some bounds.exit) (is_some bounds.recovery || is_some bounds.doorway) none))
no_bound w (Some Recovery) none =
    let bounds = w.algorithm.step_bounds in
    let rest = right_false (is_some bounds.exit) (is_some bounds.recovery || is_some bounds.doorway) none in
    ap (said_bound w Recovery) (none_is bounds.recovery (left_false (is_some bounds.recovery) (is_some bounds.doorway) rest))
no_bound w (Some Doorway) none =
    let bounds = w.algorithm.step_bounds in
    let rest = right_false (is_some bounds.exit) (is_some bounds.recovery || is_some bounds.doorway) none in
    ap (said_bound w Doorway) (none_is bounds.doorway (right_false (is_some bounds.recovery) (is_some bounds.doorway) rest))
