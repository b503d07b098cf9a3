-- What a run does beside the work that its calls have to do. A disturbance is a crash, the start of a recovery or a withdraw,
-- or the answer that the numbers are spent. A step is effective if it is neither blocked nor a glance: it leads its call on.
use Rattle.std.specs.Prelude.{◌≢◌, ℕ, suc, Bool, true, false, not, ◌||◌, if◌then◌else◌, List, [], ◌∷◌, All}
use Rattle.rmecore.specs.Machine.{is_blocked}
use Rattle.rmecore.specs.Paid.{is_glance}
use Rattle.rmecore.specs.Place.{Event, Starts, Crashes, Steps, Place, Door, process}
use Rattle.rmecore.specs.World.{World, after}
use Rattle.rmecore.specs.declared.core_call.CoreCall.TheVariants.{Recover, Withdraw}
use Rattle.rmecore.specs.declared.kind.Kind.TheVariants.{Shut as Shuts}

-- an event of a process at this place is a disturbance
abbrev pub is_disturbance : Place → Event → Bool
is_disturbance place (Crashes p) = true
is_disturbance place (Starts p Recover) = true
is_disturbance place (Starts p Withdraw) = true
is_disturbance (Door unread greatest) (Steps p Shuts word v) = true
is_disturbance _ _ = false

-- an event of a process at this place is a start or a step, neither blocked nor a glance, and no disturbance
abbrev pub is_effective : Place → Event → Bool
is_effective place (Crashes p) = false
is_effective place (Starts p call) = not (is_disturbance place (Starts p call))
is_effective place (Steps p kind word v) = not (is_disturbance place (Steps p kind word v) || (is_glance kind || is_blocked p place kind v))

-- how many events of a run satisfy the test, at the places of their processes
abbrev pub count : (Place → Event → Bool) → ℕ → ℕ → World → List Event → ℕ
count test n limit w [] = 0
count test n limit w (e ∷ es) = if test (w.places (process e)) e then suc (count test n limit (after n limit w e) es) else count test n limit (after n limit w e) es

abbrev pub disturbances : ℕ → ℕ → World → List Event → ℕ
disturbances = count is_disturbance

abbrev pub work : ℕ → ℕ → World → List Event → ℕ
work = count is_effective

-- p does not start to withdraw
abbrev pub NeverWithdraws : ℕ → List Event → Type 0
NeverWithdraws p events = All (λ e. e ≢ Starts p Withdraw) events
