-- How many numbers the others can take before one that is in line enters. Lamport's numbers have no bound; here they do.
use Rattle.std.specs.Prelude.{◌≡◌, ℕ, ◌+◌, ◌-◌, ◌<◌, ◌≤◌, Bool, true, false, List}
use Rattle.rmecore.specs.HomeState.{entries, IsInLine}
use Rattle.rmecore.specs.Place.{Event, Starts, Steps, Place, Door, has}
use Rattle.rmecore.specs.World.{World, Run, deeds}
use Rattle.rmecore.specs.declared.core_call.CoreCall.TheVariants.{Withdraw}
use Rattle.rmecore.specs.declared.kind.Kind.TheVariants.{Shut as Shuts}
use Rattle.progress.specs.Disturbances.{count, NeverWithdraws}

-- no number read in a doorway at this place is greater
abbrev pub ReadsUpTo : ℕ → Place → Type 0
ReadsUpTo greatest (Door unread m) = m ≤ greatest
ReadsUpTo greatest _ = Unit {0}

-- no number of n processes is greater, and none read in a doorway under way
abbrev pub NumbersUpTo : ℕ → ℕ → World → Type 0
NumbersUpTo greatest n w = (q : ℕ) → q < n → ((w.words q).number ≤ greatest) × ReadsUpTo greatest (w.places q)

-- the start of a withdraw
abbrev pub is_withdraw : Place → Event → Bool
is_withdraw place (Starts p Withdraw) = true
is_withdraw _ _ = false

-- the answer that the numbers are spent
abbrev pub is_spent : Place → Event → Bool
is_spent (Door unread greatest) (Steps p Shuts word v) = true
is_spent _ _ = false

-- while p, in line, has not entered, no call is refused a number: each other process takes one above
-- the greatest at most. A withdraw of another may cost one more. Crashes and recoveries cost none
abbrev pub NumbersAreUnspent : ℕ → ℕ → World → ℕ → Type 0
NumbersAreUnspent n limit w p =
    (greatest : ℕ) (events : List Event) → IsInLine w p → NumbersUpTo greatest n w → Run n limit w events → NeverWithdraws p events
    → has (entries (deeds n limit w events)) p ≡ false → greatest + (n - 1) + count is_withdraw n limit w events ≤ limit
    → count is_spent n limit w events ≡ 0
