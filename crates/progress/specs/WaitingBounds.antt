-- Bounded waiting. Whoever is in line enters after a bounded amount of work, and after a bounded number of rounds. Each
-- disturbance adds to both bounds.
use Rattle.std.specs.Prelude.{◌≡◌, ℕ, ◌+◌, ◌-◌, ◌*◌, ◌≤◌, true, false, List, length}
use Rattle.rmecore.specs.HomeState.{entries, IsInLine}
use Rattle.rmecore.specs.Place.{Event, has}
use Rattle.rmecore.specs.World.{World, Run, deeds}
use Rattle.progress.specs.Disturbances.{disturbances, work, NeverWithdraws}
use Rattle.progress.specs.Pieces.{Full, concatenation}

-- the most effective events of n processes before one that is in line enters
abbrev pub most_work : ℕ → ℕ
most_work n = (n - 1) * (6 * n + 13) + 8

-- while p, in line, has not entered, only so much work is done
abbrev pub WorkIsBounded : ℕ → ℕ → World → ℕ → Type 0
WorkIsBounded n limit w p =
    (events : List Event) → IsInLine w p → Run n limit w events → NeverWithdraws p events → has (entries (deeds n limit w events)) p ≡ false
    → work n limit w events ≤ most_work n + (3 * n + 4) * disturbances n limit w events

-- p, in line, enters in this many full pieces
abbrev pub WaitingIsBounded : ℕ → ℕ → World → ℕ → Type 0
WaitingIsBounded n limit w p =
    (pieces : List (List Event)) → IsInLine w p → Run n limit w (concatenation pieces) → Full n limit w pieces → NeverWithdraws p (concatenation pieces)
    → most_work n + 1 + (3 * n + 5) * disturbances n limit w (concatenation pieces) ≤ length pieces
    → has (entries (deeds n limit w (concatenation pieces))) p ≡ true
