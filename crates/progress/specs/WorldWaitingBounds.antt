-- Bounded waiting in a whole world. Its pieces are full where the steps of the lock in them are: a holder that only works on
-- the mailbox owes a step and takes none.
use Rattle.std.specs.Prelude.{◌≡◌, ℕ, ◌+◌, ◌*◌, ◌≤◌, true, List, [], ◌∷◌, length}
use Rattle.rmecore.specs.HomeState.{entries, IsInLine}
use Rattle.rmecore.specs.Place.{Event, has}
use Rattle.redomail.specs.declared.layout.Layout.{Layout}
use Rattle.judge.specs.Halves.{outers}
use Rattle.rmeworld.specs.HomeState.{core_of}
use Rattle.rmeworld.specs.LockEvents.{lock_events}
use Rattle.rmeworld.specs.ProcessState.{WorldEvent}
use Rattle.rmeworld.specs.World.{GlobalState, Execution, last_global_state, deeds}
use Rattle.progress.specs.WaitingBounds.{most_work}
use Rattle.progress.specs.Disturbances.{disturbances, NeverWithdraws}
use Rattle.progress.specs.Pieces.{Full, concatenation}

-- the events of the lock in each piece
abbrev pub lock_pieces : Layout → ℕ → GlobalState → List (List WorldEvent) → List (List Event)
lock_pieces l limit w [] = []
lock_pieces l limit w (piece ∷ pieces) = lock_events l limit w piece ∷ lock_pieces l limit (last_global_state l limit w piece) pieces

-- p, in line, enters in this many pieces that are full in steps of the lock
abbrev pub WorldWaitingIsBounded : Layout → ℕ → GlobalState → ℕ → Type 0
WorldWaitingIsBounded l limit w p =
    (pieces : List (List WorldEvent)) → IsInLine (core_of w) p → Execution l limit w (concatenation pieces)
    → Full l.procs limit (core_of w) (lock_pieces l limit w pieces) → NeverWithdraws p (concatenation (lock_pieces l limit w pieces))
    → most_work l.procs + 1 + (3 * l.procs + 5) * disturbances l.procs limit (core_of w) (concatenation (lock_pieces l limit w pieces)) ≤ length pieces
    → has (entries (outers (deeds l limit w (concatenation pieces)))) p ≡ true
