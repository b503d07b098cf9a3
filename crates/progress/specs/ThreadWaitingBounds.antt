-- Bounded waiting of threads: the steps that the members of an arena take, in their one order, are an execution of the world.
-- So its bound is theirs.
use Rattle.std.specs.Prelude.{◌≡◌, ℕ, ◌+◌, ◌*◌, ◌≤◌, true, List, [], ◌∷◌, ◌++◌, length}
use Rattle.rmecore.specs.HomeState.{entries, IsInLine}
use Rattle.rmecore.specs.Place.{Event, has}
use Rattle.judge.specs.Halves.{outers}
use Rattle.rmeworld.specs.HomeState.{core_of}
use Rattle.rmeworld.specs.ProcessState.{WorldEvent}
use Rattle.rmeworld.specs.World.{deeds}
use Rattle.table_runs.specs.declared.entry.TakenStep.{TakenStep}
use Rattle.table_runs.specs.declared.setup.Setup.{Setup}
use Rattle.table_runs.specs.Runs.{IsRun, events_of_run, end_of}
use Rattle.progress.specs.WaitingBounds.{most_work}
use Rattle.progress.specs.Disturbances.{disturbances, NeverWithdraws}
use Rattle.progress.specs.Pieces.{Full, concatenation}
use Rattle.progress.specs.WorldWaitingBounds.{lock_pieces}

-- the events of the steps in each piece
abbrev pub spelled_pieces : List (List TakenStep) → List (List WorldEvent)
spelled_pieces [] = []
spelled_pieces (piece ∷ pieces) = events_of_run piece ∷ spelled_pieces pieces

-- the events of the lock in each piece of steps that come after these
abbrev pub lock_pieces_after : Setup → List TakenStep → List (List TakenStep) → List (List Event)
lock_pieces_after s steps pieces = lock_pieces s.layout s.limit (end_of s steps) (spelled_pieces pieces)

-- p, in line after these steps, enters in this many pieces that are full in steps of the lock
abbrev pub ThreadWaitingIsBounded : Setup → List TakenStep → ℕ → Type 0
ThreadWaitingIsBounded s steps p =
    (pieces : List (List TakenStep)) → IsInLine (core_of (end_of s steps)) p → IsRun s (steps ++ concatenation pieces)
    → Full s.layout.procs s.limit (core_of (end_of s steps)) (lock_pieces_after s steps pieces) → NeverWithdraws p (concatenation (lock_pieces_after s steps pieces))
    → most_work s.layout.procs + 1 + (3 * s.layout.procs + 5) * disturbances s.layout.procs s.limit (core_of (end_of s steps)) (concatenation (lock_pieces_after s steps pieces)) ≤ length pieces
    → has (entries (outers (deeds s.layout s.limit (end_of s steps) (events_of_run (concatenation pieces))))) p ≡ true
