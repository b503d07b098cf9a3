-- Bounded waiting of threads is that of the world, since their steps are one of its executions.
use Rattle.std.proofs.Common.{◌≡◌, ℕ, suc, ◌+◌, ◌*◌, ◌<◌, ◌≤◌, true, List, [], ◌∷◌, ◌++◌, length, refl, sym, ap, ◌∙◌, subst}
use Rattle.progress.proofs.Common.{has, entries, concatenation, most_work, disturbances}
use Rattle.progress.proofs.WorldWaiting.{world_first}
use Rattle.progress.specs.ThreadWaitingBounds.{spelled_pieces, lock_pieces_after, ThreadWaitingIsBounded}
use Rattle.judge.specs.Halves.{outers}
use Rattle.rmeworld.specs.HomeState.{core_of}
use Rattle.rmeworld.specs.ProcessState.{WorldEvent}
use Rattle.rmeworld.specs.World.{Execution, deeds}
use Rattle.table_runs.proofs.Runs.{spelled-append, legal_back}
use Rattle.table_runs.specs.declared.entry.TakenStep.{TakenStep}
use Rattle.table_runs.specs.declared.setup.Setup.{Setup}
use Rattle.table_runs.specs.Runs.{IsRun, events_of_run, end_of}

spelled_joined : (pieces : List (List TakenStep)) → events_of_run (concatenation pieces) ≡ concatenation (spelled_pieces pieces)
spelled_joined [] = refl
spelled_joined (piece ∷ pieces) = spelled-append piece (concatenation pieces) ∙ ap (λ es. events_of_run piece ++ es) (spelled_joined pieces)

as_many : (pieces : List (List TakenStep)) → length (spelled_pieces pieces) ≡ length pieces
as_many [] = refl
as_many (piece ∷ pieces) = ap suc (as_many pieces)

pub thread_waiting : (s : Setup) (steps : List TakenStep) (p : ℕ) → p < s.layout.procs → IsRun s steps → ThreadWaitingIsBounded s steps p
thread_waiting s steps p below run pieces line whole full stays enough =
    let rest : Execution s.layout s.limit (end_of s steps) (concatenation (spelled_pieces pieces)) =
    subst (λ (es : List WorldEvent). Execution s.layout s.limit (end_of s steps) es) (spelled_joined pieces) (legal_back s steps (concatenation pieces) whole) in
    let bound : ℕ = most_work s.layout.procs + 1 + (3 * s.layout.procs + 5) * disturbances s.layout.procs s.limit (core_of (end_of s steps)) (concatenation (lock_pieces_after s steps pieces)) in
    let entered = world_first s.layout s.limit p (events_of_run steps) below run (spelled_pieces pieces) line rest full stays (subst (λ (m : ℕ). bound ≤ m) (sym (as_many pieces)) enough) in
    subst (λ (es : List WorldEvent). has (entries (outers (deeds s.layout s.limit (end_of s steps) es))) p ≡ true) (sym (spelled_joined pieces)) entered
