-- Bounded waiting in a world: its lock's part is a run of the lock, piece by piece.
use Rattle.std.proofs.Common.{◌≡◌, ℕ, suc, ◌+◌, ◌*◌, ◌<◌, ◌≤◌, true, List, [], ◌∷◌, ◌++◌, length, Option, Some, None, refl, sym, ap, ◌∙◌, subst, arith}
use Rattle.progress.proofs.Common.{Own, Event, has, Run, deeds, entries, IsLawful, concatenation, most_work, disturbances}
use Rattle.progress.proofs.Short.{Short, Kept, kept_final}
use Rattle.progress.proofs.Waiting.{waiting_bounded}
use Rattle.progress.specs.WorldWaitingBounds.{lock_pieces, WorldWaitingIsBounded}
use Rattle.rmecore.specs.Simulated.{own_at}
use Rattle.redomail.specs.Layout.{Words, words_of}
use Rattle.redomail.specs.declared.layout.Layout.{Layout}
use Rattle.judge.specs.Halves.{outers as lock_deeds}
use Rattle.rmeworld.proofs.FromImages.{image_global_state}
use Rattle.rmeworld.proofs.Holders.{lock_deeds_are}
use Rattle.rmeworld.proofs.HomeState.{Stands, stands_last, stands_first, stands_crashed}
use Rattle.rmeworld.proofs.Projection.{AllHeld, projected}
use Rattle.rmeworld.proofs.Reaching.{crashed_at}
use Rattle.rmeworld.specs.HomeState.{core_of}
use Rattle.rmeworld.specs.ImageRules.{layout_of, IsLawfulImage}
use Rattle.rmeworld.specs.Reached.{crashed_global_state}
use Rattle.rmeworld.specs.WorldState.{global_state_of, image_world}
use Rattle.rmeworld.specs.declared.image.Image.{Image}
use Rattle.rmeworld.specs.LockEvents.{lock_event, event_then, lock_events}
use Rattle.rmeworld.specs.ProcessState.{WorldEvent, who}
use Rattle.rmeworld.specs.World.{GlobalState, at_first, Execution, state_after_event, last_global_state}
use Rattle.rmeworld.specs.World.{deeds as world_deeds}

then-append : (o : Option Event) (xs ys : List Event) → event_then o (xs ++ ys) ≡ event_then o xs ++ ys
then-append None xs ys = refl
then-append (Some e) xs ys = refl

lock_events-append : (l : Layout) (limit : ℕ) (w : GlobalState) (es fs : List WorldEvent) → lock_events l limit w (es ++ fs) ≡ lock_events l limit w es ++ lock_events l limit (last_global_state l limit w es) fs
lock_events-append l limit w [] fs = refl
lock_events-append l limit w (e ∷ es) fs =
    ap (event_then (lock_event l limit (w.process_states (who e)) e)) (lock_events-append l limit (state_after_event l limit w e) es fs) ∙ then-append (lock_event l limit (w.process_states (who e)) e) _ _

joined_locks : (l : Layout) (limit : ℕ) (w : GlobalState) (pieces : List (List WorldEvent)) → lock_events l limit w (concatenation pieces) ≡ concatenation (lock_pieces l limit w pieces)
joined_locks l limit w [] = refl
joined_locks l limit w (piece ∷ pieces) = lock_events-append l limit w piece (concatenation pieces) ∙ ap (λ es. lock_events l limit w piece ++ es) (joined_locks l limit (last_global_state l limit w piece) pieces)

as_many : (l : Layout) (limit : ℕ) (w : GlobalState) (pieces : List (List WorldEvent)) → length (lock_pieces l limit w pieces) ≡ length pieces
as_many l limit w [] = refl
as_many l limit w (piece ∷ pieces) = ap suc (as_many l limit (last_global_state l limit w piece) pieces)

pub world_waiting : (l : Layout) (limit p : ℕ) (w : GlobalState) → p < l.procs → AllHeld w → Kept l.procs (core_of w) → WorldWaitingIsBounded l limit w p
world_waiting l limit p w below held kept pieces line execution full stays enough =
    let n : ℕ = l.procs in
    let locks : List (List Event) = lock_pieces l limit w pieces in
    let r = projected l limit w (concatenation pieces) held execution in
    let are : r.events ≡ concatenation locks = r.named ∙ joined_locks l limit w pieces in
    let run : Run n limit (core_of w) (concatenation locks) = subst (λ es. Run n limit (core_of w) es) are r.run in
    let many : length locks ≡ length pieces = as_many l limit w pieces in
    let entered : has (entries (deeds n limit (core_of w) (concatenation locks))) p ≡ true = waiting_bounded n limit p (core_of w) below kept locks line run full stays
    (subst (λ x. most_work n + 1 + (3 * n + 5) * disturbances n limit (core_of w) (concatenation locks) ≤ x) (sym many) enough) in
    let same : deeds n limit (core_of w) (concatenation locks) ≡ lock_deeds (world_deeds l limit w (concatenation pieces)) =
    ap (deeds n limit (core_of w)) (sym are) ∙ r.same ∙ sym (lock_deeds_are l limit w (concatenation pieces)) in
    subst (λ ds. has (entries ds) p ≡ true) same entered

-- from a world that stands, with short scans
after_world : (l : Layout) (limit p : ℕ) (first : GlobalState) (execution : List WorldEvent) → p < l.procs → Stands l first → ((q : ℕ) → q < l.procs → Short l.procs (first.process_states q).lock) → Execution l limit first execution
    → WorldWaitingIsBounded l limit (last_global_state l limit first execution) p
after_world l limit p first execution below stands short reports =
    let n : ℕ = l.procs in
    let r = projected l limit first execution stands.held reports in
    let begun : Kept n (core_of first) = record { sound = stands.sound; short = short } in
    let kept : Kept n (core_of (last_global_state l limit first execution)) = subst (Kept n) r.ends (kept_final n limit (core_of first) r.events begun r.run) in
    world_waiting l limit p (last_global_state l limit first execution) below (stands_last l limit first execution stands reports).held kept

pub world_first : (l : Layout) (limit p : ℕ) (execution : List WorldEvent) → p < l.procs → Execution l limit at_first execution → WorldWaitingIsBounded l limit (last_global_state l limit at_first execution) p
world_first l limit p execution below reports = after_world l limit p at_first execution below (stands_first l) (λ q low. tt) reports

crashed_short : (n : ℕ) (words : ℕ → Own) (cells : Words) (q : ℕ) → q < n → Short n ((crashed_global_state n words cells).process_states q).lock
crashed_short n words cells q low = crashed_at (λ x. Short n x.lock) n q tt tt

pub world_crashed : (l : Layout) (limit p : ℕ) (words : ℕ → Own) (cells : Words) (execution : List WorldEvent) → p < l.procs → IsLawful l.procs limit words → Execution l limit (crashed_global_state l.procs words cells) execution
    → WorldWaitingIsBounded l limit (last_global_state l limit (crashed_global_state l.procs words cells) execution) p
world_crashed l limit p words cells execution below lawful reports =
    after_world l limit p (crashed_global_state l.procs words cells) execution below (stands_crashed l limit words cells lawful) (crashed_short l.procs words cells) reports

pub world_image : (i : Image) (p : ℕ) (execution : List WorldEvent) → IsLawfulImage i → p < (layout_of i).procs → Execution (layout_of i) i.limit (global_state_of (image_world i)) execution
    → WorldWaitingIsBounded (layout_of i) i.limit (last_global_state (layout_of i) i.limit (global_state_of (image_world i)) execution) p
world_image i p execution lawful below =
    subst (λ (first : GlobalState). Execution (layout_of i) i.limit first execution → WorldWaitingIsBounded (layout_of i) i.limit (last_global_state (layout_of i) i.limit first execution) p) (sym (image_global_state i))
    (world_crashed (layout_of i) i.limit p (own_at i.lock) (words_of i.cells) execution below (lawful.lawful (omega arith)))
