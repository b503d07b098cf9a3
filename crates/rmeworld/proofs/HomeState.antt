-- Every execution can come home, and each process can still enter, since the lock's part of it can.
use Rattle.std.proofs.Common.{ℕ, ◌<◌, ◌≤◌, List, [], ◌∷◌, ◌++◌, refl, sym, ap, subst, inl, arith}
use Rattle.rmeworld.proofs.Common.{Own, IsLawful, Layout, Words, IsLayout, Deed, empty_state, core_of, Image, layout_of, IsLawfulImage, IsReached, own_at, words_of, image_world, global_state_of, crashed_global_state, GlobalState, WorldEvent, at_first, event_deeds, Execution, state_after_event, last_global_state}
use Rattle.rmecore.proofs.AnyEntry.{can_still_enter as lock_can_still_enter}
use Rattle.rmecore.proofs.HomeStates.{comes_home as lock_comes_home}
use Rattle.rmecore.proofs.SoundWorlds.{Awaits, Sound, sound_final, sound_rest}
use Rattle.rmecore.specs.Lawful.{start_of}
use Rattle.rmeworld.specs.HomeState.{CanComeHome, CanComeHomeMended, CanStillEnter}
use Rattle.rmeworld.proofs.Carrying.{comes_home, can_still_enter}
use Rattle.rmeworld.proofs.ExecutionGrows.{reached_more}
use Rattle.rmeworld.proofs.FromImages.{image_global_state, image_world_is}
use Rattle.rmeworld.proofs.Projection.{AllHeld, Held, all_held, projected}
use Rattle.rmeworld.proofs.Reaching.{crashed_at, crashed_tied, reached_arrives}
use Rattle.rmeworld.proofs.Recoverable.{Orderly, AllOrderly, all_orderly}

-- a global state whose lock keeps its invariant, with scripts as they are in every execution
pub record Stands (l : Layout) (w : GlobalState) : Type 0 where
  pub held : AllHeld w
  pub orderly : AllOrderly w
  pub sound : Sound l.procs (core_of w)

pub stands_last : (l : Layout) (limit : ℕ) (first : GlobalState) (execution : List WorldEvent) → Stands l first → Execution l limit first execution → Stands l (last_global_state l limit first execution)
stands_last l limit first execution h reports =
    let r = projected l limit first execution h.held reports in
    record {
      held = all_held l limit first execution h.held reports;
      orderly = all_orderly l limit first execution h.orderly reports;
      sound = subst (Sound l.procs) r.ends (sound_final l.procs limit (core_of first) r.events h.sound r.run);
    }

pub stands_first : (l : Layout) → Stands l at_first
stands_first l = record { held = λ p. tt; orderly = λ p. tt; sound = sound_rest l.procs }

pub stands_crashed : (l : Layout) (limit : ℕ) (words : ℕ → Own) (cells : Words) → IsLawful l.procs limit words → Stands l (crashed_global_state l.procs words cells)
stands_crashed l limit words cells lawful =
    let n : ℕ = l.procs in
    record {
      held = λ p. crashed_at (λ x. Held x.script_state x.lock) n p tt tt;
      orderly = λ p. crashed_at (λ x. Orderly x.script_state) n p tt tt;
      sound = record { lock = start_of words; tied = crashed_tied n limit words cells lawful; awaits = λ p. crashed_at (λ x. Awaits n p x.lock) n p tt tt };
    }

pub stands_image : (i : Image) → IsLawfulImage i → Stands (layout_of i) (global_state_of (image_world i))
stands_image i lawful = subst (Stands (layout_of i)) (sym (image_global_state i)) (stands_crashed (layout_of i) i.limit (own_at i.lock) (words_of i.cells) (lawful.lawful (omega arith)))

home_of : (l : Layout) (limit : ℕ) (w : GlobalState) → Stands l w → CanComeHome l limit w
home_of l limit w h = comes_home l limit w h.held h.orderly (lock_comes_home l.procs limit h.sound)

enter_of : (l : Layout) (limit : ℕ) (w : GlobalState) (p : ℕ) → p < l.procs → 1 ≤ limit → Stands l w → CanStillEnter l limit w p
enter_of l limit w p below some h = can_still_enter l limit w p below h.held h.orderly (lock_can_still_enter l.procs limit p below some h.sound)

-- what is known of a reached global state holds after a continuation too
pub record Reached (l : Layout) (limit : ℕ) (w : GlobalState) : Type 0 where
  pub history : List Deed
  pub reached : IsReached l limit w history

reached_on : (l : Layout) (limit : ℕ) (es : List WorldEvent) (w : GlobalState) → Reached l limit w → Execution l limit w es → Reached l limit (last_global_state l limit w es)
reached_on l limit [] w r reports = r
reached_on l limit (e ∷ es) w r reports = reached_on l limit es (state_after_event l limit w e) (record { history = r.history ++ event_deeds l w e; reached = reached_more l limit w r.history e r.reached reports.0 }) reports.1

reached_first : (l : Layout) (limit : ℕ) → Reached l limit at_first
reached_first l limit = record { history = []; reached = record { first = at_first; state = empty_state l.procs l.cap; origin = inl (refl, refl); execution = []; reports = tt; last = refl; done = refl } }

reached_image : (i : Image) → IsLawfulImage i → Reached (layout_of i) i.limit (global_state_of (image_world i))
reached_image i lawful = record { history = (image_world i).history; reached = (image_world_is i lawful).reached }

-- with nobody in, no record is armed, or the lock is ruined
mended_home : (l : Layout) (limit : ℕ) (w : GlobalState) → IsLayout l → Reached l limit w → CanComeHome l limit w → CanComeHomeMended l limit w
mended_home l limit w layout r way =
    let end = reached_on l limit way.events w r way.execution in
    let a = reached_arrives layout end.reached in
    record {
      way = way;
      mended = λ h. a.sits.rest (λ p below i. let x = a.who_is_in p below i in let none = ap (λ y. y.number) (way.home p below).0.1 in absurd (omega (arith, x.0, none))) (way.recoverable h).ruined;
    }

pub from_first : (l : Layout) (limit : ℕ) (execution : List WorldEvent) → Execution l limit at_first execution → CanComeHome l limit (last_global_state l limit at_first execution)
from_first l limit execution reports = home_of l limit (last_global_state l limit at_first execution) (stands_last l limit at_first execution (stands_first l) reports)

pub from_crashed : (l : Layout) (limit : ℕ) (words : ℕ → Own) (cells : Words) (execution : List WorldEvent) → IsLawful l.procs limit words → Execution l limit (crashed_global_state l.procs words cells) execution
    → CanComeHome l limit (last_global_state l limit (crashed_global_state l.procs words cells) execution)
from_crashed l limit words cells execution lawful reports =
    let first : GlobalState = crashed_global_state l.procs words cells in
    home_of l limit (last_global_state l limit first execution) (stands_last l limit first execution (stands_crashed l limit words cells lawful) reports)

pub mended_first : (l : Layout) (limit : ℕ) (execution : List WorldEvent) → IsLayout l → Execution l limit at_first execution → CanComeHomeMended l limit (last_global_state l limit at_first execution)
mended_first l limit execution layout reports =
    mended_home l limit (last_global_state l limit at_first execution) layout (reached_on l limit execution at_first (reached_first l limit) reports) (from_first l limit execution reports)

pub from_image : (i : Image) (execution : List WorldEvent) → IsLawfulImage i → Execution (layout_of i) i.limit (global_state_of (image_world i)) execution
    → CanComeHomeMended (layout_of i) i.limit (last_global_state (layout_of i) i.limit (global_state_of (image_world i)) execution)
from_image i execution lawful reports =
    let l : Layout = layout_of i in
    let first : GlobalState = global_state_of (image_world i) in
    let last : GlobalState = last_global_state l i.limit first execution in
    mended_home l i.limit last (image_world_is i lawful).sized.layout (reached_on l i.limit execution first (reached_image i lawful) reports)
    (home_of l i.limit last (stands_last l i.limit first execution (stands_image i lawful) reports))

pub enter_first : (l : Layout) (limit p : ℕ) (execution : List WorldEvent) → p < l.procs → 1 ≤ limit → Execution l limit at_first execution → CanStillEnter l limit (last_global_state l limit at_first execution) p
enter_first l limit p execution below some reports = enter_of l limit (last_global_state l limit at_first execution) p below some (stands_last l limit at_first execution (stands_first l) reports)

pub enter_crashed : (l : Layout) (limit p : ℕ) (words : ℕ → Own) (cells : Words) (execution : List WorldEvent) → p < l.procs → 1 ≤ limit → IsLawful l.procs limit words → Execution l limit (crashed_global_state l.procs words cells) execution
    → CanStillEnter l limit (last_global_state l limit (crashed_global_state l.procs words cells) execution) p
enter_crashed l limit p words cells execution below some lawful reports =
    let first : GlobalState = crashed_global_state l.procs words cells in
    enter_of l limit (last_global_state l limit first execution) p below some (stands_last l limit first execution (stands_crashed l limit words cells lawful) reports)

pub enter_image : (i : Image) (p : ℕ) (execution : List WorldEvent) → IsLawfulImage i → p < (layout_of i).procs → Execution (layout_of i) i.limit (global_state_of (image_world i)) execution
    → CanStillEnter (layout_of i) i.limit (last_global_state (layout_of i) i.limit (global_state_of (image_world i)) execution) p
enter_image i p execution lawful below reports =
    let l : Layout = layout_of i in
    let first : GlobalState = global_state_of (image_world i) in
    enter_of l i.limit (last_global_state l i.limit first execution) p below (lawful.sized (omega arith)).limited (stands_last l i.limit first execution (stands_image i lawful) reports)
