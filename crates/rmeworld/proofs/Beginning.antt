-- The beginnings of worlds. What comes after them is legal.
use Rattle.std.proofs.Common.{◌≡◌, ℕ, ◌+◌, ◌<◌, ◌≤◌, ◌^◌, Bool, true, false, ◌&&◌, nat_lt, nat_le, if◌then◌else◌, List, [], length, Option, Some, None, refl, sym, subst, inr, arith, ltb-true, leb-true}
use Rattle.rmeworld.proofs.Common.{and_parts, Refusal, own_at, Deed, Layout, words_of, Start, Leads, state_of, State, Image, layout_of, IsLawfulImage, IsStartOf, crashed_global_state, IsOrigin, IsSize}
use Rattle.rmeworld.proofs.Common.{resting, GlobalState, at_first, WorldState, new_world, new_refusal, image_world}
use Rattle.rmeworld.specs.Reached.{EveryLaterExecutionIsSound}
use Rattle.rmeworld.specs.WorldState.{global_state_of}
use Rattle.rmeworld.proofs.Following.{Follows}
use Rattle.rmeworld.proofs.FromImages.{image_world_is, image_global_state, crashed-at, started_later}
use Rattle.rmeworld.proofs.Ordered.{IsOrdered, ordered_rest, ordered_crashed}
use Rattle.rmeworld.proofs.Reaching.{arrives, origin, sound_from}
use Rattle.rmeworld.proofs.Worlds.{world_new, new_global_state, rest-at}

held_to : (b : Bool) (o : Option Refusal) (r : Refusal) → (if b then o else Some r) ≡ None → (b ≡ true) × (o ≡ None)
held_to true o r h = (refl, h)
held_to false o r h = absurd (apart h)
  where
    apart : Some r ≡ None → ⊥
    apart is = cc

range : (a b x : ℕ) → (nat_lt a x && nat_le x b) ≡ true → (a < x) × (x ≤ b)
range a b x h = let both = and_parts (nat_lt a x) (nat_le x b) h in (ltb-true a x both.0, leb-true x b both.1)

pub sized : (l : Layout) (limit : ℕ) → new_refusal l limit ≡ None → IsSize l × ((1 ≤ limit) × (limit ≤ 2 ^ 62))
sized l limit h =
    let procs = held_to _ _ _ h in
    let limited = held_to _ _ _ procs.1 in
    let cap = held_to _ _ _ limited.1 in
    let width = held_to _ _ _ cap.1 in
    let n = range 0 64 l.procs procs.0 in
    let m = range 0 (2 ^ 62) limit limited.0 in
    let c = range 0 65536 l.cap cap.0 in
    let w = range 0 8 l.width width.0 in
    (record { layout = record { few = n.1; small = c.1; least = omega (arith, w.0); most = w.1 }; procs = n.0; cap = c.0 }, (omega (arith, m.0), m.1))

pub follows_new : (l : Layout) (limit : ℕ) → new_refusal l limit ≡ None → Follows at_first (new_world l limit) []
follows_new l limit may =
    let size = sized l limit may in
    record {
      world = world_new l limit size.0 size.1;
      ordered = λ p below. subst IsOrdered (sym (rest-at l limit 0 l.procs p below)) (ordered_rest l limit (0 + p));
      comes = record { execution = []; reports = tt; last = sym (new_global_state l limit); done = refl };
    }

pub follows_image : (i : Image) → IsLawfulImage i → Follows (crashed_global_state (length i.lock) (own_at i.lock) (words_of i.cells)) (image_world i) []
follows_image i lawful =
    record {
      world = image_world_is i lawful;
      ordered = λ p below. subst IsOrdered (sym (crashed-at (layout_of i) i.limit 0 (length i.lock) p below)) (ordered_crashed (resting (layout_of i) i.limit (0 + p)));
      comes = record { execution = []; reports = tt; last = sym (image_global_state i); done = refl };
    }

-- what came after a beginning is legal from the judge's state there
pub follows_legal : (first : GlobalState) (state : State) (s : WorldState) (history : List Deed) → IsOrigin s.layout s.limit first state → Follows first s history → (t : State) × Leads state history t
follows_legal first state s history begins h =
    let layout = h.world.sized.layout in
    let a = arrives s.layout s.limit first state h.comes.execution layout (origin s.layout s.limit first state layout begins) h.comes.reports in
    (a.now, subst (λ ds. Leads state ds a.now) h.comes.done a.leads)

pub image_origin : (i : Image) (s : Start) → IsLawfulImage i → IsStartOf i s → IsOrigin (layout_of i) i.limit (crashed_global_state (length i.lock) (own_at i.lock) (words_of i.cells)) (state_of s)
image_origin i s lawful start = inr (refl, started_later i s lawful start)

-- every execution of a lawful image's world is sound
pub later_is_sound : EveryLaterExecutionIsSound
later_is_sound i s execution lawful start reports =
    let l : Layout = layout_of i in
    let w : GlobalState = global_state_of (image_world i) in
    let layout = (image_world_is i lawful).sized.layout in
    let o = origin l i.limit w (state_of s) layout (inr (image_global_state i, started_later i s lawful start)) in
    let a = arrives l i.limit w (state_of s) execution layout o reports in
    (sound_from l i.limit w (state_of s) execution layout o reports, a.lawful, (a.now, a.leads))
