-- A world as a machine, over all its calls: it follows an execution from its beginning, and its history is the deeds.
use Rattle.std.proofs.Common.{◌≡◌, ℕ, ◌<◌, Bool, true, false, ◌&&◌, ◌==◌, nat_lt, if◌then◌else◌, List, [], ◌∷◌, ◌++◌, length, slice_set, Option, Some, None, IfSome, refl, sym, ap, ◌∙◌, subst, inl, inr, append-nil, ltb-true, get_or-set_same, get_or-set_other}
use Rattle.rmeworld.proofs.Common.{cases_Bool, cases_eq, Access, Load, Store, Outer, Refusal, Word, Data as DataAt, word_of, Deed, Layout, deeds_of_put, Words, IsLayout, words_of, Call, IsWorld}
use Rattle.rmeworld.proofs.Common.{start_refusal as process_state_refusal, world_event, or_else, mail_by, the_deed, stepped_if, advanced_if, world_after_start, advance_refusal, world_after_step, crash_refusal, crash_deed}
use Rattle.rmeworld.proofs.Common.{list_of, advanced_by, WorldEvent, Begins, next_process_state, MachineState, outcome, IsLeast, IsAllowed, process_state_of, machine_after_step as machine_state_stepped, next_access, StoresOwn, machine_state_started}
use Rattle.rmeworld.proofs.Common.{machine_after_crash as machine_state_crashed, reading, event_deeds, GlobalState, state_after_event, Can, put_deeds, WorldState, machine_state_at, process_state_at, global_state_of, Takes, absent_machine}
use Rattle.rmecore.specs.declared.refusal.Refusal.TheVariants.{NoSuchProcess, NothingToDo}
use Rattle.rmeworld.specs.Refused.{is_idle}
use Rattle.rmeworld.specs.Replayed.{start_refusal, world_step_report, world_after_crash}
use Rattle.rmeworld.proofs.Ordered.{IsOrdered, ordered_crashed, ordered_stepped, goes, allowed, owns, least, has_step, begins}
use Rattle.rmeworld.proofs.ExecutionGrows.{Comes, comes_more}
use Rattle.rmeworld.proofs.WorldSteps.{IsStep, step_takes, start_takes, crash_takes}
use Rattle.rmeworld.proofs.Worlds.{world_start, world_step, world_crash, deeds_are}

-- The world is at the end of an execution from this global state, its deeds are these, and its processes keep their
-- invariant.
pub record Follows (first : GlobalState) (s : WorldState) (history : List Deed) : Type 0 where
  pub world : IsWorld s
  pub ordered : (p : ℕ) → p < s.layout.procs → IsOrdered (machine_state_at s.processes p)
  pub comes : Comes s.layout s.limit first (global_state_of s) history

ordered_set : (s : WorldState) (p : ℕ) (t : MachineState) → length s.processes ≡ s.layout.procs → p < s.layout.procs → IsOrdered t → ((q : ℕ) → q < s.layout.procs → IsOrdered (machine_state_at s.processes q))
    → (q : ℕ) → q < s.layout.procs → IsOrdered (machine_state_at (slice_set s.processes p t) q)
ordered_set s p t each below new all q less =
    elim (cases_eq q p) [
      | inl e ↦ subst (λ r. IsOrdered (machine_state_at (slice_set s.processes p t) r)) (sym e) (subst IsOrdered (sym (get_or-set_same s.processes p t absent_machine (subst (λ n. p < n) (sym each) below))) new)
      | inr ne ↦ subst IsOrdered (sym (get_or-set_other s.processes p q t absent_machine ne)) (all q less)
    ]

comes_by : {s new : WorldState} {e : WorldEvent} (l : Layout) (limit : ℕ) (first : GlobalState) (history : List Deed) → s.layout ≡ l → s.limit ≡ limit → Takes s e new → Comes l limit first (global_state_of s) history → Comes l limit first (global_state_of new) (history ++ event_deeds l (global_state_of s) e)
comes_by {s = s} {new = new} {e = e} l limit first history layout limited takes comes =
    let can = subst (λ x. Can x limit (global_state_of s) e) layout (subst (λ x. Can s.layout x (global_state_of s) e) limited takes.can) in
    let global_state : global_state_of new ≡ state_after_event l limit (global_state_of s) e = takes.global_state ∙ (λ i. state_after_event (layout i) (limited i) (global_state_of s) e) in
    subst (λ w. Comes l limit first w (history ++ event_deeds l (global_state_of s) e)) (sym global_state) (comes_more l limit first (global_state_of s) history e comes can)

pub below_if : (p n : ℕ) (o : Option Refusal) → (if nat_lt p n then o else Some NoSuchProcess) ≡ None → (p < n) × (o ≡ None)
below_if p n o h = elim (cases_Bool (nat_lt p n)) [
  | inl e ↦ (ltb-true p n e, rw e at h)
  | inr e ↦ let is : Some NoSuchProcess ≡ None = rw e at h in absurd (apart is)
]
  where
    apart : Some NoSuchProcess ≡ None → ⊥
    apart is = cc

-- a start that is not refused is the definition's
pub start_is : {first : GlobalState} {history : List Deed} (s : WorldState) (p : ℕ) (call : Call) → Follows first s history → start_refusal s p call ≡ None
    → (p < s.layout.procs) × (next_process_state (machine_state_at s.processes p).layout (machine_state_at s.processes p).limit (process_state_at s.processes p) (Begins (machine_state_at s.processes p).index call) ≡ Some (process_state_of (machine_state_started (machine_state_at s.processes p) call)))
    × IsOrdered (machine_state_started (machine_state_at s.processes p) call) × Takes s (Begins p call) (world_after_start s p call)
start_is s p call h may =
    let has = below_if p s.layout.procs _ may in
    let t : MachineState = machine_state_at s.processes p in
    let configuration = h.world.configured.configurations p has.0 in
    let lawful = subst IsLayout (sym configuration.0) h.world.sized.layout in
    let begun = begins t call lawful (h.ordered p has.0) (subst (λ l. process_state_refusal l (process_state_of t) call ≡ None) (sym configuration.0) has.1) in
    (has.0, begun.0, begun.1, start_takes s p call (machine_state_started t call) (world_after_start s p call).tallies h.world.configured has.0 begun.0)

pub follows_started : {first : GlobalState} {history : List Deed} (s : WorldState) (p : ℕ) (call : Call) → Follows first s history → start_refusal s p call ≡ None → Follows first (world_after_start s p call) history
follows_started {first = first} {history = history} s p call h may =
    let is = start_is s p call h may in
    record {
      world = world_start s p call h.world is.0 is.1;
      ordered = ordered_set s p (machine_state_started (machine_state_at s.processes p) call) h.world.configured.processes_each is.0 is.2 h.ordered;
      comes = subst (Comes s.layout s.limit first (global_state_of (world_after_start s p call))) (append-nil history) (comes_by s.layout s.limit first history refl refl is.3 h.comes);
    }

pub follows_crashed : {first : GlobalState} {history : List Deed} (s : WorldState) (p : ℕ) → Follows first s history → crash_refusal s p ≡ None → Follows first (world_after_crash s p) (history ++ crash_deed p ∷ [])
follows_crashed {first = first} {history = history} s p h may =
    let has = below_if p s.layout.procs None may in
    record {
      world = world_crash s p h.world has.0;
      ordered = ordered_set s p (machine_state_crashed (machine_state_at s.processes p)) h.world.configured.processes_each has.0 (ordered_crashed (machine_state_at s.processes p)) h.ordered;
      comes = comes_by s.layout s.limit first history refl refl (crash_takes s p h.world.configured has.0) h.comes;
    }

-- a step has at most one deed

abbrev Single : List Deed → Type 0
Single ds = list_of (the_deed ds) ≡ ds

single_if : (b : Bool) (x y : List Deed) → Single x → Single y → Single (if b then x else y)
single_if true x y h k = h
single_if false x y h k = k

single_put : (l : Layout) (p : ℕ) (w : Words) (i v : ℕ) → Single (deeds_of_put l p w i v)
single_put l p w i v =
    single_if (w i == v) _ _ refl
    (single_if ((i == 3) && (v == 1)) _ _ refl (single_if (i == 2) _ _ refl (single_if ((i == 1) && (v == 1)) _ _ refl (single_if ((i == 0) && (v == 1)) _ _ refl refl))))

single_word : (l : Layout) (p : ℕ) (w : Words) (word : Word) (v : ℕ) → Single (put_deeds l p w word v)
single_word l p w (DataAt i) v = single_put l p w i v
single_word l p w _ v = refl

single_mail : (l : Layout) (p : ℕ) (w : Words) (a : Access) → Single (mail_by l p w a)
single_mail l p w (Load kind word) = refl
single_mail l p w (Store kind word v) = single_word l p w word v

single_or : (o : Option Outer) (ds : List Deed) → Single ds → Single (or_else o ds)
single_or None ds h = h
single_or (Some d) ds h = refl

-- a step that is not refused is the definition's
pub record Stepping (s : WorldState) (p : ℕ) : Type 0 where
  pub access : Access
  pub step : IsStep s p access
  pub least : IsLeast (machine_state_at s.processes p) access
  pub ordered : IsOrdered (machine_state_stepped (machine_state_at s.processes p) (reading (global_state_of s) (word_of access)))
  pub one : list_of (the_deed (event_deeds s.layout (global_state_of s) (world_event s p access))) ≡ event_deeds s.layout (global_state_of s) (world_event s p access)

busy : (b : Bool) → (if b then Some NothingToDo else None) ≡ None → b ≡ false
busy true h = cc
busy false h = refl

pub step_is : {first : GlobalState} {history : List Deed} (s : WorldState) (p : ℕ) → Follows first s history → advance_refusal s p ≡ None → Stepping s p
step_is s p h may = by (next_access t) refl
  where
    t : MachineState
    t = machine_state_at s.processes p

    has : (p < s.layout.procs) × ((if is_idle (process_state_of t) then Some NothingToDo else None) ≡ None)
    has = below_if p s.layout.procs _ may

    by : (o : Option Access) → next_access t ≡ o → Stepping s p
    by None is = absurd (has_step t (h.ordered p has.0) (busy _ has.1) is)
    by (Some a) is =
        let configuration = h.world.configured.configurations p has.0 in
        let v : ℕ = reading (global_state_of s) (word_of a) in
        let lawful = subst IsLayout (sym configuration.0) h.world.sized.layout in
        let own : StoresOwn t.index a = subst (λ o. IfSome o (StoresOwn t.index)) is (owns t) in
        let deeds = deeds_are s p a t.index h.world.configured has.0 own is in
        record {
          access = a;
          step = record {
            filled = h.world.filled;
            configured = h.world.configured;
            below = has.0;
            next = is;
            allowed = subst (λ o. IfSome o (IsAllowed t)) is (allowed t);
            own = own;
            goes = goes t v lawful (h.ordered p has.0);
          };
          least = subst (λ o. IfSome o (IsLeast t)) is (least t (h.ordered p has.0));
          ordered = ordered_stepped t v lawful (h.ordered p has.0);
          one = subst Single deeds (single_or (outcome t (Some a) v).progress.outer _ (single_mail s.layout p (words_of s.cells) a));
        }

pub follows_advanced : {first : GlobalState} {history : List Deed} (s : WorldState) (p : ℕ) → Follows first s history → advance_refusal s p ≡ None → Follows first (world_after_step s p) (history ++ list_of (world_step_report s p).deed)
follows_advanced {first = first} {history = history} s p h may =
    let is = step_is s p h may in
    let a : Access = is.access in
    subst (λ o. Follows first (advanced_if s p o) (history ++ list_of (stepped_if s p o).deed)) (sym is.step.next)
    (record {
      world = world_step s p a h.world is.step;
      ordered = ordered_set s p (machine_state_stepped (machine_state_at s.processes p) (reading (global_state_of s) (word_of a))) h.world.configured.processes_each is.step.below is.ordered h.ordered;
      comes = subst (Comes s.layout s.limit first (global_state_of (advanced_by s p a))) (ap (λ ds. history ++ ds) (sym is.one)) (comes_by s.layout s.limit first history refl refl (step_takes s p a is.step) h.comes);
    })
