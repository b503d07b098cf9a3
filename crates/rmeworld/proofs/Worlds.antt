-- The invariant of a world in memory, at every call.
use Rattle.std.proofs.Common.{◌≡◌, ℕ, zero, suc, ◌+◌, ◌<◌, ◌≤◌, ◌^◌, ◌++◌, [], ◌∷◌, List, Option, Some, None, IfSome, nat_lt, length, replicate, slice_index_or, refl, sym, ap, ◌∙◌, subst, inl, inr, arith, length-set}
use Rattle.rmeworld.proofs.Common.{cases_Bool, cases_lt, get_or_past, get_or_default, get_or-replicate, length-replicate, Access, Load, Store, Outer, Own, Tally, kind_of, word_of, carried_value, access}
use Rattle.rmeworld.proofs.Common.{Place, Door, Wait, Reread, tally_at, own_at, zeros, new_tally, step_deed, Deed, OuterDeed, Layout, Words, IsLayout, size, words_of, saturate, empty_state, Call}
use Rattle.rmeworld.proofs.Common.{script_state_of, IsWorld, IsReached, world_event, or_else, mail_by, the_deed, world_after_start, list_of, advanced_by, prospect_of, outer_by, ScriptState, Free, Doing}
use Rattle.rmeworld.proofs.Common.{WorldEvent, Begins, Falls, Moves, next_process_state, at_rest, MachineState, outcome, IsSize, resting, process_state_of, access_by, next_access, StoresOwn}
use Rattle.rmeworld.proofs.Common.{machine_state_started, IsTallied, reading, event_deeds, at_first, state_after_event, outer_deeds, mail_deeds, WorldState, machine_state_at, process_state_at, global_state_of, Takes, new_world, absent_machine}
use Rattle.rmeworld.proofs.Common.{HasConfiguration, IsConfigured, at_rest_from}
use Rattle.rmeworld.specs.Replayed.{world_after_crash}
use Rattle.rmeworld.proofs.ExecutionGrows.{reached_more}
use Rattle.rmeworld.proofs.WorldTallies.{tallied_step, tallied_start, tallied_crash}
use Rattle.rmeworld.proofs.WorldSteps.{IsStep, step_takes, configured_set, words_by_length, cells_by_length, keeps_stepped, keeps_started, start_takes, crash_takes}
use Rattle.redomail.proofs.Safe.{size_small}

pub reached_by : (s : WorldState) (e : WorldEvent) (new : WorldState) → Takes s e new → IsReached s.layout s.limit (global_state_of s) s.history → IsReached s.layout s.limit (global_state_of new) new.history
reached_by s e new takes reached =
    subst (λ w. IsReached s.layout s.limit w new.history) (sym takes.global_state)
    (subst (IsReached s.layout s.limit (state_after_event s.layout s.limit (global_state_of s) e)) (sym takes.history) (reached_more s.layout s.limit (global_state_of s) s.history e reached takes.can))

length-rest : (l : Layout) (limit p n : ℕ) → length (at_rest_from l limit p n) ≡ n
length-rest l limit p zero = refl
length-rest l limit p (suc n) = ap suc (length-rest l limit (p + 1) n)

pub rest-at : (l : Layout) (limit p n q : ℕ) → q < n → machine_state_at (at_rest_from l limit p n) q ≡ resting l limit (p + q)
rest-at l limit p zero q h = absurd (omega arith)
rest-at l limit p (suc n) zero h = let e : p ≡ p + 0 = omega arith in ap (resting l limit) e
rest-at l limit p (suc n) (suc q) h = let e : p + 1 + q ≡ p + suc q = omega arith in rest-at l limit (p + 1) n q (omega arith) ∙ ap (resting l limit) e

-- a list is determined by its length and its items
pub rest_is : (l : Layout) (limit : ℕ) (xs : List MachineState) (p n : ℕ) → length xs ≡ n → ((q : ℕ) → q < n → machine_state_at xs q ≡ resting l limit (p + q)) → xs ≡ at_rest_from l limit p n
rest_is l limit [] p zero len each = refl
rest_is l limit [] p (suc n) len each = cc
rest_is l limit (x ∷ xs) p zero len each = absurd (omega arith)
rest_is l limit (x ∷ xs) p (suc n) len each =
    let zero_ : p + 0 ≡ p = omega arith in
    let here : x ≡ resting l limit p = each 0 (omega arith) ∙ ap (resting l limit) zero_ in
    let rest = rest_is l limit xs (p + 1) n (omega (arith, len)) (λ q h. let e : p + suc q ≡ p + 1 + q = omega arith in each (suc q) (omega arith) ∙ ap (resting l limit) e) in
    λ i. here i ∷ rest i

zero_words : (n : ℕ) → own_at (replicate n zeros) ≡ at_first.words
zero_words n = λ i. λ p. each p i
  where
    each : (p : ℕ) → own_at (replicate n zeros) p ≡ zeros
    each p = elim (cases_lt p n) [ inl h ↦ get_or-replicate n p zeros zeros h | inr h ↦ get_or_past (replicate n zeros) p zeros (rw length-replicate h) ]

pub zero_cells : (n : ℕ) → words_of (replicate n 0) ≡ at_first.cells
zero_cells n = λ i. λ p. each p i
  where
    each : (p : ℕ) → words_of (replicate n 0) p ≡ 0
    each p = elim (cases_lt p n) [ inl h ↦ get_or-replicate n p 0 0 h | inr h ↦ get_or_past (replicate n 0) p 0 (rw length-replicate h) ]

rest_process_states : (l : Layout) (limit : ℕ) → process_state_at (at_rest_from l limit 0 l.procs) ≡ at_first.process_states
rest_process_states l limit = λ i. λ p. each p i
  where
    each : (p : ℕ) → process_state_at (at_rest_from l limit 0 l.procs) p ≡ at_rest
    each p =
        elim (cases_lt p l.procs) [
          | inl h ↦ ap process_state_of (rest-at l limit 0 l.procs p h)
          | inr h ↦ ap process_state_of (get_or_past (at_rest_from l limit 0 l.procs) p absent_machine (rw length-rest h))
        ]

pub new_global_state : (l : Layout) (limit : ℕ) → global_state_of (new_world l limit) ≡ at_first
new_global_state l limit =
    let words = zero_words l.procs in
    let cells = zero_cells (size l) in
    let process_states = rest_process_states l limit in
    λ i. record { words = words i; cells = cells i; process_states = process_states i }

pub world_new : (l : Layout) (limit : ℕ) → IsSize l → (1 ≤ limit) × (limit ≤ 2 ^ 62) → IsWorld (new_world l limit)
world_new l limit sized limited =
    record {
      sized = sized;
      limited = limited;
      filled = length-replicate (size l) 0;
      configured = record {
        words_each = length-replicate l.procs zeros;
        processes_each = length-rest l limit 0 l.procs;
        tallies_each = length-replicate l.procs (new_tally zeros);
        configurations = λ p below. subst (HasConfiguration l limit p) (sym (rest-at l limit 0 l.procs p below)) (let e : 0 + p ≡ p = omega arith in (refl, refl, e));
      };
      reached = record {
        first = at_first;
        state = empty_state l.procs l.cap;
        origin = inl (refl, refl);
        execution = [];
        reports = tt;
        last = sym (new_global_state l limit);
        done = refl;
      };
      tallied = λ p below.
          let process_state : process_state_at (at_rest_from l limit 0 l.procs) p ≡ at_rest = ap process_state_of (rest-at l limit 0 l.procs p below) in
          let tally : tally_at (replicate l.procs (new_tally zeros)) p ≡ new_tally zeros = get_or-replicate l.procs p (new_tally zeros) _ below in
          subst (λ x. IsTallied l (own_at (replicate l.procs zeros) p) x (tally_at (replicate l.procs (new_tally zeros)) p)) (sym process_state)
          (subst (IsTallied l (own_at (replicate l.procs zeros) p) at_rest) (sym tally) (record { began = λ h. absurd h; taking = λ exact. (0, tt, refl) }));
    }

pub world_step : (s : WorldState) (p : ℕ) (a : Access) → IsWorld s → IsStep s p a → IsWorld (advanced_by s p a)
world_step s p a world step =
    let st : MachineState = machine_state_at s.processes p in
    let configuration = step.configured.configurations p step.below in
    let keeps = keeps_stepped st st.script_state _ in
    record {
      sized = world.sized;
      limited = world.limited;
      filled = cells_by_length s.cells a ∙ world.filled;
      configured = configured_set step.configured step.below _ _ _ (words_by_length s.words a) (length-set s.tallies p _) (keeps.0 ∙ configuration.0, keeps.1 ∙ configuration.1, keeps.2 ∙ configuration.2);
      reached = reached_by s _ (advanced_by s p a) (step_takes s p a step) world.reached;
      tallied = tallied_step s p a step world.tallied;
    }

-- the process at an index, and its counts
pub found : (s : WorldState) (p : ℕ) (t : MachineState) → IsWorld s → p < s.layout.procs → t ≡ slice_index_or s.processes p t → machine_state_at s.processes p ≡ t
found s p t world below is = get_or_default s.processes p absent_machine t (subst (λ n. p < n) (sym world.configured.processes_each) below) ∙ sym is

pub own_found : (s : WorldState) (p : ℕ) (x : Own) → IsWorld s → p < s.layout.procs → x ≡ slice_index_or s.words p x → own_at s.words p ≡ x
own_found s p x world below is = get_or_default s.words p zeros x (subst (λ n. p < n) (sym world.configured.words_each) below) ∙ sym is

pub tally_found : (s : WorldState) (p : ℕ) (t : Tally) → IsWorld s → p < s.layout.procs → t ≡ slice_index_or s.tallies p t → tally_at s.tallies p ≡ t
tally_found s p t world below is = get_or_default s.tallies p _ t (subst (λ n. p < n) (sym world.configured.tallies_each) below) ∙ sym is

mails : (l : Layout) (p q : ℕ) (cells : Words) (a : Access) (x : ℕ) → StoresOwn q a → mail_by l p cells a ≡ mail_deeds l cells (Moves p (kind_of a) (word_of a) (carried_value a x))
mails l p q cells (Load kind word) x own = rw own refl
mails l p q cells (Store kind word v) x own = rw (own.0) refl

-- the lock's part puts no data word
no_put : (limit p : ℕ) (place : Place) (l : Layout) (q : ℕ) (cells : Words) → IfSome (access limit p place) (λ a. mail_by l q cells a ≡ [])
no_put limit p (Door [] m) l q cells = elim (cases_Bool (nat_lt m limit)) [ inl e ↦ rw e refl | inr e ↦ rw e refl ]
no_put limit p (Reread call (c ∷ k ∷ i ∷ seen)) l q cells = tt
no_put limit p (Wait k unpassed (Some j)) l q cells = refl
no_put limit p (Wait k (j ∷ js) None) l q cells = refl
no_put limit p _ l q cells = assumption

-- a step has at most one deed
one_deed : (l : Layout) (limit p q : ℕ) (place : Place) (e : ScriptState) (a : Access) (cells : Words) (x : ℕ) → access_by limit p place e ≡ Some a
    → or_else (outer_by q place e (kind_of a) x) (mail_by l q cells a) ≡ outer_deeds (outer_by q place e (kind_of a) x) ++ mail_by l q cells a
one_deed l limit p q place (Doing purpose left) a cells x next = refl
one_deed l limit p q place Free a cells x next = by (step_deed q place (kind_of a) x)
  where
    by : (o : Option Outer) → or_else o (mail_by l q cells a) ≡ outer_deeds o ++ mail_by l q cells a
    by None = refl
    by (Some d) =
        let none : mail_by l q cells a ≡ [] = subst (λ o. IfSome o (λ a. mail_by l q cells a ≡ [])) next (no_put limit p place l q cells) in
        ap (λ ds. OuterDeed d ∷ ds) (sym none)

-- the deeds of an access, from its effects for the process
pub deeds_are : (s : WorldState) (p : ℕ) (a : Access) (q : ℕ) → IsConfigured s.layout s.limit s.words s.processes s.tallies → p < s.layout.procs → StoresOwn q a → next_access (machine_state_at s.processes p) ≡ Some a
    → prospect_of s p a (outcome (machine_state_at s.processes p) (Some a) (reading (global_state_of s) (word_of a))) ≡ event_deeds s.layout (global_state_of s) (world_event s p a)
deeds_are s p a q configured below own next =
    let st : MachineState = machine_state_at s.processes p in
    let configuration = configured.configurations p below in
    let x : ℕ = carried_value a (reading (global_state_of s) (word_of a)) in
    let mail = mails s.layout p q (words_of s.cells) a (reading (global_state_of s) (word_of a)) own in
    (λ i. or_else (outer_by (configuration.2 i) st.lock (script_state_of st.script_state) (kind_of a) x) (mail_by s.layout p (words_of s.cells) a))
    ∙ one_deed s.layout st.limit st.index p st.lock (script_state_of st.script_state) a (words_of s.cells) x next
    ∙ ap (λ ds. outer_deeds (outer_by p st.lock (script_state_of st.script_state) (kind_of a) x) ++ ds) mail

pub the_one : (d : Option Deed) → the_deed (list_of d) ≡ d
the_one None = refl
the_one (Some d) = refl

pub world_start : (s : WorldState) (p : ℕ) (call : Call) → IsWorld s → p < s.layout.procs
    → next_process_state (machine_state_at s.processes p).layout (machine_state_at s.processes p).limit (process_state_at s.processes p) (Begins (machine_state_at s.processes p).index call) ≡ Some (process_state_of (machine_state_started (machine_state_at s.processes p) call))
    → IsWorld (world_after_start s p call)
world_start s p call world below to =
    let st : MachineState = machine_state_at s.processes p in
    let configuration = world.configured.configurations p below in
    let keeps = keeps_started st st.mended call refl in
    record {
      sized = world.sized;
      limited = world.limited;
      filled = world.filled;
      configured = configured_set world.configured below _ _ _ refl (length-set s.tallies p _) (keeps.0 ∙ configuration.0, keeps.1 ∙ configuration.1, keeps.2 ∙ configuration.2);
      reached = reached_by s (Begins p call) (world_after_start s p call) (start_takes s p call (machine_state_started st call) (world_after_start s p call).tallies world.configured below to) world.reached;
      tallied = tallied_start s p call world.configured below (start_takes s p call (machine_state_started st call) (world_after_start s p call).tallies world.configured below to) world.tallied;
    }

pub world_crash : (s : WorldState) (p : ℕ) → IsWorld s → p < s.layout.procs → IsWorld (world_after_crash s p)
world_crash s p world below =
    record {
      sized = world.sized;
      limited = world.limited;
      filled = world.filled;
      configured = configured_set world.configured below _ _ _ refl refl (world.configured.configurations p below);
      reached = reached_by s (Falls p) (world_after_crash s p) (crash_takes s p world.configured below) world.reached;
      tallied = tallied_crash s p below (crash_takes s p world.configured below) world.tallied;
    }

pub size_held : (l : Layout) → IsLayout l → saturate (size l) ≡ size l
size_held l h = let small = size_small l h in omega (arith, small)
