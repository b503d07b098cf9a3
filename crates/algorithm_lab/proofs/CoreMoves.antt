-- What the contract of a core says of a step names one move alone: the processes of a scan are read by rising index.
use Rattle.std.proofs.Common.{◌≡◌, ℕ, zero, suc, ◌+◌, ◌-◌, ◌<◌, ◌≤◌, max, Bool, true, false, ◌&&◌, ◌||◌, ◌==◌, if◌then◌else◌, nat_lt, nat_le, List, [], ◌∷◌, Option, Some, None, IsSome, IfSome, unwrap_or, refl, sym, ap, ◌∙◌, subst, inl, inr, arith, eqb-true, lt-ltb, leb-true, ◌++◌}
use Rattle.std.specs.Prelude.{option_map}
use Rattle.std.proofs.lemmas.Bool.{cases_Bool, cases_eq, and_parts, or_cases, le-ltb}
use Rattle.rmecore.specs.declared.access.Access.{Access}
use Rattle.rmecore.specs.declared.access.Access.TheVariants.{Load, Store}
use Rattle.rmecore.specs.declared.core_call.CoreCall.{CoreCall}
use Rattle.rmecore.specs.declared.core_call.CoreCall.TheVariants.{Lock, Unlock, Withdraw, Recover}
use Rattle.rmecore.specs.declared.kind.Kind.{Kind}
use Rattle.rmecore.specs.declared.kind.Kind.TheVariants.{Take as Taking, Shut as Shuts, Reread as Rereads, Open as Opens, Peek as Peeks, Look as Looks, Weigh as Weighs, Mark as Marks, Drop as Drops, Glance as Glances}
use Rattle.rmecore.specs.declared.word.Word.{Word}
use Rattle.rmecore.specs.declared.word.Word.TheVariants.{Choosing as ChoosingOf, Number as NumberOf, Inside as InsideOf}
use Rattle.rmecore.specs.Machine.{access, kind_of, word_of, carried_value, answer, owner}
use Rattle.rmecore.specs.Needs.{put}
use Rattle.rmecore.specs.Paid.{is_glance}
use Rattle.rmecore.specs.Place.{Place, Rest, Dead, Reread, Opening, Door, Shutting, Wait, Inside, Leaving, Withdrawing, Unmarking, has, others, span, without, only, next, Event, Starts, Crashes, Steps, restart, place_after_start, shut, place_after_unmark, is_before}
use Rattle.rmecore.specs.World.{World, at_rest, is_store, read, May, after, Run, final, IsReached, deed, step_deed}
use Rattle.rmecore.specs.Refused.{start_refusal, is_idle}
use Rattle.rmecore.specs.Simulated.{Simulated, Takes, world_of, place_at, event_of, ChoosesLeast, refusal_at, step_refusal}
use Rattle.rmecore.specs.declared.happened.Happened.{Happened}
use Rattle.rmecore.specs.declared.outer.Outer.{Outer}
use Rattle.rmecore.specs.declared.outer.Outer.TheVariants as Outers
use Rattle.rmecore.specs.declared.refusal.Refusal.{Refusal}
use Rattle.rmecore.specs.declared.refusal.Refusal.TheVariants.{NoSuchProcess, NothingToDo}
use Rattle.rmecore.proofs.Accesses.{passed}
use Rattle.rmecore.proofs.CoreSteps.{KindFits, kind_fits}
use Rattle.rmecore.proofs.Invariant.{put_same, put_other}
use Rattle.rmecore.proofs.Runs.{guard}
use Rattle.rmecore.proofs.Scans.{has-span-low, without_has, has-first}
use Rattle.algorithm_lab.specs.Monitors.{answer_reports}
use Rattle.algorithm_lab.specs.Moves.{MoveResult, Tells, core_call, answer_number, deed_report, refused_outcome, unless, step_outcome, step_by, lock_move}
use Rattle.algorithm_lab.specs.Moves as Moves
use Rattle.algorithms.specs.declared.algorithm.AlgorithmCall.{AlgorithmCall}

-- a rising list
abbrev Rising : List ℕ → Type 0
Rising [] = Unit {0}
Rising (j ∷ js) = ((i : ℕ) → has js i ≡ true → j < i) × Rising js

rising_without : (j : ℕ) (js : List ℕ) → Rising js → Rising (without j js)
rising_without j [] h = tt
rising_without j (i ∷ js) h =
    elim (cases_Bool (i == j)) [
      | inl e ↦ rw e (rising_without j js h.1)
      | inr e ↦ rw e (λ r there. h.0 r (without_has js r j there), rising_without j js h.1)
    ]

rising_span : (p i k : ℕ) → Rising (span p i k)
rising_span p i zero = tt
rising_span p i (suc k) =
    elim (cases_Bool (i == p)) [
      | inl e ↦ rw e (rising_span p (i + 1) k)
      | inr e ↦ rw e (λ r there. let low = has-span-low p (i + 1) k r there in omega arith, rising_span p (i + 1) k)
    ]

rising_others : (n p : ℕ) → Rising (others n p)
rising_others n p = rising_span p 0 (n - 0)

-- its first is the least
first_least : (j i : ℕ) (js : List ℕ) → Rising (j ∷ js) → has (j ∷ js) i ≡ true → j ≤ i
first_least j i js h there =
    elim (or_cases (i == j) (has js i) there) [
      | inl e ↦ let same : i ≡ j = eqb-true i j e in omega arith
      | inr later ↦ let less : j < i = h.0 i later in omega arith
    ]

abbrev pub Ordered : Place → Type 0
Ordered (Door unread m) = Rising unread
Ordered (Wait k unpassed looked) = Rising unpassed
Ordered (Reread call (c ∷ k ∷ i ∷ seen)) = ⊥
Ordered _ = Unit {0}

ordered_restart : (n p : ℕ) (call : CoreCall) (c k i : ℕ) → Ordered (restart n p call c k i)
ordered_restart n p Lock (suc c) zero i = rising_others n p
ordered_restart n p Lock (suc c) (suc k) i = tt
ordered_restart n p Lock zero zero zero = tt
ordered_restart n p Lock zero zero (suc i) = tt
ordered_restart n p Lock zero (suc k) zero = rising_others n p
ordered_restart n p Lock zero (suc k) (suc i) = tt
ordered_restart n p _ (suc c) zero i = tt
ordered_restart n p _ (suc c) (suc k) i = tt
ordered_restart n p _ zero zero zero = tt
ordered_restart n p _ zero zero (suc i) = tt
ordered_restart n p _ zero (suc k) zero = tt
ordered_restart n p _ zero (suc k) (suc i) = tt

ordered_shut : (n p : ℕ) (call : CoreCall) (k : ℕ) → Ordered (shut n p call k)
ordered_shut n p Lock k = rising_others n p
ordered_shut n p _ k = tt

ordered_unmarked : (call : CoreCall) → Ordered (place_after_unmark call)
ordered_unmarked Lock = tt
ordered_unmarked _ = tt

ordered_if : (b : Bool) (t s : Place) → Ordered t → Ordered s → Ordered (if b then t else s)
ordered_if true t s h k = h
ordered_if false t s h k = k

ordered_next : (n limit p : ℕ) (s : Place) (kind : Kind) (word : Word) (v : ℕ) → IsSome (next n limit p s kind word v) → Ordered s → Ordered (unwrap_or (next n limit p s kind word v) s)
ordered_next n limit p (Reread call []) Rereads (ChoosingOf q) v some h = guard (q == p) (Reread call (v ∷ [])) _ Ordered some (λ e. tt)
ordered_next n limit p (Reread call (c ∷ [])) Rereads (NumberOf q) v some h = guard (q == p) (Reread call (c ∷ v ∷ [])) _ Ordered some (λ e. tt)
ordered_next n limit p (Reread call (c ∷ k ∷ [])) Rereads (InsideOf q) v some h = guard (q == p) (restart n p call c k v) _ Ordered some (λ e. ordered_restart n p call c k v)
ordered_next n limit p Opening Opens (ChoosingOf q) v some h = guard ((q == p) && (v == 1)) (Door (others n p) 0) _ Ordered some (λ e. rising_others n p)
ordered_next n limit p (Door unread m) Peeks (NumberOf j) v some h = guard (has unread j) (Door (without j unread) (max m v)) _ Ordered some (λ e. rising_without j unread h)
ordered_next n limit p (Door [] m) Taking (NumberOf q) v some h = guard ((q == p) && (nat_lt m limit && (v == m + 1))) (Shutting Lock v) _ Ordered some (λ e. tt)
ordered_next n limit p (Door [] m) Shuts (ChoosingOf q) v some h = guard ((q == p) && (nat_le limit m && (v == 0))) Rest _ Ordered some (λ e. tt)
ordered_next n limit p (Shutting call k) Shuts (ChoosingOf q) v some h = guard ((q == p) && (v == 0)) (shut n p call k) _ Ordered some (λ e. ordered_shut n p call k)
ordered_next n limit p (Wait k unpassed None) Looks (ChoosingOf j) v some h =
    guard (has unpassed j) (if v == 0 then Wait k unpassed (Some j) else Wait k unpassed None) _ Ordered some (λ e. ordered_if (v == 0) (Wait k unpassed (Some j)) (Wait k unpassed None) h h)
ordered_next n limit p (Wait k unpassed (Some i)) Weighs (NumberOf j) v some h =
    guard (j == i) (if (v == 0) || is_before k p v j then Wait k (without j unpassed) None else Wait k unpassed (Some i)) _ Ordered some
    (λ e. ordered_if ((v == 0) || is_before k p v j) (Wait k (without j unpassed) None) (Wait k unpassed (Some i)) (rising_without j unpassed h) h)
ordered_next n limit p (Wait k [] None) Marks (InsideOf q) v some h = guard ((q == p) && (v == 1)) Inside _ Ordered some (λ e. tt)
ordered_next n limit p Leaving Drops (NumberOf q) v some h = guard ((q == p) && (v == 0)) (Unmarking Unlock) _ Ordered some (λ e. tt)
ordered_next n limit p Withdrawing Drops (NumberOf q) v some h = guard ((q == p) && (v == 0)) Rest _ Ordered some (λ e. tt)
ordered_next n limit p (Unmarking call) Marks (InsideOf q) v some h = guard ((q == p) && (v == 0)) (place_after_unmark call) _ Ordered some (λ e. ordered_unmarked call)
ordered_next n limit p s Glances (ChoosingOf q) v some h = h
ordered_next n limit p s Glances (NumberOf q) v some h = h
ordered_next n limit p s Glances (InsideOf q) v some h = h
ordered_next _ _ _ _ _ _ _ some h = absurd (cc)

ordered_started : (s : Place) (call : CoreCall) → IsSome (place_after_start s call) → Ordered (unwrap_or (place_after_start s call) s)
ordered_started Rest Lock some = tt
ordered_started Rest Recover some = tt
ordered_started Dead Lock some = tt
ordered_started Dead Recover some = tt
ordered_started Inside Unlock some = tt
ordered_started (Wait k u l) Withdraw some = tt
ordered_started _ _ some = absurd (cc)

ordered_put : (places : ℕ → Place) (p : ℕ) (s : Place) → ((q : ℕ) → Ordered (places q)) → Ordered s → (q : ℕ) → Ordered (put places p s q)
ordered_put places p s h here q =
    elim (cases_eq q p) [
      | inl e ↦ subst (λ r. Ordered (put places p s r)) (sym e) (subst Ordered (sym (put_same places p s)) here)
      | inr ne ↦ subst Ordered (sym (put_other places p s q ne)) (h q)
    ]

ordered_after : (n limit : ℕ) (w : World) (e : Event) → May n limit w e → ((q : ℕ) → Ordered (w.places q)) → (q : ℕ) → Ordered ((after n limit w e).places q)
ordered_after n limit w (Starts p call) may h = ordered_put w.places p _ h (ordered_started (w.places p) call may.1)
ordered_after n limit w (Crashes p) may h = ordered_put w.places p Dead h tt
ordered_after n limit w (Steps p kind word v) may h = ordered_put w.places p _ h (ordered_next n limit p (w.places p) kind word v may.1 (h p))

ordered_run : (n limit : ℕ) (events : List Event) (w : World) → Run n limit w events → ((q : ℕ) → Ordered (w.places q)) → (q : ℕ) → Ordered ((final n limit w events).places q)
ordered_run n limit [] w run h = h
ordered_run n limit (e ∷ es) w run h = ordered_run n limit es (after n limit w e) run.1 (ordered_after n limit w e run.0 h)

pub ordered_reached : (n limit : ℕ) (w : World) → IsReached n limit w → (q : ℕ) → Ordered (w.places q)
ordered_reached n limit w h = subst (λ w. (q : ℕ) → Ordered (w.places q)) h.world (ordered_run n limit h.events at_rest h.run (λ q. tt))

-- the step that is allowed, of the least word, is that of the machine
pub record IsNext (limit p : ℕ) (place : Place) (kind : Kind) (word : Word) (v : ℕ) : Type 0 where
  pub acc : Access
  pub is : access limit p place ≡ Some acc
  pub kind_is : kind ≡ kind_of acc
  pub word_is : word ≡ word_of acc
  pub value_is : v ≡ carried_value acc v

mine : (q p : ℕ) (b : Bool) (t : Place) → IsSome (only ((q == p) && b) t) → (q ≡ p) × (b ≡ true)
mine q p b t some = let both = and_parts (q == p) b (passed ((q == p) && b) t some) in (eqb-true q p both.0, both.1)

pub pinned : (n limit p : ℕ) (s : Place) (kind : Kind) (word : Word) (v : ℕ) → IsSome (next n limit p s kind word v) → is_glance kind ≡ false → Ordered s
    → ((other : Word) (x : ℕ) → IsSome (next n limit p s kind other x) → owner word ≤ owner other) → IsNext limit p s kind word v
pinned n limit p (Reread call []) Rereads (ChoosingOf q) v some calm h least = record { acc = Load Rereads (ChoosingOf p); is = refl; kind_is = refl; word_is = ap ChoosingOf (eqb-true q p (passed (q == p) _ some)); value_is = refl }
pinned n limit p (Reread call (c ∷ [])) Rereads (NumberOf q) v some calm h least = record { acc = Load Rereads (NumberOf p); is = refl; kind_is = refl; word_is = ap NumberOf (eqb-true q p (passed (q == p) _ some)); value_is = refl }
pinned n limit p (Reread call (c ∷ k ∷ [])) Rereads (InsideOf q) v some calm h least = record { acc = Load Rereads (InsideOf p); is = refl; kind_is = refl; word_is = ap InsideOf (eqb-true q p (passed (q == p) _ some)); value_is = refl }
pinned n limit p Opening Opens (ChoosingOf q) v some calm h least =
    let m = mine q p (v == 1) (Door (others n p) 0) some in record { acc = Store Opens (ChoosingOf p) 1; is = refl; kind_is = refl; word_is = ap ChoosingOf m.0; value_is = eqb-true v 1 m.1 }
pinned n limit p (Door (j ∷ js) m) Peeks (NumberOf q) v some calm h least =
    let low : j ≤ q = first_least j q js h (passed (has (j ∷ js) q) _ some) in
    let high : q ≤ j = least (NumberOf j) 0 (let yes : has (j ∷ js) j ≡ true = has-first j js in rw yes) in
    record { acc = Load Peeks (NumberOf j); is = refl; kind_is = refl; word_is = ap NumberOf (omega arith); value_is = refl }
pinned n limit p (Door [] m) Taking (NumberOf q) v some calm h least =
    let x = mine q p (nat_lt m limit && (v == m + 1)) (Shutting Lock v) some in
    let both = and_parts (nat_lt m limit) (v == m + 1) x.1 in
    record { acc = Store Taking (NumberOf p) (m + 1); is = ap (λ t. if t then Some (Store Taking (NumberOf p) (m + 1)) else Some (Store Shuts (ChoosingOf p) 0)) both.0; kind_is = refl; word_is = ap NumberOf x.0; value_is = eqb-true v (m + 1) both.1 }
pinned n limit p (Door [] m) Shuts (ChoosingOf q) v some calm h least =
    let x = mine q p (nat_le limit m && (v == 0)) Rest some in
    let both = and_parts (nat_le limit m) (v == 0) x.1 in
    let past : limit ≤ m = leb-true limit m both.0 in
    record { acc = Store Shuts (ChoosingOf p) 0; is = ap (λ t. if t then Some (Store Taking (NumberOf p) (m + 1)) else Some (Store Shuts (ChoosingOf p) 0)) (le-ltb m limit past); kind_is = refl; word_is = ap ChoosingOf x.0; value_is = eqb-true v 0 both.1 }
pinned n limit p (Shutting call k) Shuts (ChoosingOf q) v some calm h least =
    let m = mine q p (v == 0) (shut n p call k) some in record { acc = Store Shuts (ChoosingOf p) 0; is = refl; kind_is = refl; word_is = ap ChoosingOf m.0; value_is = eqb-true v 0 m.1 }
pinned n limit p (Wait k (j ∷ js) None) Looks (ChoosingOf q) v some calm h least =
    let low : j ≤ q = first_least j q js h (passed (has (j ∷ js) q) _ some) in
    let high : q ≤ j = least (ChoosingOf j) 0 (let yes : has (j ∷ js) j ≡ true = has-first j js in rw yes) in
    record { acc = Load Looks (ChoosingOf j); is = refl; kind_is = refl; word_is = ap ChoosingOf (omega arith); value_is = refl }
pinned n limit p (Wait k unpassed (Some j)) Weighs (NumberOf q) v some calm h least = record { acc = Load Weighs (NumberOf j); is = refl; kind_is = refl; word_is = ap NumberOf (eqb-true q j (passed (q == j) _ some)); value_is = refl }
pinned n limit p (Wait k [] None) Marks (InsideOf q) v some calm h least =
    let m = mine q p (v == 1) Inside some in record { acc = Store Marks (InsideOf p) 1; is = refl; kind_is = refl; word_is = ap InsideOf m.0; value_is = eqb-true v 1 m.1 }
pinned n limit p Leaving Drops (NumberOf q) v some calm h least =
    let m = mine q p (v == 0) (Unmarking Unlock) some in record { acc = Store Drops (NumberOf p) 0; is = refl; kind_is = refl; word_is = ap NumberOf m.0; value_is = eqb-true v 0 m.1 }
pinned n limit p Withdrawing Drops (NumberOf q) v some calm h least =
    let m = mine q p (v == 0) Rest some in record { acc = Store Drops (NumberOf p) 0; is = refl; kind_is = refl; word_is = ap NumberOf m.0; value_is = eqb-true v 0 m.1 }
pinned n limit p (Unmarking call) Marks (InsideOf q) v some calm h least =
    let m = mine q p (v == 0) (place_after_unmark call) some in record { acc = Store Marks (InsideOf p) 0; is = refl; kind_is = refl; word_is = ap InsideOf m.0; value_is = eqb-true v 0 m.1 }
pinned n limit p (Door [] m) Peeks (NumberOf q) v some calm h least = absurd (cc)
pinned n limit p (Wait k [] None) Looks (ChoosingOf q) v some calm h least = absurd (cc)
pinned n limit p s Glances (ChoosingOf q) v some calm h least = absurd (cc)
pinned n limit p s Glances (NumberOf q) v some calm h least = absurd (cc)
pinned n limit p s Glances (InsideOf q) v some calm h least = absurd (cc)
pinned _ _ _ _ _ _ _ some calm h least = absurd (cc)

-- ---- the moves of a core

valued : (w : World) (p : ℕ) (kind : Kind) (word : Word) (v : ℕ) (acc : Access) → KindFits acc → kind ≡ kind_of acc → word ≡ word_of acc → v ≡ carried_value acc v → (is_store kind ≡ false → read w.words word ≡ v) → carried_value acc (read w.words (word_of acc)) ≡ v
valued w p kind word v (Load k x) fits same there value reports = ap (read w.words) (sym there) ∙ reports (ap is_store same ∙ fits)
valued w p kind word v (Store k x y) fits same there value reports = sym value

idle_none : (limit p : ℕ) (place : Place) → is_idle place ≡ true → access limit p place ≡ None
idle_none limit p Rest e = refl
idle_none limit p Dead e = refl
idle_none limit p Inside e = refl
idle_none limit p _ e = absurd (cc)

-- what is said of a move of a process that may not be there
abbrev if_by : Bool → MoveResult World → World → MoveResult World
if_by b outcome w = if b then outcome else refused_outcome w NoSuchProcess

abbrev reported : ℕ → ℕ → World → ℕ → ℕ → Kind → Word → MoveResult World
reported n limit w p v kind word =
    record { said = Tells (deed_report (step_deed p (w.places p) kind v) ++ answer_reports p (option_map answer_number (answer (w.places p) kind v))); left = after n limit w (Steps p kind word v) }

-- a step that a core has taken is the move of the lock
pub core_step : (s t : Simulated) (p : ℕ) (h : Happened) → IsReached s.procs s.limit (world_of s) → Takes s (event_of p h) t → is_glance h.kind ≡ false → ChoosesLeast s p h
    → h.outer ≡ deed (place_at s.processes p) (event_of p h) → h.done ≡ answer (place_at s.processes p) h.kind h.value → lock_move s.procs s.limit (world_of s) (Moves.Step p) ≡ record { said = Tells (deed_report h.outer ++ answer_reports p (option_map answer_number h.done)); left = world_of t }
core_step s t p h reached takes calm least outer answers =
    let n : ℕ = s.procs in
    let limit : ℕ = s.limit in
    let w : World = world_of s in
    let place : Place = place_at s.processes p in
    let q = pinned n limit p place h.kind h.word h.value takes.may.1 calm (ordered_reached n limit w reached p) least in
    let fits : KindFits q.acc = subst (λ o. IfSome o KindFits) q.is (kind_fits limit p place) in
    let value : carried_value q.acc (read w.words (word_of q.acc)) ≡ h.value = valued w p h.kind h.word h.value q.acc fits q.kind_is q.word_is q.value_is takes.may.2 in
    ap (λ b. if_by b (step_by n limit w p (access limit p place)) w) (lt-ltb p n takes.may.0)
    ∙ ap (step_by n limit w p) q.is
    ∙ ap (step_outcome n limit w p q.acc) value
    ∙ ap (λ k. reported n limit w p h.value k (word_of q.acc)) (sym q.kind_is)
    ∙ ap (reported n limit w p h.value h.kind) (sym q.word_is)
    ∙ ap (λ d. record { said = Tells (deed_report d ++ answer_reports p (option_map answer_number (answer place h.kind h.value))); left = after n limit w (event_of p h) }) (sym outer)
    ∙ ap (λ d. record { said = Tells (deed_report h.outer ++ answer_reports p (option_map answer_number d)); left = after n limit w (event_of p h) }) (sym answers)
    ∙ ap (λ x. record { said = Tells (deed_report h.outer ++ answer_reports p (option_map answer_number h.done)); left = x }) (sym takes.world)

-- a start that a core accepts
pub core_start : (s t : Simulated) (p : ℕ) (call : AlgorithmCall) → refusal_at s p (core_call call) ≡ None → Takes s (Starts p (core_call call)) t → lock_move s.procs s.limit (world_of s) (Moves.Start p call) ≡ record { said = Tells []; left = world_of t }
core_start s t p call e takes =
    let n : ℕ = s.procs in
    let w : World = world_of s in
    let place : Place = place_at s.processes p in
    let there : nat_lt p n ≡ true = lt-ltb p n takes.may.0 in
    let free : start_refusal place (core_call call) ≡ None = ap (λ b. if b then start_refusal place (core_call call) else Some NoSuchProcess) (sym there) ∙ e in
    ap (λ b. if_by b (unless (start_refusal place (core_call call)) w (record { said = Tells []; left = after n s.limit w (Starts p (core_call call)) })) w) there
    ∙ ap (λ o. unless o w (record { said = Tells []; left = after n s.limit w (Starts p (core_call call)) })) free
    ∙ ap (λ x. record { said = Tells []; left = x }) (sym takes.world)

start_refused : (w : World) (b : Bool) (o : Option Refusal) (e : Refusal) (out : MoveResult World) → (if b then o else Some NoSuchProcess) ≡ Some e → if_by b (unless o w out) w ≡ refused_outcome w e
start_refused w true None e out is = absurd (cc)
start_refused w true (Some r) e out is = let same : r ≡ e = cc in ap (refused_outcome w) same
start_refused w false o e out is = let same : NoSuchProcess ≡ e = cc in ap (refused_outcome w) same

-- a start that a core refuses
pub core_refuses_start : (s : Simulated) (p : ℕ) (call : AlgorithmCall) (e : Refusal) → refusal_at s p (core_call call) ≡ Some e → lock_move s.procs s.limit (world_of s) (Moves.Start p call) ≡ refused_outcome (world_of s) e
core_refuses_start s p call e is =
    start_refused (world_of s) (nat_lt p s.procs) (start_refusal (place_at s.processes p) (core_call call)) e (record { said = Tells []; left = after s.procs s.limit (world_of s) (Starts p (core_call call)) }) is

step_refused : (n limit p : ℕ) (w : World) (b idle : Bool) (o : Option Access) (e : Refusal) → (idle ≡ true → o ≡ None) → (if b then (if idle then Some NothingToDo else None) else Some NoSuchProcess) ≡ Some e → if_by b (step_by n limit w p o) w ≡ refused_outcome w e
step_refused n limit p w true true o e none is = let same : NothingToDo ≡ e = cc in ap (step_by n limit w p) (none refl) ∙ ap (refused_outcome w) same
step_refused n limit p w true false o e none is = absurd (cc)
step_refused n limit p w false idle o e none is = let same : NoSuchProcess ≡ e = cc in ap (refused_outcome w) same

-- a step that a core refuses
pub core_refuses_step : (s : Simulated) (p : ℕ) (e : Refusal) → step_refusal s p ≡ Some e → lock_move s.procs s.limit (world_of s) (Moves.Step p) ≡ refused_outcome (world_of s) e
core_refuses_step s p e is =
    step_refused s.procs s.limit p (world_of s) (nat_lt p s.procs) (is_idle (place_at s.processes p)) (access s.limit p (place_at s.processes p)) e (idle_none s.limit p (place_at s.processes p)) is

-- a crash of a core
pub core_crash : (s t : Simulated) (p : ℕ) (outer : Outer) → deed (place_at s.processes p) (Crashes p) ≡ Some outer → Takes s (Crashes p) t → lock_move s.procs s.limit (world_of s) (Moves.Crash p) ≡ record { said = Tells (deed_report (Some outer)); left = world_of t }
core_crash s t p outer is takes =
    let w : World = world_of s in
    let same : Outers.Crash p ≡ outer = cc in
    ap (λ b. if_by b (record { said = Tells (deed_report (Some (Outers.Crash p))); left = after s.procs s.limit w (Crashes p) }) w) (lt-ltb p s.procs takes.may.0)
    ∙ ap (λ o. record { said = Tells (deed_report (Some o)); left = after s.procs s.limit w (Crashes p) }) same
    ∙ ap (λ x. record { said = Tells (deed_report (Some outer)); left = x }) (sym takes.world)
