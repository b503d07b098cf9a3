-- A whole world follows each continuation of its lock's run: each event of the lock by events of the world, and each script at
-- once to its end. A holder that is not mended mends before it unlocks. So a lock that is not ruined stays so.
use Rattle.std.proofs.Common.{◌≡◌, ◌≢◌, ℕ, zero, suc, ◌<◌, ◌≤◌, Bool, true, false, ◌==◌, ◌&&◌, if◌then◌else◌, List, [], ◌∷◌, Option, Some, None, IsSome, unwrap_or, refl, sym, ap, ◌∙◌, subst, inl, inr, ◌⊎◌, arith, eq-eqb}
use Rattle.std.specs.Prelude.{All}
use Rattle.std.proofs.lemmas.List.Elements.{All-append}
use Rattle.rmeworld.proofs.Common.{cases_Bool, cases_eq, All-nil, All-cons, All-head, All-tail, put_same, put_other, not_data, CoreCall, Kind, Gets, Puts, Glance, Outer, Own, Word, Data as DataAt, Choosing, Number, put}
use Rattle.rmeworld.proofs.Common.{has, Place, next, Rest, Leaving, Inside, Wait, Dead, Event, Starts, Crashes, Steps, is_store, step_deed, and_then, World, words_after_event, Run, deed, final, write, Layout, Words, Reply, Script}
use Rattle.rmeworld.proofs.Common.{Get as Asks, Put as Writes, Done, script, Call, Lock, Unlock, Recover, Purpose, Ruining, Checking, is_entry, core_of, ScriptState, Free, Doing, ProcessState, WorldEvent, Begins, Moves}
use Rattle.rmeworld.proofs.Common.{who, process_after_script, script_state_entered, at_lock, begun_from, next_process_state, lock_deed, only_process_state, mended_entered, GlobalState, ReadsWord, reading, cells_after, words_after, Execution, state_after_event, last_global_state}
use Rattle.rmecore.specs.HomeState.{CanComeHome as LockCanComeHome, CanStillEnter as LockCanStillEnter, EnterInLine, IsUninterrupted as IsUninterruptedOfLock, entries}
use Rattle.rmecore.specs.Place.{place_after_start, process}
use Rattle.rmecore.specs.World.{May, after, deeds as lock_deeds_of, read}
use Rattle.rmecore.specs.declared.core_call.CoreCall.TheVariants as core
use Rattle.rmecore.specs.declared.word.Word.TheVariants.{Inside as InsideOf}
use Rattle.redomail.specs.declared.task.Task.TheVariants as task
use Rattle.rmeworld.specs.HomeState.{CanComeHome, CanStillEnter, IsUninterrupted, IsHome, IsRuining, IsRecoverable, StaysRecoverable, IsNoRuin}
use Rattle.rmeworld.specs.UnderWay.{call_by}
use Rattle.rmeworld.specs.ScriptStates.{HasStep}
use Rattle.rmeworld.specs.World.{deeds, event_deeds, outer_deeds, mail_deeds}
use Rattle.rmeworld.specs.declared.purpose.Purpose.TheVariants.{Mending, Working}
use Rattle.rmeworld.specs.declared.call.Call.TheVariants.{Consistent}
use Rattle.redomail.specs.Tasks.{consistent}
use Rattle.rmeworld.proofs.CallsAnswered.{is_answered}
use Rattle.rmeworld.proofs.Recoverable.{Replies, any_reply, check_replies, consistent_replies, consistent_keeps, Orderly, AllOrderly, Keeps, keeps_put, keeps_after_get, keeps_after_put, entered_keeps, IsKept, kept_from, kept_put, IsHarmless, harmless_start, harmless_get, harmless_put, harmless_step, no_ruin_of_lock}
use Rattle.rmeworld.proofs.Holders.{lock_deeds_are}
use Rattle.rmeworld.proofs.Projection.{Held, AllHeld, outers, entry_inside}

-- A process with no script under way, at the same place as the lock's process. Or it has found the lock ruined and leaves,
-- while the lock's process is inside. S: the lock was not ruined at the beginning.
pub record IsAt (S : Type 0) (place : Place) (s : ProcessState) : Type 0 where
  pub free : s.script_state ≡ Free
  pub at : (s.lock ≡ place) ⊎ ((place ≡ Inside) × (s.lock ≡ Leaving) × (S → ⊥))

-- a process inside, with no script under way, that is mended. Or the lock was ruined
abbrev IsMended : Type 0 → ProcessState → Type 0
IsMended S s = (s.lock ≡ Inside) × (s.script_state ≡ Free) × ((s.mended ≡ true) ⊎ ((s.mended ≡ false) × (S → ⊥)))

-- a later global state with the same lock words. Only p's process state may be another, and it is such a one
pub record Settles (p : ℕ) (Ends : ProcessState → Type 0) (w w' : GlobalState) : Type 0 where
  pub words : w'.words ≡ w.words
  pub others : (q : ℕ) → q ≢ p → w'.process_states q ≡ w.process_states q
  pub here : Ends (w'.process_states p)

abbrev Ending : Type 0 → Bool → Bool → Purpose → Reply → Type 0
Ending S b c purpose a = IsAt S Inside (process_after_script b c purpose (Done a))

-- the end of a script under way: inside, or at the start of the exit of a ruined lock
script_ends : (S : Type 0) (b c : Bool) (purpose : Purpose) (left : Script Reply) → HasStep left → Orderly (Doing purpose left) → (S → IsRuining (Doing purpose left) → ⊥) → Replies S (Ending S b c purpose) left
script_ends S b c Checking left step h not = check_replies S (Ending S b c Checking) left step h (record { free = refl; at = inl refl }) (λ no. record { free = refl; at = inr (refl, refl, no) })
script_ends S b c Ruining left step h not = any_reply S (Ending S b c Ruining) (λ a. record { free = refl; at = inr (refl, refl, λ s. not s tt) }) left
script_ends S b c Mending left step h not = any_reply S (Ending S b c Mending) (λ a. record { free = refl; at = inl refl }) left
script_ends S b c (Working t) left step h not = any_reply S (Ending S b c (Working t)) (λ a. record { free = refl; at = inl refl }) left

settles_after : (p : ℕ) (Ends : ProcessState → Type 0) (w w' : GlobalState) (cells : Words) (s : ProcessState) → Settles p Ends (record { words = w.words; cells = cells; process_states = put w.process_states p s }) w' → Settles p Ends w w'
settles_after p Ends w w' cells s h = record { words = h.words; others = λ q ne. h.others q ne ∙ put_other w.process_states p s q ne; here = h.here }

some_is : {A : Type 0} (x y : A) → Some x ≡ Some y → x ≡ y
some_is x y e = cc

some_place : (o : Option Place) → IsSome o → (t : Place) × (o ≡ Some t)
some_place None some = absurd (cc)
some_place (Some t) some = (t, refl)

-- a start is no entry
no_entry : (s : Place) (call : CoreCall) (t : Place) → place_after_start s call ≡ Some t → is_entry s t ≡ false
no_entry Rest core.Lock t e = subst (λ x. is_entry Rest x ≡ false) (some_is _ t e) refl
no_entry Rest core.Recover t e = subst (λ x. is_entry Rest x ≡ false) (some_is _ t e) refl
no_entry Dead core.Lock t e = subst (λ x. is_entry Dead x ≡ false) (some_is _ t e) refl
no_entry Dead core.Recover t e = subst (λ x. is_entry Dead x ≡ false) (some_is _ t e) refl
no_entry Inside core.Unlock t e = subst (λ x. is_entry Inside x ≡ false) (some_is _ t e) refl
no_entry (Wait k unpassed looked) core.Withdraw t e = subst (λ x. is_entry (Wait k unpassed looked) x ≡ false) (some_is _ t e) refl
no_entry _ _ t e = absurd (cc)

unlock_from : (s t : Place) → place_after_start s core.Unlock ≡ Some t → (s ≡ Inside) × (t ≡ Leaving)
unlock_from Inside t e = (refl, sym (some_is _ t e))
unlock_from _ t e = absurd (cc)

-- a start inside is an unlock
start_inside : (call : CoreCall) (t : Place) → place_after_start Inside call ≡ Some t → t ≡ Leaving
start_inside core.Unlock t e = sym (some_is _ t e)
start_inside _ t e = absurd (cc)

-- a step inside is a glance
step_inside : (n limit p : ℕ) (kind : Kind) (word : Word) (v : ℕ) (t : Place) → next n limit p Inside kind word v ≡ Some t → (t ≡ Inside) × (is_store kind ≡ false) × (step_deed p Inside kind v ≡ None)
step_inside n limit p Glance (Choosing q) v t e = (sym (some_is _ t e), refl, refl)
step_inside n limit p Glance (Number q) v t e = (sym (some_is _ t e), refl, refl)
step_inside n limit p Glance (InsideOf q) v t e = (sym (some_is _ t e), refl, refl)
step_inside n limit p _ _ v t e = absurd (cc)

-- a lock word that a step reads
reads_lock : (n limit p : ℕ) (s : Place) (kind : Kind) (word : Word) (v : ℕ) (w : GlobalState) → IsSome (next n limit p s kind word v) → read w.words word ≡ v → reading w word ≡ v
reads_lock n limit p s kind (DataAt i) v w some e = absurd (not_data n limit p s kind i v some)
reads_lock n limit p s kind _ v w some e = e

module _ (l : Layout) (limit : ℕ) (S : Type 0) where
  -- If the lock was not ruined at the beginning, it is not ruined here, and no script ruins it.
  abbrev pub Kept : GlobalState → Type 0
  Kept w = S → IsKept l.procs w

  -- a continuation without crash and withdraw, with these deeds of the lock, to a global state of this kind
  pub record Continues (w : GlobalState) (ds : List Outer) (P : GlobalState → Type 0) : Type 0 where
    pub events : List WorldEvent
    pub execution : Execution l limit w events
    pub uninterrupted : All IsUninterrupted events
    pub same : outers l limit w events ≡ ds
    pub no_ruin : S → All IsNoRuin (deeds l limit w events)
    pub ends : P (last_global_state l limit w events)

  stop : (w : GlobalState) (P : GlobalState → Type 0) → P w → Continues w [] P
  stop w P h = record { events = []; execution = tt; uninterrupted = All-nil IsUninterrupted; same = refl; no_ruin = λ _. All-nil IsNoRuin; ends = h }

  by_event : (w : GlobalState) (e : WorldEvent) (s : ProcessState) (d : Option Outer) (ds : List Outer) (P : GlobalState → Type 0) → who e < l.procs → next_process_state l limit (w.process_states (who e)) e ≡ Some s → ReadsWord w e → IsUninterrupted e
      → lock_deed (w.process_states (who e)) e ≡ d → Kept w → (S → IsHarmless l w.cells e × Keeps s.script_state)
      → (Kept (record { words = words_after w.words e; cells = cells_after l w.cells e; process_states = put w.process_states (who e) s }) → Continues (record { words = words_after w.words e; cells = cells_after l w.cells e; process_states = put w.process_states (who e) s }) ds P)
      → Continues w (and_then d ds) P
  by_event w e s d ds P below next reads whole is kept harmless rest =
      let here : Option ProcessState → GlobalState = λ o. record { words = words_after w.words e; cells = cells_after l w.cells e; process_states = put w.process_states (who e) (unwrap_or o (w.process_states (who e))) } in
      let now : Kept (here (Some s)) = λ h. kept_put l.procs (who e) w (here (Some s)) s (kept h) (harmless h).0.ruined refl (harmless h).1 in
      let on : Continues (state_after_event l limit w e) ds P = subst (λ o. Continues (here o) ds P) (sym next) (rest now) in
      record {
        events = e ∷ on.events;
        execution = ((below, subst (λ o. IsSome o) (sym next) refl, reads), on.execution);
        uninterrupted = All-cons IsUninterrupted e on.events whole on.uninterrupted;
        same = ap (λ o. and_then o (outers l limit (state_after_event l limit w e) on.events)) is ∙ ap (and_then d) on.same;
        no_ruin = λ h.
            All-append IsNoRuin (event_deeds l w e) (deeds l limit (state_after_event l limit w e) on.events)
            (All-append IsNoRuin (outer_deeds (lock_deed (w.process_states (who e)) e)) (mail_deeds l w.cells e) (no_ruin_of_lock (lock_deed (w.process_states (who e)) e)) (harmless h).0.deeds) (on.no_ruin h);
        ends = on.ends;
      }

  -- what is done once p's script is at its end
  abbrev Next : ℕ → (ProcessState → Type 0) → GlobalState → List Outer → (GlobalState → Type 0) → Type 0
  Next p Ends w ds P = (w' : GlobalState) → Settles p Ends w w' → Kept w' → Continues w' ds P

  -- a script to its end
  finish : (Ends : ProcessState → Type 0) (ds : List Outer) (P : GlobalState → Type 0) (p : ℕ) → p < l.procs → (b c : Bool) (purpose : Purpose) (left : Script Reply) → Replies S (λ a. Ends (process_after_script b c purpose (Done a))) left → (w : GlobalState) → Kept w
      → w.process_states p ≡ process_after_script b c purpose left → Next p Ends w ds P → Continues w ds P
  finish Ends ds P p below b c purpose (Done a) ends w kept is k = k w (record { words = refl; others = λ q ne. refl; here = subst Ends (sym is) ends }) kept
  finish Ends ds P p below b c purpose (Asks i rest) ends w kept is k =
      let v : ℕ = w.cells i in
      let e : WorldEvent = Moves p Gets (DataAt i) v in
      let s : ProcessState = process_after_script b c purpose (rest v) in
      let w' : GlobalState = record { words = w.words; cells = w.cells; process_states = put w.process_states p s } in
      let to : next_process_state l limit (w.process_states p) e ≡ Some s = ap (λ z. next_process_state l limit z e) is ∙ ap (λ t. only_process_state t s) (eq-eqb i i refl) in
      let keeps : S → Keeps (Doing purpose (Asks i rest)) = λ h. subst (λ (z : ProcessState). Keeps z.script_state) is ((kept h).scripts p below) in
      by_event w e s None ds P below to (λ _. refl) tt (ap (λ z. lock_deed z e) is) kept (λ h. (harmless_get l w.cells p i v, keeps_after_get b c purpose i v rest (keeps h)))
      (λ now. finish Ends ds P p below b c purpose (rest v) (ends v (λ h zero_is. ap w.cells zero_is ∙ (kept h).ruined)) w' now (put_same w.process_states p s) (λ u h later. k u (settles_after p Ends w u w.cells s h) later))
  finish Ends ds P p below b c purpose (Writes i x rest) ends w kept is k =
      let e : WorldEvent = Moves p Puts (DataAt i) x in
      let s : ProcessState = process_after_script b c purpose rest in
      let same : ((i == i) && (x == x)) ≡ true = rw (eq-eqb i i refl, eq-eqb x x refl) refl in
      let to : next_process_state l limit (w.process_states p) e ≡ Some s = ap (λ z. next_process_state l limit z e) is ∙ ap (λ t. only_process_state t s) same in
      let cells : Words = cells_after l w.cells e in
      let w' : GlobalState = record { words = w.words; cells = cells; process_states = put w.process_states p s } in
      let keeps : S → Keeps (Doing purpose (Writes i x rest)) = λ h. subst (λ (z : ProcessState). Keeps z.script_state) is ((kept h).scripts p below) in
      by_event w e s None ds P below to (λ load. absurd (cc)) tt (ap (λ z. lock_deed z e) is) kept (λ h. (harmless_put l w.cells p i x (keeps_put purpose i x rest (keeps h)), keeps_after_put b c purpose i x rest (keeps h)))
      (λ now. finish Ends ds P p below b c purpose rest ends w' now (put_same w.process_states p s) (λ u h later. k u (settles_after p Ends w u cells s h) later))

  -- the same lock words, and each process follows the lock's
  pub record Matches (v : World) (w : GlobalState) : Type 0 where
    pub words : w.words ≡ v.words
    pub follows : (p : ℕ) → p < l.procs → IsAt S (v.places p) (w.process_states p)

  matches_put : (v : World) (w w' : GlobalState) (p : ℕ) (t : Place) (words : ℕ → Own) → Matches v w → w'.words ≡ words → ((q : ℕ) → q ≢ p → w'.process_states q ≡ w.process_states q) → IsAt S t (w'.process_states p) → Matches (record { words = words; places = put v.places p t }) w'
  matches_put v w w' p t words m is others here =
      record {
        words = is;
        follows = λ q below. elim (cases_eq q p) [
          | inl e ↦ subst (λ r. IsAt S (put v.places p t r) (w'.process_states r)) (sym e) (subst (λ x. IsAt S x (w'.process_states p)) (sym (put_same v.places p t)) here)
          | inr ne ↦ subst (λ x. IsAt S x (w'.process_states q)) (sym (put_other v.places p t q ne)) (subst (IsAt S (v.places q)) (sym (others q ne)) (m.follows q below))
        ];
      }

  -- the lock's process stays where it is
  matches_still : (v : World) (w w' : GlobalState) (p : ℕ) → Matches v w → w'.words ≡ w.words → ((q : ℕ) → q ≢ p → w'.process_states q ≡ w.process_states q) → IsAt S (v.places p) (w'.process_states p) → Matches v w'
  matches_still v w w' p m is others here =
      record {
        words = is ∙ m.words;
        follows = λ q below. elim (cases_eq q p) [
          | inl e ↦ subst (λ r. IsAt S (v.places r) (w'.process_states r)) (sym e) here
          | inr ne ↦ subst (IsAt S (v.places q)) (sym (others q ne)) (m.follows q below)
        ];
      }

  -- what is done once the lock's process p has come to this place, with these words
  abbrev Then : ℕ → World → Place → (ℕ → Own) → List Outer → (GlobalState → Type 0) → Type 0
  Then p v t words ds P = (w' : GlobalState) → Matches (record { words = words; places = put v.places p t }) w' → Kept w' → Continues w' ds P

  module _ (p : ℕ) (below : p < l.procs) (ds : List Outer) (P : GlobalState → Type 0) (v : World) where
    -- a start of the lock's part
    starts : (w : GlobalState) → Matches v w → Kept w → (call : Call) (part : CoreCall) (s : Place) (b : Bool) (t : Place)
        → begun_from l p (w.process_states p).lock (w.process_states p).mended (w.process_states p).script_state call ≡ at_lock l p s b false (place_after_start s part) → place_after_start s part ≡ Some t → IsUninterrupted (Begins p call) → Then p v t v.words ds P → Continues w ds P
    starts w m kept call part s b t begun is whole k =
        let x : ProcessState = record { lock = t; mended = mended_entered b s t; barred = false; script_state = script_state_entered l p s t } in
        let w' : GlobalState = record { words = w.words; cells = w.cells; process_states = put w.process_states p x } in
        let free : script_state_entered l p s t ≡ Free = ap (λ (z : Bool). if z then Doing Checking (script l p task.Check) else Free) (no_entry s part t is) in
        let here : IsAt S t x = record { free = free; at = inl refl } in
        by_event w (Begins p call) x None ds P below (begun ∙ ap (at_lock l p s b false) is) tt whole refl kept (λ _. (harmless_start l w.cells p call, entered_keeps l p s t))
        (k w' (matches_put v w w' p t v.words m m.words (put_other w.process_states p x) (subst (IsAt S t) (sym (put_same w.process_states p x)) here)))

    -- an unlock of a holder that is not mended, in a lock that was ruined
    ruins : (w : GlobalState) → Matches v w → Kept w → (S → ⊥) → begun_from l p (w.process_states p).lock (w.process_states p).mended (w.process_states p).script_state Unlock ≡ Some (process_after_script false false Ruining (script l p task.Ruin)) → Then p v Leaving v.words ds P
        → Continues w ds P
    ruins w m kept not begun k =
        let x : ProcessState = process_after_script false false Ruining (script l p task.Ruin) in
        let w' : GlobalState = record { words = w.words; cells = w.cells; process_states = put w.process_states p x } in
        by_event w (Begins p Unlock) x None ds P below begun tt tt refl kept (λ h. absurd (not h))
        (λ now. finish (IsAt S Leaving) ds P p below false false Ruining (script l p task.Ruin) (record { free = refl; at = inl refl }) w' now (put_same w.process_states p x)
        (λ u h later. k u (matches_put v w u p Leaving v.words m (h.words ∙ m.words) (λ q ne. h.others q ne ∙ put_other w.process_states p x q ne) h.here) later))

    -- `consistent` of a holder that is not mended: it mends, or the lock was ruined
    mends : (w : GlobalState) → Matches v w → Kept w → v.places p ≡ Inside → (w.process_states p).lock ≡ Inside → (w.process_states p).mended ≡ false → (w.process_states p).script_state ≡ Free
        → ((w' : GlobalState) → Matches v w' → Kept w' → IsMended S (w'.process_states p) → Continues w' ds P) → Continues w ds P
    mends w m kept place at fails free k =
        let x : ProcessState = process_after_script false false Mending (consistent l p) in
        let w' : GlobalState = record { words = w.words; cells = w.cells; process_states = put w.process_states p x } in
        let begun : begun_from l p (w.process_states p).lock (w.process_states p).mended (w.process_states p).script_state Consistent ≡ Some x = λ i. begun_from l p (at i) (fails i) (free i) Consistent in
        by_event w (Begins p Consistent) x None ds P below begun tt tt refl kept (λ _. (harmless_start l w.cells p Consistent, (consistent_keeps l p, λ h. h)))
        (λ now. finish (IsMended S) ds P p below false false Mending (consistent l p) (consistent_replies S (λ a. IsMended S (process_after_script false false Mending (Done a))) l p (λ b. (refl, refl, inl refl)) (λ no. (refl, refl, inr (refl, no)))) w' now (put_same w.process_states p x)
        (λ u h later. k u
        (matches_still v w u p m h.words (λ q ne. h.others q ne ∙ put_other w.process_states p x q ne) (record { free = h.here.1; at = inl (h.here.0 ∙ sym place) })) later h.here))

    -- an unlock, once it is mended
    unlocks : (w : GlobalState) → Matches v w → Kept w → v.places p ≡ Inside → IsMended S (w.process_states p) → Then p v Leaving v.words ds P → Continues w ds P
    unlocks w m kept place h k =
        let s : ProcessState = w.process_states p in
        elim h.2 [
          | inl holds ↦ starts w m kept Unlock core.Unlock Inside true Leaving (λ i. begun_from l p (h.0 i) (holds i) (h.1 i) Unlock) refl tt k
          | inr fails ↦ ruins w m kept fails.1 (λ i. begun_from l p (h.0 i) (fails.0 i) (h.1 i) Unlock) k
        ]

  module _ (v : World) (w : GlobalState) (m : Matches v w) (kept : Kept w) (p : ℕ) (below : p < l.procs) (ds : List Outer) (P : GlobalState → Type 0) where
    stays : (t : Place) (words : ℕ → Own) → w.words ≡ words → IsAt S t (w.process_states p) → Then p v t words ds P → Continues w ds P
    stays t words is here k = k w (matches_put v w w p t words m is (λ q ne. refl) here) kept

    abbrev s : ProcessState
    s = w.process_states p

    free : s.script_state ≡ Free
    free = (m.follows p below).free

    begins_by : (s.lock ≡ v.places p) ⊎ ((v.places p ≡ Inside) × (s.lock ≡ Leaving) × (S → ⊥)) → (part : CoreCall) (t : Place) → place_after_start (v.places p) part ≡ Some t → IsUninterruptedOfLock (Starts p part) → Then p v t v.words ds P → Continues w ds P
    begins_by at core.Withdraw t is whole k = absurd whole
    begins_by (inl same) core.Lock t is whole k = starts p below ds P v w m kept Lock core.Lock (v.places p) s.mended t (λ i. begun_from l p (same i) s.mended (free i) Lock) is tt k
    begins_by (inl same) core.Recover t is whole k = starts p below ds P v w m kept Recover core.Recover (v.places p) s.mended t (λ i. begun_from l p (same i) s.mended (free i) Recover) is tt k
    begins_by (inl same) core.Unlock t is whole k =
        let from = unlock_from (v.places p) t is in
        let at : s.lock ≡ Inside = same ∙ from.0 in
        let leaves : Then p v Leaving v.words ds P = subst (λ z. Then p v z v.words ds P) from.1 k in
        elim (cases_Bool s.mended) [
          | inl holds ↦ unlocks p below ds P v w m kept from.0 (at, free, inl holds) leaves
          | inr fails ↦ mends p below ds P v w m kept from.0 at fails free (λ u h later mended. unlocks p below ds P v u h later from.0 mended leaves)
        ]
    begins_by (inr h) part t is whole k =
        let leaves : t ≡ Leaving = start_inside part t (subst (λ z. place_after_start z part ≡ Some t) h.0 is) in
        stays t v.words m.words (record { free = free; at = inl (h.1 ∙ sym leaves) }) k

    begins : (part : CoreCall) (t : Place) → place_after_start (v.places p) part ≡ Some t → IsUninterruptedOfLock (Starts p part) → Then p v t v.words ds P → Continues w ds P
    begins part t is whole k = begins_by (m.follows p below).at part t is whole k

    -- a step of the lock's part
    moves : (kind : Kind) (word : Word) (x : ℕ) (t : Place) → (w.process_states p).lock ≡ v.places p → next l.procs limit p (v.places p) kind word x ≡ Some t → (is_store kind ≡ false → read v.words word ≡ x) → Then p v t (words_after_event v.words (Steps p kind word x)) ds P
        → Continues w (and_then (step_deed p (v.places p) kind x) ds) P
    moves kind word x t same is reports k =
        let at : Place = v.places p in
        let b : Bool = s.mended in
        let c : Bool = s.barred in
        let e : WorldEvent = Moves p kind word x in
        let state : s ≡ record { lock = at; mended = b; barred = c; script_state = Free } = λ i. record { lock = same i; mended = b; barred = c; script_state = free i } in
        let to : ProcessState = record { lock = t; mended = mended_entered b at t; barred = c; script_state = script_state_entered l p at t } in
        let w' : GlobalState = record { words = words_after w.words e; cells = cells_after l w.cells e; process_states = put w.process_states p to } in
        let words : w'.words ≡ words_after_event v.words (Steps p kind word x) = ap (λ z. words_after z e) m.words in
        let some : IsSome (next l.procs limit p at kind word x) = subst (λ o. IsSome o) (sym is) refl in
        let reads : ReadsWord w e = λ load. reads_lock l.procs limit p at kind word x w some (subst (λ z. read z word ≡ x) (sym m.words) (reports load)) in
        by_event w e to (step_deed p at kind x) ds P below (ap (λ z. next_process_state l limit z e) state ∙ ap (at_lock l p at b c) is) reads tt (ap (λ z. lock_deed z e) state) kept (λ _. (harmless_step l limit w.cells p at kind word x some, entered_keeps l p at t)) (
        λ now. elim (cases_Bool (is_entry at t)) [
          | inl holds ↦
              (let inside : t ≡ Inside = entry_inside at t holds in
              let checks : script_state_entered l p at t ≡ Doing Checking (script l p task.Check) = ap (λ (z : Bool). if z then Doing Checking (script l p task.Check) else Free) holds in
              let place_now : put w.process_states p to p ≡ process_after_script (mended_entered b at t) c Checking (script l p task.Check) = put_same w.process_states p to ∙ (λ i. record { lock = inside i; mended = mended_entered b at t; barred = c; script_state = checks i }) in
              finish (IsAt S Inside) ds P p below (mended_entered b at t) c Checking (script l p task.Check) (script_ends S (mended_entered b at t) c Checking (script l p task.Check) tt (refl, λ x. refl) (λ _ h. h)) w' now place_now
              (λ u h later. k u (matches_put v w u p t (words_after_event v.words (Steps p kind word x)) m (h.words ∙ words) (λ q ne. h.others q ne ∙ put_other w.process_states p to q ne) (subst (λ z. IsAt S z (u.process_states p)) (sym inside) h.here)) later))
          | inr fails ↦
              (let free : script_state_entered l p at t ≡ Free = ap (λ (z : Bool). if z then Doing Checking (script l p task.Check) else Free) fails in
              let here : IsAt S t to = record { free = free; at = inl refl } in
              k w' (matches_put v w w' p t (words_after_event v.words (Steps p kind word x)) m words (put_other w.process_states p to) (subst (IsAt S t) (sym (put_same w.process_states p to)) here)) now)
        ]
        )

    steps : (kind : Kind) (word : Word) (x : ℕ) (t : Place) → next l.procs limit p (v.places p) kind word x ≡ Some t → (is_store kind ≡ false → read v.words word ≡ x) → Then p v t (words_after_event v.words (Steps p kind word x)) ds P → Continues w (and_then (step_deed p (v.places p) kind x) ds) P
    steps kind word x t is reports k =
        elim (m.follows p below).at [
          | inl same ↦ moves kind word x t same is reports k
          | inr h ↦
              (let r = step_inside l.procs limit p kind word x t (subst (λ z. next l.procs limit p z kind word x ≡ Some t) h.0 is) in
              let words : words_after_event v.words (Steps p kind word x) ≡ v.words = ap (λ (z : Bool). if z then write v.words word x else v.words) r.1 in
              let none : step_deed p (v.places p) kind x ≡ None = ap (λ z. step_deed p z kind x) h.0 ∙ r.2 in
              subst (λ d. Continues w (and_then d ds) P) (sym none) (stays t (words_after_event v.words (Steps p kind word x)) (m.words ∙ sym words) (record { free = free; at = inr (r.0, h.1, h.2) }) k))
        ]

  -- one event of the lock
  follow : (v : World) (w : GlobalState) (e : Event) (ds : List Outer) (P : GlobalState → Type 0) → Matches v w → Kept w → May l.procs limit v e → IsUninterruptedOfLock e → ((w' : GlobalState) → Matches (after l.procs limit v e) w' → Kept w' → Continues w' ds P)
      → Continues w (and_then (deed (v.places (process e)) e) ds) P
  follow v w (Starts p part) ds P m kept may whole k =
      let r = some_place (place_after_start (v.places p) part) may.1 in
      let to : r.0 ≡ unwrap_or (place_after_start (v.places p) part) (v.places p) = sym (ap (λ o. unwrap_or o (v.places p)) r.1) in
      begins v w m kept p may.0 ds P part r.0 r.1 whole (λ w' h. k w' (subst (λ z. Matches (record { words = v.words; places = put v.places p z }) w') to h))
  follow v w (Crashes p) ds P m kept may whole k = absurd whole
  follow v w (Steps p kind word x) ds P m kept may whole k =
      let r = some_place (next l.procs limit p (v.places p) kind word x) may.1 in
      let to : r.0 ≡ unwrap_or (next l.procs limit p (v.places p) kind word x) (v.places p) = sym (ap (λ o. unwrap_or o (v.places p)) r.1) in
      steps v w m kept p may.0 ds P kind word x r.0 r.1 may.2 (λ w' h. k w' (subst (λ z. Matches (record { words = words_after_event v.words (Steps p kind word x); places = put v.places p z }) w') to h))

  -- where a continuation of the lock's run has been followed
  pub record Followed (v : World) (w : GlobalState) : Type 0 where
    pub matches : Matches v w
    pub kept : Kept w

  follow_all : (v : World) (w : GlobalState) (es : List Event) → Matches v w → Kept w → Run l.procs limit v es → All IsUninterruptedOfLock es → Continues w (lock_deeds_of l.procs limit v es) (Followed (final l.procs limit v es))
  follow_all v w [] m kept run whole = stop w (Followed v) (record { matches = m; kept = kept })
  follow_all v w (e ∷ es) m kept run whole =
      follow v w e (lock_deeds_of l.procs limit (after l.procs limit v e) es) (Followed (final l.procs limit v (e ∷ es))) m kept run.0 (All-head IsUninterruptedOfLock e es whole)
      (λ w' h later. follow_all (after l.procs limit v e) w' es h later run.1 (All-tail IsUninterruptedOfLock e es whole))

  -- the script of one process, if it has one
  finish_doing : (ds : List Outer) (P : GlobalState → Type 0) (p : ℕ) → p < l.procs → (w : GlobalState) → Kept w → (purpose : Purpose) (left : Script Reply) → HasStep left → Orderly (Doing purpose left) → (w.process_states p).lock ≡ Inside
      → (w.process_states p).script_state ≡ Doing purpose left → w.process_states p ≡ process_after_script (w.process_states p).mended (w.process_states p).barred purpose left → Next p (IsAt S (w.process_states p).lock) w ds P → Continues w ds P
  finish_doing ds P p below w kept purpose left step orderly inside doing is k =
      let s : ProcessState = w.process_states p in
      let not : S → IsRuining (Doing purpose left) → ⊥ = λ h. subst (λ z. IsRuining z → ⊥) doing ((kept h).scripts p below).1 in
      let ends : Replies S (Ending S s.mended s.barred purpose) left = script_ends S s.mended s.barred purpose left step orderly not in
      finish (IsAt S s.lock) ds P p below s.mended s.barred purpose left (subst (λ z. Replies S (λ a. IsAt S z (process_after_script s.mended s.barred purpose (Done a))) left) (sym inside) ends) w kept is k

  finish_one : (ds : List Outer) (P : GlobalState → Type 0) (p : ℕ) → p < l.procs → (w : GlobalState) → Kept w → (script_state : ScriptState) → (w.process_states p).script_state ≡ script_state → Held script_state (w.process_states p).lock → Orderly script_state
      → Next p (IsAt S (w.process_states p).lock) w ds P → Continues w ds P
  finish_one ds P p below w kept Free is held orderly k = k w (record { words = refl; others = λ q ne. refl; here = record { free = is; at = inl refl } }) kept
  finish_one ds P p below w kept (Doing purpose (Done a)) is held orderly k = absurd held.1
  finish_one ds P p below w kept (Doing purpose (Asks i rest)) is held orderly k =
      finish_doing ds P p below w kept purpose (Asks i rest) tt orderly held.0 is (λ j. record { lock = held.0 j; mended = (w.process_states p).mended; barred = (w.process_states p).barred; script_state = is j }) k
  finish_one ds P p below w kept (Doing purpose (Writes i x rest)) is held orderly k =
      finish_doing ds P p below w kept purpose (Writes i x rest) tt orderly held.0 is (λ j. record { lock = held.0 j; mended = (w.process_states p).mended; barred = (w.process_states p).barred; script_state = is j }) k

  -- what is known of a process before its script is finished
  abbrev Before : World → ℕ → ProcessState → Type 0
  Before v q z = Held z.script_state z.lock × Orderly z.script_state × (z.lock ≡ v.places q)

  -- the scripts of all processes below i. The others follow the lock's already
  finish_all : (v : World) (ds : List Outer) (P : GlobalState → Type 0) → ((w' : GlobalState) → Matches v w' → Kept w' → Continues w' ds P) → (i : ℕ) (w : GlobalState) → Kept w → i ≤ l.procs → w.words ≡ v.words
      → ((q : ℕ) → q < i → Before v q (w.process_states q)) → ((q : ℕ) → i ≤ q → q < l.procs → IsAt S (v.places q) (w.process_states q)) → Continues w ds P
  finish_all v ds P k zero w kept few words before since = k w (record { words = words; follows = λ q below. since q (omega arith) below }) kept
  finish_all v ds P k (suc i) w kept few words before since =
      let here = before i (omega arith) in
      finish_one ds P i (omega arith) w kept (w.process_states i).script_state refl here.0 here.1
      (λ w' h later. finish_all v ds P k i w' later (omega arith) (h.words ∙ words)
      (λ q low. let same : w'.process_states q ≡ w.process_states q = h.others q (λ e. omega arith) in
      subst (Before v q) (sym same) (before q (omega arith)))
      (λ q high below. elim (cases_eq q i) [
        | inl e ↦ subst (λ r. IsAt S (v.places r) (w'.process_states r)) (sym e) (subst (λ z. IsAt S z (w'.process_states i)) here.2 h.here)
        | inr ne ↦ subst (IsAt S (v.places q)) (sym (h.others q ne)) (since q (omega arith) below)
      ]))

  -- a continuation of the lock's run, followed
  pub carried : (w : GlobalState) (es : List Event) → AllHeld w → AllOrderly w → Kept w → Run l.procs limit (core_of w) es → All IsUninterruptedOfLock es → Continues w (lock_deeds_of l.procs limit (core_of w) es) (Followed (final l.procs limit (core_of w) es))
  carried w es held orderly kept run whole =
      finish_all (core_of w) (lock_deeds_of l.procs limit (core_of w) es) (Followed (final l.procs limit (core_of w) es)) (λ w' m later. follow_all (core_of w) w' es m later run whole) l.procs w kept (omega arith) refl (λ q low. (held q, orderly q, refl))
      (λ q high below. absurd (omega arith))

-- the lock stays recoverable in such a continuation
stays_recoverable : (l : Layout) (limit : ℕ) (w : GlobalState) {ds : List Outer} {v : World} → (c : Continues l limit (IsRecoverable l.procs w) w ds (Followed l limit (IsRecoverable l.procs w) v)) → IsRecoverable l.procs w → StaysRecoverable l limit w c.events
stays_recoverable l limit w c h = record { no_ruin = c.no_ruin h; ruined = (c.ends.kept h).ruined }

-- a world comes home if its lock can
pub comes_home : (l : Layout) (limit : ℕ) (w : GlobalState) → AllHeld w → AllOrderly w → LockCanComeHome l.procs limit (core_of w) → CanComeHome l limit w
comes_home l limit w held orderly h =
    let n : ℕ = l.procs in
    let S : Type 0 = IsRecoverable n w in
    let c : Continues l limit S w (lock_deeds_of n limit (core_of w) h.events) (Followed l limit S (final n limit (core_of w) h.events)) = carried l limit S w h.events held orderly (λ r. kept_from n w orderly r) h.run h.uninterrupted in
    let w' : GlobalState = last_global_state l limit w c.events in
    let m = c.ends.matches in
    let there : (p : ℕ) → p < n → IsHome w' p = λ p below.
    let f = m.follows p below in
    let home = h.home p below in
    let at : (w'.process_states p).lock ≡ Rest = elim f.at [ inl e ↦ e ∙ home.0 | inr g ↦ absurd (cc) ] in
    ((at, ap (λ words. words p) m.words ∙ home.1), f.free) in
    record {
      events = c.events;
      execution = c.execution;
      uninterrupted = c.uninterrupted;
      answered = λ p below busy. is_answered l limit w c.events p c.execution c.uninterrupted busy (ap (λ z. call_by z (w'.process_states p).barred (w'.process_states p).script_state) (there p below).0.0 ∙ ap (call_by Rest (w'.process_states p).barred) (there p below).1);
      home = there;
      in_line = subst (λ ds. EnterInLine n (core_of w) (entries ds)) (sym (lock_deeds_are l limit w c.events ∙ c.same)) h.in_line;
      recoverable = stays_recoverable l limit w c;
    }

-- a process of a world can still enter if it can in the lock
pub can_still_enter : (l : Layout) (limit : ℕ) (w : GlobalState) (p : ℕ) → p < l.procs → AllHeld w → AllOrderly w → LockCanStillEnter l.procs limit (core_of w) p → CanStillEnter l limit w p
can_still_enter l limit w p below held orderly h =
    let n : ℕ = l.procs in
    let S : Type 0 = IsRecoverable n w in
    let c : Continues l limit S w (lock_deeds_of n limit (core_of w) h.events) (Followed l limit S (final n limit (core_of w) h.events)) = carried l limit S w h.events held orderly (λ r. kept_from n w orderly r) h.run h.uninterrupted in
    let f = c.ends.matches.follows p below in
    record {
      events = c.events;
      execution = c.execution;
      uninterrupted = c.uninterrupted;
      enters = subst (λ ds. has (entries ds) p ≡ true) (sym (lock_deeds_are l limit w c.events ∙ c.same)) h.enters;
      recoverable = stays_recoverable l limit w c;
      holds = λ r. (elim f.at [ inl e ↦ e ∙ h.inside | inr g ↦ absurd (g.2 r) ], f.free);
    }
