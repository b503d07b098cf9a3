-- The steps of one process in an execution are a walk: each is allowed at its place, and a reread finds its word as it was
-- when the call began, since no other process stores into the lock words of this one.
use Rattle.std.proofs.Common.{◌≡◌, ◌≢◌, ℕ, ◌<◌, ◌==◌, Bool, true, false, if◌then◌else◌, List, [], ◌∷◌, Option, Some, None, IsSome, unwrap_or, refl, sym, ◌∙◌, subst, inl, inr}
use Rattle.table_runs.proofs.Common.{cases_Bool, eqb-false, Kind}
use Rattle.table_runs.proofs.Common.{Own, Word, Data as DataAt, is_glance, ReadsBegun, Place, Reread}
use Rattle.table_runs.proofs.Common.{next, place_after_start, Steps, is_store, write, Reads as CoreReads, put_same, put_other, Layout, Get as Asks, Put as Writes, Call}
use Rattle.table_runs.proofs.Common.{Lock, Unlock, Consistent, Recover, Withdraw, next_or_same, Walks, ScriptState, Free, Doing, ProcessState, begun_from, Begins, next_process_state, WorldEvent}
use Rattle.table_runs.proofs.Common.{Moves, at_lock, process_after_script, Falls, moved_by, who, dead_process, script_state_entered, GlobalState, Execution, state_after_event, own_world_events, Can, reading_of}
use Rattle.rmecore.specs.Tallied.{IsRereading}
use Rattle.rmecore.specs.declared.core_call.CoreCall.TheVariants as core
use Rattle.rmecore.specs.declared.kind.Kind.TheVariants.{Get as Gets, Put as Puts}
use Rattle.rmecore.proofs.AllowedSteps.{by_step}
use Rattle.rmecore.proofs.Tallies.{rereads_on, reads_begun}
use Rattle.rmecore.proofs.Turns.{not_data}
use Rattle.rmeworld.proofs.CallSteps.{guard_process_state}
use Rattle.rmeworld.proofs.WorldTallies.{at_lock_some, settled_not}
use Rattle.table_runs.proofs.Begun.{guard_inside}

-- no other process's step stores into the lock words of p
stored_apart : (n limit p q : ℕ) (words : ℕ → Own) → p ≢ q → (s : Place) (kind : Kind) (word : Word) (v : ℕ) → IsSome (next n limit q s kind word v) → is_store kind ≡ true → write words word v p ≡ words p
stored_apart n limit p q words ne =
    by_step {C = λ s kind word v t. is_store kind ≡ true → write words word v p ≡ words p} (
    record {
      rereads_choosing = λ call v e. absurd (cc);
      rereads_number = λ call c v e. absurd (cc);
      rereads_inside = λ call c k v e. absurd (cc);
      opens = λ e. put_other words q _ p ne;
      peeks = λ unread m j v there e. absurd (cc);
      takes = λ m less e. put_other words q _ p ne;
      spends = λ m most e. put_other words q _ p ne;
      shuts = λ call k e. put_other words q _ p ne;
      looks = λ k unpassed j there e. absurd (cc);
      looks_again = λ k unpassed j v there blocked e. absurd (cc);
      weighs = λ k unpassed j v passes e. absurd (cc);
      weighs_again = λ k unpassed j v blocked e. absurd (cc);
      marks = λ k e. put_other words q _ p ne;
      drops = λ e. put_other words q _ p ne;
      withdraws = λ e. put_other words q _ p ne;
      unmarks = λ call e. put_other words q _ p ne;
      glances = λ s word v e. absurd (cc);
    })

moved_apart : (l : Layout) (limit p q : ℕ) (s : Place) (b c : Bool) (e : ScriptState) (kind : Kind) (word : Word) (v : ℕ) (words : ℕ → Own) → p ≢ q → IsSome (moved_by l limit q s b c e kind word v) → is_store kind ≡ true → write words word v p ≡ words p
moved_apart l limit p q s b c Free kind word v words ne some store = stored_apart l.procs limit p q words ne s kind word v (at_lock_some l q s b c (next l.procs limit q s kind word v) some) store
moved_apart l limit p q s b c (Doing purpose (Asks j rest)) Gets (DataAt i) v words ne some store = absurd (cc)
moved_apart l limit p q s b c (Doing purpose (Writes j x rest)) Puts (DataAt i) v words ne some store = refl
moved_apart l limit p q s b c (Doing purpose left) _ _ v words ne some store = absurd (cc)

not_entered : (l : Layout) (p : ℕ) (s t : Place) → IsRereading t → script_state_entered l p s t ≡ Free
not_entered l p s (Reread call seen) h = refl
not_entered l p s _ h = absurd h

locked_free : (l : Layout) (p : ℕ) (s : Place) (b c : Bool) (o : Option Place) (d : ProcessState) → IsSome (at_lock l p s b c o) → IsRereading (unwrap_or (at_lock l p s b c o) d).lock → (unwrap_or (at_lock l p s b c o) d).script_state ≡ Free
locked_free l p s b c None d some h = absurd (cc)
locked_free l p s b c (Some t) d some h = not_entered l p s t h

locked_was : (l : Layout) (p : ℕ) (s : Place) (b c : Bool) (o : Option Place) (d : ProcessState) → IsSome (at_lock l p s b c o) → IsRereading (unwrap_or (at_lock l p s b c o) d).lock → IsRereading (unwrap_or o s)
locked_was l p s b c None d some h = absurd (cc)
locked_was l p s b c (Some t) d some h = h

-- what is left of a call whose process rereads
abbrev Still : Place → Kind → ProcessState → Type 0
Still s kind t = IsRereading t.lock → IsRereading s × (is_store kind ≡ false) × (t.script_state ≡ Free)

still : (l : Layout) (limit p : ℕ) (s : Place) (b c : Bool) (e : ScriptState) (kind : Kind) (word : Word) (v : ℕ) (d : ProcessState) → IsSome (moved_by l limit p s b c e kind word v) → is_glance kind ≡ false → Still s kind (unwrap_or (moved_by l limit p s b c e kind word v) d)
still l limit p s b c Free kind word v d some moves = λ h.
    let o = next l.procs limit p s kind word v in
    let was = rereads_on l.procs limit p s kind word v (at_lock_some l p s b c o some) moves (locked_was l p s b c o d some h) in
    (was.0, was.1, locked_free l p s b c o d some h)
still l limit p s b c (Doing purpose (Asks j rest)) Gets (DataAt i) v d some moves = λ h. absurd (guard_process_state _ (process_after_script b c purpose (rest v)) d (λ t. IsRereading t.lock → ⊥) some (λ is. settled_not b c purpose (rest v)) h)
still l limit p s b c (Doing purpose (Writes j x rest)) Puts (DataAt i) v d some moves = λ h. absurd (guard_process_state _ (process_after_script b c purpose rest) d (λ t. IsRereading t.lock → ⊥) some (λ is. settled_not b c purpose rest) h)
still l limit p s b c (Doing purpose left) _ _ v d some moves = absurd (cc)

begun_free : (l : Layout) (p : ℕ) (s : Place) (b : Bool) (e : ScriptState) (call : Call) (d : ProcessState) → IsSome (begun_from l p s b e call) → IsRereading (unwrap_or (begun_from l p s b e call) d).lock → (unwrap_or (begun_from l p s b e call) d).script_state ≡ Free
begun_free l p s b Free Lock d some h = locked_free l p s b false (place_after_start s core.Lock) d some h
begun_free l p s b Free Recover d some h = locked_free l p s b false (place_after_start s core.Recover) d some h
begun_free l p s b Free Withdraw d some h = locked_free l p s b false (place_after_start s core.Withdraw) d some h
begun_free l p s true Free Unlock d some h = locked_free l p s true false (place_after_start s core.Unlock) d some h
begun_free l p s true Free Consistent d some h = absurd (cc)
begun_free l p s b Free _ d some h = absurd (guard_inside (λ t. IsRereading t.lock → ⊥) s b _ _ _ d (λ is on. on) some h)
begun_free l p s b (Doing purpose left) call d some h = absurd (cc)

-- the steps of p alone
abbrev pub OwnMove : ℕ → WorldEvent → Type 0
OwnMove p (Moves q kind word v) = (q ≡ p) × (is_glance kind ≡ false)
OwnMove p _ = ⊥

abbrev pub OwnMoves : ℕ → List WorldEvent → Type 0
OwnMoves p [] = Unit {0}
OwnMoves p (h ∷ hs) = OwnMove p h × OwnMoves p hs

module _ (l : Layout) (limit p : ℕ) where
  others_keep : (w : GlobalState) (h : WorldEvent) → Can l limit w h → p ≢ who h → (state_after_event l limit w h).words p ≡ w.words p
  others_keep w (Moves q kind word v) can ne =
      let process_state = w.process_states q in
      elim (cases_Bool (is_store kind)) [ inl store ↦ rw store (moved_apart l limit p q process_state.lock process_state.mended process_state.barred process_state.script_state kind word v w.words ne can.1 store) | inr load ↦ rw load refl ]
  others_keep w _ can ne = refl

  -- the next event of p in an execution: up to it p's state and words stay the same
  pub record Comes (w : GlobalState) (h : WorldEvent) (later : List WorldEvent) : Type 0 where
    pub global_state : GlobalState
    pub process_state : global_state.process_states p ≡ w.process_states p
    pub words : global_state.words p ≡ w.words p
    pub can : Can l limit global_state h
    pub rest : List WorldEvent
    pub execution : Execution l limit (state_after_event l limit global_state h) rest
    pub own : own_world_events p rest ≡ later

  comes : (hs : List WorldEvent) (w : GlobalState) (h : WorldEvent) (later : List WorldEvent) → Execution l limit w hs → own_world_events p hs ≡ h ∷ later → Comes w h later
  comes [] w h later execution is = absurd (cc)
  comes (x ∷ xs) w h later execution is =
      elim (cases_Bool (who x == p)) [
        | inl e ↦
            let all : x ∷ own_world_events p xs ≡ h ∷ later = rw e at is in
            let same : x ≡ h = cc in
            record { global_state = w; process_state = refl; words = refl; can = subst (Can l limit w) same execution.0; rest = xs; execution = subst (λ (y : WorldEvent). Execution l limit (state_after_event l limit w y) xs) same execution.1; own = cc }
        | inr e ↦
            let far : p ≢ who x = λ k. eqb-false (who x) p e (sym k) in
            let n = comes xs (state_after_event l limit w x) h later execution.1 (rw e at is) in
            record { global_state = n.global_state; process_state = n.process_state ∙ put_other w.process_states (who x) _ p far; words = n.words ∙ others_keep w x execution.0 far; can = n.can; rest = n.rest; execution = n.execution; own = n.own }
      ]

  -- the own words are those at the call's start, for a process that rereads
  abbrev Fresh : Own → ProcessState → Own → Type 0
  Fresh began process_state words = IsRereading process_state.lock → (process_state.script_state ≡ Free) × (began ≡ words)

  core_reads : (w : GlobalState) (s : Place) (kind : Kind) (word : Word) (v : ℕ) → IsSome (next l.procs limit p s kind word v) → (is_store kind ≡ false → reading_of w.words w.cells word ≡ v) → CoreReads w.words (Steps p kind word v)
  core_reads w s kind (DataAt i) v some reads = λ load. absurd (not_data l.procs limit p s kind i v some)
  core_reads w s kind _ v some reads = reads

  any_reads : (s : Place) (began : Own) (v : ℕ) → (IsRereading s → ⊥) → ReadsBegun began.choosing began.number began.inside s v
  any_reads (Reread call seen) began v h = absurd (h tt)
  any_reads _ began v h = tt

  reads : (w : GlobalState) (began : Own) (e : ScriptState) (s : Place) (b c : Bool) (kind : Kind) (word : Word) (v : ℕ) → IsSome (moved_by l limit p s b c e kind word v) → (is_store kind ≡ false → reading_of w.words w.cells word ≡ v) → is_glance kind ≡ false
      → (IsRereading s → (e ≡ Free) × (began ≡ w.words p)) → ReadsBegun began.choosing began.number began.inside s v
  reads w began Free s b c kind word v some reports moves fresh =
      let may = at_lock_some l p s b c (next l.procs limit p s kind word v) some in
      reads_begun l.procs limit (record { words = w.words; places = λ q. s }) p began s kind word v may moves (core_reads w s kind word v may reports) (λ h. (fresh h).1)
  reads w began (Doing purpose left) s b c kind word v some reports moves fresh = any_reads s began v (λ h. let no = (fresh h).0 in cc)

  abbrev Walking : Own → List WorldEvent → Type 0
  Walking began ms = (hs : List WorldEvent) (w : GlobalState) → Execution l limit w hs → own_world_events p hs ≡ ms → Fresh began (w.process_states p) (w.words p) → Walks l limit p began (w.process_states p) ms

  walk_one : (began : Own) (kind : Kind) (word : Word) (v : ℕ) (ms : List WorldEvent) → is_glance kind ≡ false → Walking began ms → Walking began (Moves p kind word v ∷ ms)
  walk_one began kind word v ms moves later hs w execution is fresh =
      let e : WorldEvent = Moves p kind word v in
      let n = comes hs w e ms execution is in
      let old : ProcessState = n.global_state.process_states p in
      let u : GlobalState = state_after_event l limit n.global_state e in
      let now : u.process_states p ≡ next_or_same l limit old e = put_same n.global_state.process_states p _ in
      let was : Fresh began old (n.global_state.words p) = subst (λ (t : ProcessState × Own). Fresh began t.0 t.1) (λ i. (sym n.process_state i, sym n.words i)) fresh in
      let stands : Fresh began (next_or_same l limit old e) (u.words p) = λ h.
      let before = still l limit p old.lock old.mended old.barred old.script_state kind word v old n.can.1 moves h in
      (before.2, (was before.0).1 ∙ kept n.global_state.words (is_store kind) before.1) in
      let rest : Walks l limit p began (u.process_states p) ms = later n.rest u n.execution n.own (subst (λ (t : ProcessState). Fresh began t (u.words p)) (sym now) stands) in
      subst (λ (t : ProcessState). Walks l limit p began t (e ∷ ms)) n.process_state
      ((refl, moves, reads n.global_state began old.script_state old.lock old.mended old.barred kind word v n.can.1 n.can.2 moves was), n.can.1, subst (λ (t : ProcessState). Walks l limit p began t ms) now rest)
    where
      kept : (words : ℕ → Own) (store : Bool) → store ≡ false → words p ≡ (if store then write words word v else words) p
      kept words true e = absurd (cc)
      kept words false e = refl

  walks : (began : Own) (ms : List WorldEvent) → OwnMoves p ms → Walking began ms
  walks began [] moves = λ hs w execution is fresh. tt
  walks began (Moves q kind word v ∷ ms) moves = subst (λ (r : ℕ). Walking began (Moves r kind word v ∷ ms)) (sym moves.0.0) (walk_one began kind word v ms moves.0.1 (walks began ms moves.1))
  walks began (_ ∷ ms) moves = absurd moves.0

  -- a call that p starts in this state, with these words
  abbrev pub StartsAt : Own → ProcessState → Call → List WorldEvent → Type 0
  StartsAt began process_state call ms = (p < l.procs) × IsSome (next_process_state l limit process_state (Begins p call)) × Walks l limit p began (next_or_same l limit process_state (Begins p call)) ms

  pub starts_never_crashes : (hs : List WorldEvent) (w : GlobalState) (call : Call) (ms : List WorldEvent) → Execution l limit w hs → own_world_events p hs ≡ Begins p call ∷ ms → OwnMoves p ms → StartsAt (w.words p) (w.process_states p) call ms
  starts_never_crashes hs w call ms execution is moves =
      let e : WorldEvent = Begins p call in
      let n = comes hs w e ms execution is in
      let old : ProcessState = n.global_state.process_states p in
      let u : GlobalState = state_after_event l limit n.global_state e in
      let now : u.process_states p ≡ next_or_same l limit old e = put_same n.global_state.process_states p _ in
      let fresh : Fresh (w.words p) (next_or_same l limit old e) (u.words p) = λ h. (begun_free l p old.lock old.mended old.script_state call old n.can.1 h, sym n.words) in
      let rest : Walks l limit p (w.words p) (u.process_states p) ms = walks (w.words p) ms moves n.rest u n.execution n.own (subst (λ (t : ProcessState). Fresh (w.words p) t (u.words p)) (sym now) fresh) in
      subst (λ (t : ProcessState). StartsAt (w.words p) t call ms) n.process_state (n.can.0, n.can.1, subst (λ (t : ProcessState). Walks l limit p (w.words p) t ms) now rest)

  pub starts_fallen : (hs : List WorldEvent) (w : GlobalState) (call : Call) (ms : List WorldEvent) → Execution l limit w hs → own_world_events p hs ≡ Falls p ∷ Begins p call ∷ ms → OwnMoves p ms → StartsAt (w.words p) dead_process call ms
  starts_fallen hs w call ms execution is moves =
      let n = comes hs w (Falls p) (Begins p call ∷ ms) execution is in
      let u : GlobalState = state_after_event l limit n.global_state (Falls p) in
      let now : u.process_states p ≡ dead_process = put_same n.global_state.process_states p _ in
      subst (λ (t : Own × ProcessState). StartsAt t.0 t.1 call ms) (λ i. (n.words i, now i)) (starts_never_crashes n.rest u call ms n.execution n.own moves)
