-- A worker ruins no lock: it starts an unlock only after an append or a mending. So it is answered NotRecoverable only after
-- it has read the ruin, and it leaves nothing unmended unless it has read one.
use Rattle.std.proofs.Common.{◌≡◌, ℕ, ◌==◌, ◌&&◌, Bool, true, false, if◌then◌else◌, ◌⊎◌, List, [], ◌∷◌, length, Option, Some, None, IsSome, unwrap_or, refl, sym, ap, ◌∙◌, subst, inl, inr, eqb-true}
use Rattle.table_runs.proofs.Common.{and_parts, cases_Bool, Kind, Glance as Looks, Word, Choosing as ChoosingOf, Number as NumberOf, Data as DataAt, Place, Dead, Inside, next, place_after_start, is_store}
use Rattle.table_runs.proofs.Common.{Layout, Reply, Task, Script, Get as Asks, Put as Writes, Done, repair, consistent, script, Call, Lock, Unlock, Consistent, Append, Purpose, Checking, Ruining}
use Rattle.table_runs.proofs.Common.{Mending, Working, is_entry, ScriptState, Free, Doing, ProcessState, begun_from, Begins, next_process_state, WorldEvent, at_lock, process_after_script, mended_entered, moved_by, dead_process}
use Rattle.table_runs.proofs.Common.{TakenStep, Setup, last_call, last_of, MayStart, AreInWorkerOrder, ReadsRuin, HasReadRuin, settles, before, access_event, world_events, events_of_run, process_state_past, AllowsEvents, AllReplies}
use Rattle.rmecore.specs.declared.core_call.CoreCall.TheVariants as core
use Rattle.rmecore.specs.declared.kind.Kind.TheVariants.{Get as Gets, Put as Puts}
use Rattle.rmecore.specs.declared.word.Word.TheVariants.{Inside as InsideOf}
use Rattle.redomail.specs.declared.reply.Reply.TheVariants as reply
use Rattle.redomail.specs.declared.task.Task.TheVariants as task
use Rattle.rmeworld.proofs.CallSteps.{guard_process_state}
use Rattle.table_runs.proofs.Begun.{replies_repair, guard_inside}
use Rattle.table_runs.proofs.Leads.{gone-append}
use Rattle.table_runs.proofs.OneStep.{goes_front, goes_back}
use Rattle.table_runs.proofs.Runs.{by_kind}

-- each reply of the script after the reading satisfies this
abbrev pub IsMended : Reply → Type 0
IsMended (reply.Mended repaired) = Unit {0}
IsMended _ = ⊥

abbrev pub check : Script Reply
check = Asks 0 (λ x. Done (reply.Ruined (x == 1)))

-- the state of a worker's process that has read no ruin, by the call that it started last
abbrev pub Stands : Layout → Option Call → Place → Bool → Bool → ScriptState → Type 0
Stands l last s b c Free = (c ≡ false) × (settles last ≡ true → (s ≡ Inside) × (b ≡ true))
Stands l last s b c (Doing Checking left) = (c ≡ false) × (left ≡ check) × (settles last ≡ false)
Stands l last s b c (Doing Ruining left) = ⊥
Stands l last s b c (Doing Mending left) = (c ≡ false) × (((q : ℕ) × (left ≡ consistent l q)) ⊎ AllReplies IsMended left)
Stands l last s b c (Doing (Working t) left) = (c ≡ false) × (settles last ≡ true → b ≡ true)

-- this step reads a ruin
abbrev pub IsRuin : Kind → Word → ℕ → Type 0
IsRuin kind word v = (is_store kind ≡ false) × (word ≡ DataAt 0) × (v ≡ 1)

settled_not : {A : Type 0} {b : Bool} → b ≡ false → b ≡ true → A
settled_not never_crashes on = absurd (let k : false ≡ true = sym never_crashes ∙ on in cc)

module _ (l : Layout) where
  abbrev pub StandsAt : Option Call → ProcessState → Type 0
  StandsAt last t = Stands l last t.lock t.mended t.barred t.script_state

  -- the lock's part, outside
  placed_by : (p : ℕ) (last : Option Call) (t : Place) (b c enters : Bool) → c ≡ false → settles last ≡ false → Stands l last t b c (if enters then Doing Checking (script l p task.Check) else Free)
  placed_by p last t b c true never_crashes out = (never_crashes, refl, out)
  placed_by p last t b c false never_crashes out = (never_crashes, λ e. settled_not out e)

  placed : (p : ℕ) (last : Option Call) (s : Place) (b c : Bool) (o : Option Place) (d : ProcessState) → c ≡ false → settles last ≡ false → IsSome (at_lock l p s b c o) → StandsAt last (unwrap_or (at_lock l p s b c o) d)
  placed p last s b c None d never_crashes out some = absurd (cc)
  placed p last s b c (Some t) d never_crashes out some = placed_by p last t (mended_entered b s t) c (is_entry s t) never_crashes out

  inside_next : (n limit p : ℕ) (kind : Kind) (word : Word) (v : ℕ) (t : Place) → next n limit p Inside kind word v ≡ Some t → t ≡ Inside
  inside_next n limit p Looks (ChoosingOf q) v t e = let same : t ≡ Inside = cc in same
  inside_next n limit p Looks (NumberOf q) v t e = let same : t ≡ Inside = cc in same
  inside_next n limit p Looks (InsideOf q) v t e = let same : t ≡ Inside = cc in same
  inside_next n limit p _ _ v t e = absurd (cc)

  -- and inside
  held : (p : ℕ) (last : Option Call) (s : Place) (b c : Bool) (o : Option Place) (d : ProcessState) → c ≡ false → s ≡ Inside → b ≡ true → ((t : Place) → o ≡ Some t → t ≡ Inside) → IsSome (at_lock l p s b c o) → StandsAt last (unwrap_or (at_lock l p s b c o) d)
  held p last s b c None d never_crashes in_it fine stays some = absurd (cc)
  held p last s b c (Some t) d never_crashes in_it fine stays some =
      let here : Stands l last Inside b c Free = (never_crashes, λ e. (refl, fine)) in
      subst (λ (u : Place × Place). StandsAt last (unwrap_or (at_lock l p u.0 b c (Some u.1)) d)) (λ i. (sym in_it i, sym (stays t refl) i)) here

  free_moves : (limit p : ℕ) (last : Option Call) (s : Place) (b c : Bool) (kind : Kind) (word : Word) (v : ℕ) (d : ProcessState) → Stands l last s b c Free → IsSome (at_lock l p s b c (next l.procs limit p s kind word v)) → StandsAt last (unwrap_or (at_lock l p s b c (next l.procs limit p s kind word v)) d)
  free_moves limit p last s b c kind word v d h some =
      elim (cases_Bool (settles last)) [
        | inl on ↦
            (let inner = h.1 on in
            held p last s b c (next l.procs limit p s kind word v) d h.0 inner.0 inner.1 (λ t e. inside_next l.procs limit p kind word v t (ap (λ (u : Place). next l.procs limit p u kind word v) (sym inner.0) ∙ e)) some)
        | inr never_crashes ↦ placed p last s b c (next l.procs limit p s kind word v) d h.0 never_crashes some
      ]

  module _ (last : Option Call) (s : Place) (b c : Bool) (limit p : ℕ) (d : ProcessState) where
    abbrev After : Purpose → Script Reply → Kind → Word → ℕ → Type 0
    After purpose left kind word v = IsSome (moved_by l limit p s b c (Doing purpose left) kind word v) → IsRuin kind word v ⊎ StandsAt last (unwrap_or (moved_by l limit p s b c (Doing purpose left) kind word v) d)

    checks : (kind : Kind) (word : Word) (v : ℕ) → c ≡ false → settles last ≡ false → After Checking check kind word v
    checks Gets (DataAt i) v never_crashes out some =
        guard_process_state (i == 0) (process_after_script b c Checking (Done (reply.Ruined (v == 1)))) d (λ t. IsRuin Gets (DataAt i) v ⊎ StandsAt last t) some
        (λ is. elim (cases_Bool (v == 1)) [ inl ruined ↦ inl (refl, ap DataAt (eqb-true i 0 is), eqb-true v 1 ruined) | inr other ↦ inr (rw other (never_crashes, λ e. settled_not out e)) ])
    checks _ _ v never_crashes out some = absurd (cc)

    mends_first : (q : ℕ) (kind : Kind) (word : Word) (v : ℕ) → c ≡ false → After Mending (consistent l q) kind word v
    mends_first q Gets (DataAt i) v never_crashes some =
        guard_process_state (i == 0) (process_after_script b c Mending (if v == 1 then Done (reply.Ruined true) else repair l q)) d (λ t. IsRuin Gets (DataAt i) v ⊎ StandsAt last t) some
        (λ is. elim (cases_Bool (v == 1)) [ inl ruined ↦ inl (refl, ap DataAt (eqb-true i 0 is), eqb-true v 1 ruined) | inr other ↦ inr (rw other (never_crashes, inr (replies_repair IsMended (λ repaired. tt) l q))) ])
    mends_first q _ _ v never_crashes some = absurd (cc)

    -- what is left of a repair, or of a task
    mended_then : (left : Script Reply) → c ≡ false → AllReplies IsMended left → StandsAt last (process_after_script b c Mending left)
    mended_then (Done (reply.Mended x)) never_crashes h = (never_crashes, λ e. (refl, refl))
    mended_then (Asks i rest) never_crashes h = (never_crashes, inr h)
    mended_then (Writes i v rest) never_crashes h = (never_crashes, inr h)
    mended_then (Done _) never_crashes h = absurd h

    worked_then : (t : Task) (left : Script Reply) → c ≡ false → (settles last ≡ true → b ≡ true) → StandsAt last (process_after_script b c (Working t) left)
    worked_then t (Done r) never_crashes fine = (never_crashes, λ e. (refl, fine e))
    worked_then t (Asks i rest) never_crashes fine = (never_crashes, fine)
    worked_then t (Writes i v rest) never_crashes fine = (never_crashes, fine)

    mends_on : (left : Script Reply) (kind : Kind) (word : Word) (v : ℕ) → c ≡ false → AllReplies IsMended left → After Mending left kind word v
    mends_on (Asks j rest) Gets (DataAt i) v never_crashes h some = inr (guard_process_state _ (process_after_script b c Mending (rest v)) d (StandsAt last) some (λ is. mended_then (rest v) never_crashes (h v)))
    mends_on (Writes j x rest) Puts (DataAt i) v never_crashes h some = inr (guard_process_state _ (process_after_script b c Mending rest) d (StandsAt last) some (λ is. mended_then rest never_crashes h))
    mends_on _ _ _ v never_crashes h some = absurd (cc)

    works_on : (t : Task) (left : Script Reply) (kind : Kind) (word : Word) (v : ℕ) → c ≡ false → (settles last ≡ true → b ≡ true) → After (Working t) left kind word v
    works_on t (Asks j rest) Gets (DataAt i) v never_crashes h some = inr (guard_process_state _ (process_after_script b c (Working t) (rest v)) d (StandsAt last) some (λ is. worked_then t (rest v) never_crashes h))
    works_on t (Writes j x rest) Puts (DataAt i) v never_crashes h some = inr (guard_process_state _ (process_after_script b c (Working t) rest) d (StandsAt last) some (λ is. worked_then t rest never_crashes h))
    works_on t _ _ _ v never_crashes h some = absurd (cc)

    moves : (e : ScriptState) (kind : Kind) (word : Word) (v : ℕ) → Stands l last s b c e → IsSome (moved_by l limit p s b c e kind word v) → IsRuin kind word v ⊎ StandsAt last (unwrap_or (moved_by l limit p s b c e kind word v) d)
    moves Free kind word v h some = inr (free_moves limit p last s b c kind word v d h some)
    moves (Doing Checking left) kind word v h some = subst (λ (r : Script Reply). After Checking r kind word v) (sym h.1) (checks kind word v h.0 h.2) some
    moves (Doing Ruining left) kind word v h some = absurd h
    moves (Doing Mending left) kind word v (never_crashes, inl (q, e)) some = subst (λ (r : Script Reply). After Mending r kind word v) (sym e) (mends_first q kind word v never_crashes) some
    moves (Doing Mending left) kind word v (never_crashes, inr h) some = mends_on left kind word v never_crashes h some
    moves (Doing (Working t) left) kind word v h some = works_on t left kind word v h.0 h.1 some

  -- a start
  starts_machine_state : (p : ℕ) (last : Option Call) (call : Call) (s : Place) (b c : Bool) (e : ScriptState) (d : ProcessState) → Stands l last s b c e → MayStart last false (Some call) → IsSome (begun_from l p s b e call) → StandsAt (Some call) (unwrap_or (begun_from l p s b e call) d)
  starts_machine_state p last Lock s b c Free d h may some = placed p (Some Lock) s b false (place_after_start s core.Lock) d refl refl some
  starts_machine_state p last Unlock s true c Free d h may some = placed p (Some Unlock) s true false (place_after_start s core.Unlock) d refl refl some
  starts_machine_state p last Unlock s false c Free d h may some = absurd (let k : false ≡ true = (h.1 may.1).1 in cc)
  starts_machine_state p last Consistent s true c Free d h may some = absurd (cc)
  starts_machine_state p last Consistent s false c Free d h may some = guard_inside (StandsAt (Some Consistent)) s false true Mending (consistent l p) d (λ fits. (refl, inl (p, refl))) some
  starts_machine_state p last (Append seq value) s b c Free d h may some =
      guard_inside (StandsAt (Some (Append seq value))) s b (b && (length value == l.width)) (Working (task.Append seq value)) (script l p (task.Append seq value)) d (λ fits. (refl, λ e. (and_parts b (length value == l.width) fits).0)) some
  starts_machine_state p last _ s b c (Doing purpose left) d h may some = absurd (cc)
  starts_machine_state p last _ s b c e d h may some = absurd may

module _ (s : Setup) where
  may_dead : (last : Option Call) (call : Call) → MayStart last true (Some call) → MayStart None false (Some call)
  may_dead last Lock h = tt
  may_dead last Consistent h = tt
  may_dead last (Append seq value) h = tt
  may_dead last Unlock h = absurd (let k : true ≡ false = h.0 in cc)
  may_dead last _ h = absurd h

  pub before_stands : (last : Option Call) (crashed : Bool) (o : Option Call) (p : ℕ) (q : ProcessState) → StandsAt s.layout last q → MayStart last crashed o → AllowsEvents s q (before crashed o p) → StandsAt s.layout (last_call last crashed o) (process_state_past s q (before crashed o p))
  before_stands last true None p q h may goes = (refl, λ e. absurd (cc))
  before_stands last true (Some call) p q h may goes = starts_machine_state s.layout p None call Dead true false Free dead_process (refl, λ e. absurd (cc)) (may_dead last call may) goes.1.0
  before_stands last false None p q h may goes = h
  before_stands last false (Some call) p q h may goes = starts_machine_state s.layout p last call q.lock q.mended q.barred q.script_state q h may goes.0

  taken_stands : (last : Option Call) (p : ℕ) (kind : Kind) (word : Word) (v : ℕ) (q : ProcessState) → StandsAt s.layout last q → IsSome (next_process_state s.layout s.limit q (access_event p kind word v)) → IsRuin kind word v ⊎ StandsAt s.layout last (unwrap_or (next_process_state s.layout s.limit q (access_event p kind word v)) q)
  taken_stands last p kind word v q h =
      by_kind (λ (k : Kind) (e : WorldEvent). IsSome (next_process_state s.layout s.limit q e) → IsRuin k word v ⊎ StandsAt s.layout last (unwrap_or (next_process_state s.layout s.limit q e) q)) p word v (λ some. inr h)
      (λ k some. moves s.layout last q.lock q.mended q.barred s.limit p q q.script_state k word v h some) kind

  pub entry_stands : (last : Option Call) (q : ProcessState) (e : TakenStep) → StandsAt s.layout last q → MayStart last e.step.crashed e.step.start → AllowsEvents s q (world_events e) → ReadsRuin e ⊎ StandsAt s.layout (last_call last e.step.crashed e.step.start) (process_state_past s q (world_events e))
  entry_stands last q e h may goes =
      let hs = before e.step.crashed e.step.start e.by in
      let x = access_event e.by e.step.kind e.step.word e.value in
      let first = before_stands last e.step.crashed e.step.start e.by q h may (goes_front s q hs (x ∷ []) goes) in
      let some = (goes_back s q hs (x ∷ []) goes).0 in
      elim (taken_stands (last_call last e.step.crashed e.step.start) e.by e.step.kind e.step.word e.value (process_state_past s q hs) first some) [
        | inl ruin ↦ inl ruin
        | inr stands ↦ inr (subst (StandsAt s.layout (last_call last e.step.crashed e.step.start)) (sym (gone-append s q hs (x ∷ []))) stands)
      ]

  pub later_ruin : (e : TakenStep) (es : List TakenStep) → HasReadRuin es → HasReadRuin (e ∷ es)
  later_ruin e es h = record { front = e ∷ h.front; entry = h.entry; back = h.back; is = ap (λ (l : List TakenStep). e ∷ l) h.is; reads = h.reads }

  -- a worker's entries, from the first on
  pub walk : (last : Option Call) (q : ProcessState) (es : List TakenStep) → StandsAt s.layout last q → AreInWorkerOrder last es → AllowsEvents s q (events_of_run es) → HasReadRuin es ⊎ StandsAt s.layout (last_of last es) (process_state_past s q (events_of_run es))
  walk last q [] h order goes = inr h
  walk last q (e ∷ es) h order goes =
      let last2 = last_call last e.step.crashed e.step.start in
      elim (entry_stands last q e h order.0 (goes_front s q (world_events e) (events_of_run es) goes)) [
        | inl ruin ↦ inl (record { front = []; entry = e; back = es; is = refl; reads = ruin })
        | inr stands ↦
            elim (walk last2 (process_state_past s q (world_events e)) es stands order.1 (goes_back s q (world_events e) (events_of_run es) goes)) [
              | inl later ↦ inl (later_ruin e es later)
              | inr there ↦ inr (subst (StandsAt s.layout (last_of last2 es)) (sym (gone-append s q (world_events e) (events_of_run es))) there)
            ]
      ]

  -- no process that has something to mend starts an unlock
  pub unlocks_mended : (last : Option Call) (q : ProcessState) (p : ℕ) → StandsAt s.layout last q → settles last ≡ true → IsSome (next_process_state s.layout s.limit q (Begins p Unlock)) → q.mended ≡ false → ⊥
  unlocks_mended last q p h on some unmended = by q.lock q.mended q.barred q.script_state h some unmended
    where
      by : (t : Place) (b c : Bool) (e : ScriptState) → Stands s.layout last t b c e → IsSome (begun_from s.layout p t b e Unlock) → b ≡ false → ⊥
      by t b c Free k some no_mend = absurd (let mended : b ≡ true = (k.1 on).1 in let bad : false ≡ true = sym no_mend ∙ mended in cc)
      by t true c (Doing purpose left) k some no_mend = absurd (cc)
      by t false c (Doing purpose left) k some no_mend = absurd (cc)
