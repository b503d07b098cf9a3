-- Every event of a world keeps the invariant of its counts.
use Rattle.std.proofs.Common.{◌≡◌, ◌≢◌, ℕ, zero, suc, ◌+◌, ◌<◌, Bool, true, false, ◌&&◌, ◌==◌, if◌then◌else◌, List, [], ◌∷◌, length, map, Option, Some, None, IsSome, IfSome, unwrap_or, refl, sym, ap, ◌∙◌, subst, inl, inr, arith, get_or-set_same, get_or-set_other}
use Rattle.rmeworld.proofs.Common.{cases_eq, Access, Load, Store, Kind, Gets, Puts, Own, Tally, Word, Data as DataAt, kind_of, word_of, is_glance, ReadsBegun, Place, next, Steps, tally_at, own_at}
use Rattle.rmeworld.proofs.Common.{new_tally, tally_after_step, IsExact, IsRereading, is_store, write, put_same, put_other, not_data, Layout, Reply, Ruined, Words, Script, Get as Asks, Put as Writes, Done, Answer}
use Rattle.rmeworld.proofs.Common.{Call, Purpose, Checking, answer_at, blocked_by, script_state_of, most_steps, PaysAt, value_of, world_after_start, advanced_by, ScriptState, Free, Doing, ProcessState, dead_process, Begins, Falls, Moves}
use Rattle.rmeworld.proofs.Common.{process_after_script, at_lock, moved_by, next_process_state, end_place, MachineState, outcome, access_by, StoresOwn, HasTaken, IsTallied, AllTallied, call_at, reading, GlobalState, state_after_event, Can}
use Rattle.rmeworld.proofs.Common.{words_after, reading_of, WorldState, machine_state_at, process_state_at, global_state_of, Takes, IsConfigured}
use Rattle.rmecore.specs.World.{Reads as CoreReads}
use Rattle.rmecore.proofs.Tallies.{never_glances, exact_before, sums, Was, rereads_on, reads_begun}
use Rattle.rmeworld.specs.Replayed.{world_after_crash}
use Rattle.rmeworld.proofs.CallBounds.{fewer_at}
use Rattle.rmeworld.proofs.CallSteps.{more, guard_process_state, To, step_by, start_to}
use Rattle.rmeworld.proofs.WorldSteps.{IsStep, step_takes}

-- the machine's next step is never a glance
pub glances_never : (limit p : ℕ) (s : Place) (e : ScriptState) → IfSome (access_by limit p s e) (λ a. is_glance (kind_of a) ≡ false)
glances_never limit p s Free = never_glances limit p s
glances_never limit p s (Doing purpose (Asks i rest)) = refl
glances_never limit p s (Doing purpose (Writes i v rest)) = refl
glances_never limit p s (Doing purpose (Done reply)) = tt

pub no_glance : (limit p : ℕ) (s : Place) (e : ScriptState) (a : Access) → access_by limit p s e ≡ Some a → is_glance (kind_of a) ≡ false
no_glance limit p s e a is = subst (λ o. IfSome o (λ a. is_glance (kind_of a) ≡ false)) is (glances_never limit p s e)

-- a process that rereads after a step has read one of its own words in that step
ended_not : (purpose : Purpose) (a : Reply) → IsRereading (end_place purpose a) → ⊥
ended_not Checking (Ruined true) h = h
ended_not _ _ h = h

pub settled_not : (m c : Bool) (purpose : Purpose) (left : Script Reply) → IsRereading (process_after_script m c purpose left).lock → ⊥
settled_not m c purpose (Asks i rest) h = h
settled_not m c purpose (Writes i v rest) h = h
settled_not m c purpose (Done a) h = ended_not purpose a h

pub at_lock_some : (l : Layout) (p : ℕ) (s : Place) (m c : Bool) (o : Option Place) → IsSome (at_lock l p s m c o) → IsSome o
at_lock_some l p s m c None some = absurd (cc)
at_lock_some l p s m c (Some t) some = refl

module _ (l : Layout) (limit p : ℕ) where
  at_lock_was : (o : Option Place) (s : Place) (m c : Bool) (kind : Kind) (d : ProcessState) → IsSome (at_lock l p s m c o) → (IsSome o → Was s kind (unwrap_or o s)) → Was s kind (unwrap_or (at_lock l p s m c o) d).lock
  at_lock_was None s m c kind d some was = absurd (cc)
  at_lock_was (Some t) s m c kind d some was = was refl

  rereads_so : (s : Place) (m c : Bool) (e : ScriptState) (d : ProcessState) (kind : Kind) (word : Word) (v : ℕ) → IsSome (moved_by l limit p s m c e kind word v) → is_glance kind ≡ false → Was s kind (unwrap_or (moved_by l limit p s m c e kind word v) d).lock
  rereads_so s m c Free d kind word v some moves = at_lock_was (next l.procs limit p s kind word v) s m c kind d some (λ may. rereads_on l.procs limit p s kind word v may moves)
  rereads_so s m c (Doing purpose (Asks j rest)) d Gets (DataAt i) v some moves = guard_process_state (i == j) (process_after_script m c purpose (rest v)) d (λ process_state. Was s Gets process_state.lock) some (λ e. λ h. absurd (settled_not m c purpose (rest v) h))
  rereads_so s m c (Doing purpose (Writes j x rest)) d Puts (DataAt i) v some moves = guard_process_state ((i == j) && (v == x)) (process_after_script m c purpose rest) d (λ process_state. Was s Puts process_state.lock) some (λ e. λ h. absurd (settled_not m c purpose rest h))
  rereads_so s m c (Doing purpose _) d _ _ v some moves = absurd (cc)

  -- a lock word is read with its current value
  core_reads : (words : ℕ → Own) (cells : Words) (s : Place) (kind : Kind) (word : Word) (v : ℕ) → IsSome (next l.procs limit p s kind word v) → (is_store kind ≡ false → reading_of words cells word ≡ v) → CoreReads words (Steps p kind word v)
  core_reads words cells s kind (DataAt i) v some reads = λ load. absurd (not_data l.procs limit p s kind i v some)
  core_reads words cells s kind _ v some reads = reads

-- the counts after one step of a process. The call began with the words in its tally
module _ (l : Layout) (limit : ℕ) (w : GlobalState) (p : ℕ) (kind : Kind) (word : Word) (v : ℕ) (t : Tally) (can : Can l limit w (Moves p kind word v)) (moves : is_glance kind ≡ false) (tallied : IsTallied l (w.words p) (w.process_states p) t) where
  abbrev process_state : ProcessState
  process_state = w.process_states p

  abbrev b : Bool
  b = blocked_by p process_state.lock process_state.script_state kind v

  abbrev to : ProcessState
  to = unwrap_or (next_process_state l limit process_state (Moves p kind word v)) process_state

  reads : process_state.script_state ≡ Free → ReadsBegun t.began.choosing t.began.number t.began.inside process_state.lock v
  reads free =
      let some : IsSome (next l.procs limit p process_state.lock kind word v) = at_lock_some l p process_state.lock process_state.mended process_state.barred (next l.procs limit p process_state.lock kind word v) (subst (λ e. IsSome (moved_by l limit p process_state.lock process_state.mended process_state.barred e kind word v)) free can.1) in
      reads_begun l.procs limit (record { words = w.words; places = λ q. process_state.lock }) p t.began process_state.lock kind word v some moves (core_reads l limit p w.words w.cells process_state.lock kind word v some can.2) tallied.began

  counts : IsExact (tally_after_step t b) → (x : ℕ) × To l t.began process_state.mended (call_at process_state) (answer_at process_state kind v) to x × ((tally_after_step t b).steps ≡ x + (tally_after_step t b).blocked)
  counts exact =
      let old = tallied.taking (exact_before t b exact) in
      (more b old.0, step_by l p t.began limit can.0 process_state kind word v old.0 can.1 moves reads old.1, sums t b old.0 exact old.2)

  -- with the answer, the steps are exactly those of the table
  pub answered : IfSome (answer_at process_state kind v) (λ a. IsExact (tally_after_step t b) → HasTaken l process_state (tally_after_step t b) a)
  answered = of (answer_at process_state kind v) counts
    where
      of : (o : Option Answer) → (IsExact (tally_after_step t b) → (x : ℕ) × To l t.began process_state.mended (call_at process_state) o to x × ((tally_after_step t b).steps ≡ x + (tally_after_step t b).blocked)) → IfSome o (λ a. IsExact (tally_after_step t b) → HasTaken l process_state (tally_after_step t b) a)
      of None f = tt
      of (Some a) f = λ exact. let c = f exact in let own = c.1.2 in (own.0, own.1, (c.0, own.2, c.2))

  pays_on : (o : Option Answer) (x : ℕ) → To l t.began process_state.mended (call_at process_state) o to x → PaysAt l t.began to x
  pays_on None x h = h.0
  pays_on (Some a) x h = h.0

  pub tallied_on : IsTallied l (words_after w.words (Moves p kind word v) p) to (tally_after_step t b)
  tallied_on =
      record {
        began = λ h.
            let was = rereads_so l limit p process_state.lock process_state.mended process_state.barred process_state.script_state process_state kind word v can.1 moves h in
            tallied.began was.0 ∙ loads (is_store kind) was.1;
        taking = λ exact. let c = counts exact in (c.0, pays_on (answer_at process_state kind v) c.0 c.1, c.2);
      }
    where
      loads : (store : Bool) → store ≡ false → w.words p ≡ (if store then write w.words word v else w.words) p
      loads true e = cc
      loads false e = refl

-- the others did not change
all_but : (l : Layout) (w w' : GlobalState) (p : ℕ) (tallies tallies' : List Tally) → ((q : ℕ) → q ≢ p → w'.words q ≡ w.words q) → ((q : ℕ) → q ≢ p → w'.process_states q ≡ w.process_states q) → ((q : ℕ) → q ≢ p → tally_at tallies' q ≡ tally_at tallies q)
    → IsTallied l (w'.words p) (w'.process_states p) (tally_at tallies' p) → AllTallied l w tallies → AllTallied l w' tallies'
all_but l w w' p tallies tallies' words process_states same here all q below =
    elim (cases_eq q p) [
      | inl is ↦ subst (λ r. IsTallied l (w'.words r) (w'.process_states r) (tally_at tallies' r)) (sym is) here
      | inr ne ↦
          subst (λ t. IsTallied l (w'.words q) (w'.process_states q) t) (sym (same q ne))
          (subst (λ x. IsTallied l (w'.words q) x (tally_at tallies q)) (sym (process_states q ne))
          (subst (λ x. IsTallied l x (w.process_states q) (tally_at tallies q)) (sym (words q ne)) (all q below)))
    ]

others_words : (words : ℕ → Own) (p r : ℕ) (a : Access) (v q : ℕ) → StoresOwn r a → r ≡ p → q ≢ p → words_after words (Moves p (kind_of a) (word_of a) v) q ≡ words q
others_words words p r (Load kind word) v q own mine ne = rw own refl
others_words words p r (Store kind (DataAt i) x) v q own mine ne = rw (own.0) refl
others_words words p r (Store kind _ x) v q own mine ne = rw (own.0) (put_other words _ _ q (λ e. ne (e ∙ own.1 ∙ mine)))

module _ (s : WorldState) (p : ℕ) (a : Access) (step : IsStep s p a) (all : AllTallied s.layout (global_state_of s) s.tallies) where
  abbrev v : ℕ
  v = value_of s a

  abbrev from_process_state : ProcessState
  from_process_state = process_state_at s.processes p

  abbrev blocked : Bool
  blocked = blocked_by p from_process_state.lock from_process_state.script_state (kind_of a) v

  abbrev tally : Tally
  tally = tally_at s.tallies p

  abbrev tallies' : List Tally
  tallies' = (advanced_by s p a).tallies

  moves : is_glance (kind_of a) ≡ false
  moves =
      let st : MachineState = machine_state_at s.processes p in
      no_glance st.limit st.index st.lock (script_state_of st.script_state) a step.next

  configuration_index : (machine_state_at s.processes p).index ≡ p
  configuration_index = let configuration = step.configured.configurations p step.below in configuration.2

  room : p < length s.tallies
  room = subst (λ n. p < n) (sym step.configured.tallies_each) step.below

  -- the counts after the step
  abbrev count : Tally
  count = tally_after_step tally (outcome (machine_state_at s.processes p) (Some a) (reading (global_state_of s) (word_of a))).progress.blocked

  now : tally_at tallies' p ≡ tally_after_step tally blocked
  now = get_or-set_same s.tallies p count _ room ∙ ap (λ q. tally_after_step tally (blocked_by q from_process_state.lock from_process_state.script_state (kind_of a) v)) configuration_index

  pub tallied_step : AllTallied s.layout (global_state_of (advanced_by s p a)) tallies'
  tallied_step =
      let takes = step_takes s p a step in
      let to : ProcessState = unwrap_or (next_process_state s.layout s.limit from_process_state (Moves p (kind_of a) (word_of a) v)) from_process_state in
      let on = tallied_on s.layout s.limit (global_state_of s) p (kind_of a) (word_of a) v tally takes.can moves (all p step.below) in
      subst (λ w. AllTallied s.layout w tallies') (sym takes.global_state)
      (all_but s.layout (global_state_of s) (state_after_event s.layout s.limit (global_state_of s) (Moves p (kind_of a) (word_of a) v)) p s.tallies tallies'
      (λ q ne. others_words (own_at s.words) p _ a v q step.own configuration_index ne)
      (λ q ne. put_other (process_state_at s.processes) p to q ne)
      (λ q ne. get_or-set_other s.tallies p q count _ ne)
      (subst (λ x. IsTallied s.layout (words_after (own_at s.words) (Moves p (kind_of a) (word_of a) v) p) x (tally_at tallies' p)) (sym (put_same (process_state_at s.processes) p to))
      (subst (IsTallied s.layout (words_after (own_at s.words) (Moves p (kind_of a) (word_of a) v) p) to) (sym now) on))
      all)

  pub answered_step : IfSome (answer_at from_process_state (kind_of a) v) (λ x. IsExact (tally_at tallies' p) → HasTaken s.layout from_process_state (tally_at tallies' p) x)
  answered_step =
      let takes = step_takes s p a step in
      subst (λ t. IfSome (answer_at from_process_state (kind_of a) v) (λ x. IsExact t → HasTaken s.layout from_process_state t x)) (sym now)
      (answered s.layout s.limit (global_state_of s) p (kind_of a) (word_of a) v tally takes.can moves (all p step.below))

pub tallied_start : (s : WorldState) (p : ℕ) (call : Call) → IsConfigured s.layout s.limit s.words s.processes s.tallies → p < s.layout.procs → Takes s (Begins p call) (world_after_start s p call) → AllTallied s.layout (global_state_of s) s.tallies → AllTallied s.layout (global_state_of (world_after_start s p call)) (world_after_start s p call).tallies
tallied_start s p call configured below takes all =
    let own : Own = own_at s.words p in
    let to = unwrap_or (next_process_state s.layout s.limit (process_state_at s.processes p) (Begins p call)) (process_state_at s.processes p) in
    let new = (world_after_start s p call).tallies in
    let begun : IsTallied s.layout own to (new_tally own) = record { began = λ h. refl; taking = λ exact. (0, (start_to s.layout p own s.limit (process_state_at s.processes p) call takes.can.1).0, refl) } in
    subst (λ w. AllTallied s.layout w new) (sym takes.global_state)
    (all_but s.layout (global_state_of s) (state_after_event s.layout s.limit (global_state_of s) (Begins p call)) p s.tallies new (λ q ne. refl)
    (λ q ne. put_other (process_state_at s.processes) p to q ne)
    (λ q ne. get_or-set_other s.tallies p q _ _ ne)
    (subst (λ x. IsTallied s.layout own x (tally_at new p)) (sym (put_same (process_state_at s.processes) p to))
    (subst (IsTallied s.layout own to) (sym (get_or-set_same s.tallies p (new_tally own) _ (subst (λ n. p < n) (sym configured.tallies_each) below))) begun))
    all)

pub tallied_crash : (s : WorldState) (p : ℕ) → p < s.layout.procs → Takes s (Falls p) (world_after_crash s p) → AllTallied s.layout (global_state_of s) s.tallies → AllTallied s.layout (global_state_of (world_after_crash s p)) s.tallies
tallied_crash s p below takes all =
    let before = all p below in
    let fallen : IsTallied s.layout (own_at s.words p) dead_process (tally_at s.tallies p) = record { began = λ h. absurd h; taking = λ exact. let x = before.taking exact in (x.0, tt, x.2) } in
    subst (λ w. AllTallied s.layout w s.tallies) (sym takes.global_state)
    (all_but s.layout (global_state_of s) (state_after_event s.layout s.limit (global_state_of s) (Falls p)) p s.tallies s.tallies (λ q ne. refl)
    (λ q ne. put_other (process_state_at s.processes) p dead_process q ne) (λ q ne. refl)
    (subst (λ x. IsTallied s.layout (own_at s.words p) x (tally_at s.tallies p)) (sym (put_same (process_state_at s.processes) p dead_process)) fallen)
    all)

-- before the first call of a process at rest, or crashed
uncounted : (words : List Own) (p : ℕ) → (tally_at (map new_tally words) p).steps ≡ 0 + (tally_at (map new_tally words) p).blocked
uncounted [] p = refl
uncounted (x ∷ xs) zero = refl
uncounted (x ∷ xs) (suc p) = uncounted xs p

pub unstarted : (l : Layout) (own : Own) (process_state : ProcessState) (words : List Own) (p : ℕ) → process_state ≡ dead_process → IsTallied l own process_state (tally_at (map new_tally words) p)
unstarted l own process_state words p is = subst (λ x. IsTallied l own x (tally_at (map new_tally words) p)) (sym is) (record { began = λ h. absurd h; taking = λ exact. (0, tt, uncounted words p) })

-- a call under way has taken fewer steps than its bound
pub takes_fewer : (l : Layout) (w : GlobalState) (tallies : List Tally) → AllTallied l w tallies → (p : ℕ) → IsExact (tally_at tallies p) → p < l.procs → IfSome (call_at (w.process_states p)) (λ call. (tally_at tallies p).steps < most_steps l call + (tally_at tallies p).blocked)
takes_fewer l w tallies all p exact below = of (call_at (w.process_states p)) refl
  where
    of : (o : Option Call) → call_at (w.process_states p) ≡ o → IfSome o (λ call. (tally_at tallies p).steps < most_steps l call + (tally_at tallies p).blocked)
    of None is = tt
    of (Some call) is =
        let taking = (all p below).taking exact in
        let less = fewer_at l (tally_at tallies p).began (omega arith) (w.process_states p) call taking.0 is taking.1 in
        let sum = taking.2 in
        omega arith
