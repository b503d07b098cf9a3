-- An execution without its data words is a run of the lock, with the same deeds.
use Rattle.std.proofs.Common.{◌≡◌, ℕ, ◌<◌, Bool, true, false, ◌&&◌, ◌==◌, nat_lt, length, List, [], ◌∷◌, Option, Some, None, IsSome, unwrap_or, refl, sym, ap, ◌∙◌, subst, inl, inr, ◌⊎◌, eqb-true}
use Rattle.rmeworld.proofs.Common.{cases_Bool, CoreCall, Kind, Gets, Puts, Outer, Own, Word, Data as DataAt, put, Place, next, Leaving, Inside, Dead, Event, Starts, Steps, process, place_after_event}
use Rattle.rmeworld.proofs.Common.{is_store, and_then, World, words_after_event, Run, deed, final, not_data, Layout, Reply, Ruined, Script, Get as Asks, Put as Writes, Done, script, consistent, Call, Lock}
use Rattle.rmeworld.proofs.Common.{Unlock, Consistent, Recover, Append, Close, Withdraw, Purpose, Ruining, Mending, Checking, core_of, HasStep, Can, is_entry, outer_by, ScriptState, Free, Doing, ProcessState, dead_process, WorldEvent, Begins, Falls}
use Rattle.rmeworld.proofs.Common.{Moves, Glances as Looks-at, who, process_after_script, script_state_entered, at_lock, inside_only, begun_from, moved_by, next_process_state, lock_deed, only_process_state, mended_entered, end_place}
use Rattle.rmeworld.proofs.Common.{reading, GlobalState, ReadsWord as GlobalState-Reads, Execution, state_after_event, last_global_state, words_after}
use Rattle.rmecore.specs.Place.{place_after_start}
use Rattle.rmecore.specs.World.{Reads, read, after, deeds}
use Rattle.rmecore.specs.declared.core_call.CoreCall.TheVariants as core
use Rattle.redomail.specs.declared.task.Task.TheVariants as task
use Rattle.rmeworld.specs.LockEvents.{begun_event, exit_event, moved_event, lock_event, event_then, lock_events}
use Rattle.rmeworld.specs.declared.call.Call.TheVariants.{Get, Put}

-- a process with a script is inside, and the script has a step left
abbrev pub Held : ScriptState → Place → Type 0
Held Free lock = Unit {0}
Held (Doing purpose left) lock = (lock ≡ Inside) × HasStep left

-- the deeds of the lock
abbrev pub outers : Layout → ℕ → GlobalState → List WorldEvent → List Outer
outers l limit w [] = []
outers l limit w (e ∷ es) = and_then (lock_deed (w.process_states (who e)) e) (outers l limit (state_after_event l limit w e) es)

abbrev pub AllHeld : GlobalState → Type 0
AllHeld w = (p : ℕ) → Held (w.process_states p).script_state (w.process_states p).lock

pub entry_inside : (s t : Place) → is_entry s t ≡ true → t ≡ Inside
entry_inside s Inside e = refl
entry_inside s _ e = absurd (cc)

held_at : (l : Layout) (p : ℕ) (s t : Place) → Held (script_state_entered l p s t) t
held_at l p s t = elim (cases_Bool (is_entry s t)) [ inl e ↦ rw e (entry_inside s t e, tt) | inr f ↦ rw f tt ]

-- the process state after an event of the lock
pub record AtLock (l : Layout) (p : ℕ) (s : Place) (b c : Bool) (o : Option Place) (s' : ProcessState) : Type 0 where
  pub place : Place
  pub some : o ≡ Some place
  pub process_state : record { lock = place; mended = mended_entered b s place; barred = c; script_state = script_state_entered l p s place } ≡ s'

pub at_lock_some : (l : Layout) (p : ℕ) (s : Place) (b c : Bool) (o : Option Place) (s' : ProcessState) → at_lock l p s b c o ≡ Some s' → AtLock l p s b c o s'
at_lock_some l p s b c None s' e = absurd (cc)
at_lock_some l p s b c (Some t) s' e = record { place = t; some = refl; process_state = cc }

pub only_some : (b : Bool) (t s' : ProcessState) → only_process_state b t ≡ Some s' → (b ≡ true) × (t ≡ s')
only_some true t s' e = (refl, cc)
only_some false t s' e = absurd (cc)

abbrev pub begun : Bool → Purpose → Script Reply → ProcessState
begun b purpose left = record { lock = Inside; mended = b; barred = false; script_state = Doing purpose left }

pub inside_some : (lock : Place) (b fits : Bool) (purpose : Purpose) (left : Script Reply) (s' : ProcessState) → inside_only lock b fits purpose left ≡ Some s' → (lock ≡ Inside) × (fits ≡ true) × (begun b purpose left ≡ s')
inside_some Inside b fits purpose left s' e = let r = only_some fits (begun b purpose left) s' e in (refl, r.0, r.1)
inside_some _ b fits purpose left s' e = absurd (cc)

end_places : (purpose : Purpose) (a : Reply) → (end_place purpose a ≡ Inside) ⊎ (end_place purpose a ≡ Leaving)
end_places Checking (Ruined true) = inr refl
end_places Ruining a = inr refl
end_places _ _ = inl refl

settled_place : (b c : Bool) (purpose : Purpose) (e : Script Reply) → Held (process_after_script b c purpose e).script_state (process_after_script b c purpose e).lock × (((process_after_script b c purpose e).lock ≡ Inside) ⊎ ((process_after_script b c purpose e).lock ≡ Leaving))
settled_place b c purpose (Asks i rest) = ((refl, tt), inl refl)
settled_place b c purpose (Writes i v rest) = ((refl, tt), inl refl)
settled_place b c purpose (Done a) = (tt, end_places purpose a)

-- the words of all, and the place of one process
pub record LockView : Type 0 where
  pub words : ℕ → Own
  pub place : Place

abbrev pub lock_view : (ℕ → Own) → Place → LockView
lock_view words place = record { words = words; place = place }

-- p's event in the lock's run: none, or one event
abbrev Tells : ℕ → ℕ → ℕ → LockView → LockView → Option Outer → Option Event → Type 0
Tells n limit p before now d None = (now.place ≡ before.place) × (now.words ≡ before.words) × (d ≡ None)
Tells n limit p before now d (Some x) = (process x ≡ p) × (place_after_event n limit before.place x ≡ Some now.place) × (words_after_event before.words x ≡ now.words) × Reads before.words x × (d ≡ deed before.place x)

module _ (l : Layout) (limit : ℕ) (w : GlobalState) (p : ℕ) where
  abbrev Meets : Place → ProcessState → (ℕ → Own) → Option Outer → Option Event → Type 0
  Meets lock s' words' d o = Tells l.procs limit p (lock_view w.words lock) (lock_view words' s'.lock) d o × Held s'.script_state s'.lock

  by_lock : (lock : Place) (b c : Bool) (o : Option Place) (s' : ProcessState) (words' : ℕ → Own) (d : Option Outer) (x : Event) → at_lock l p lock b c o ≡ Some s' → process x ≡ p → place_after_event l.procs limit lock x ≡ o → words_after_event w.words x ≡ words' → (IsSome o → Reads w.words x)
      → d ≡ deed lock x → Meets lock s' words' d (Some x)
  by_lock lock b c o s' words' d x e same is words reads deed_is =
      let r = at_lock_some l p lock b c o s' e in
      let place_is : r.place ≡ s'.lock = ap (λ (s : ProcessState). s.lock) r.process_state in
      ((same, is ∙ (r.some ∙ ap Some place_is), words, reads (rw r.some refl), deed_is), subst (λ (s : ProcessState). Held s.script_state s.lock) r.process_state (held_at l p lock r.place))

  by_nothing : (lock : Place) (s0 s' : ProcessState) → lock ≡ Inside → s0.lock ≡ Inside → Held s0.script_state s0.lock → s0 ≡ s' → Meets lock s' w.words None None
  by_nothing lock s0 s' here there held e =
      ((sym (ap (λ (s : ProcessState). s.lock) e) ∙ (there ∙ sym here), refl, refl), subst (λ (s : ProcessState). Held s.script_state s.lock) e held)

  by_script_state : (lock : Place) (b c : Bool) (purpose : Purpose) (e : Script Reply) (s' : ProcessState) → lock ≡ Inside → process_after_script b c purpose e ≡ s' → Meets lock s' w.words None (exit_event p s'.lock)
  by_script_state lock b c purpose e s' here is =
      let r = settled_place b c purpose e in
      let held = subst (λ (s : ProcessState). Held s.script_state s.lock) is r.0 in
      elim r.1 [
        | inl stays ↦
            let to : s'.lock ≡ Inside = sym (ap (λ (s : ProcessState). s.lock) is) ∙ stays in
            let none : exit_event p s'.lock ≡ None = ap (exit_event p) to in
            subst (λ o. Meets lock s' w.words None o) (sym none) (by_nothing lock (process_after_script b c purpose e) s' here stays r.0 is)
        | inr leaves ↦
            (let to : s'.lock ≡ Leaving = sym (ap (λ (s : ProcessState). s.lock) is) ∙ leaves in
            let some : exit_event p s'.lock ≡ Some (Starts p core.Unlock) = ap (exit_event p) to in
            subst (λ o. Meets lock s' w.words None o) (sym some) ((refl, rw (here, to) refl, refl, tt, refl), held))
      ]

  -- a script that begins inside
  by_script : (lock : Place) (b fits : Bool) (purpose : Purpose) (left : Script Reply) (s' : ProcessState) → HasStep left → inside_only lock b fits purpose left ≡ Some s' → Meets lock s' w.words None None
  by_script lock b fits purpose left s' step e = let r = inside_some lock b fits purpose left s' e in by_nothing lock (begun b purpose left) s' r.0 refl (refl, step) r.2

  -- a start of the lock's part
  by_start : (lock : Place) (b : Bool) (call : CoreCall) (s' : ProcessState) → at_lock l p lock b false (place_after_start lock call) ≡ Some s' → Meets lock s' w.words None (Some (Starts p call))
  by_start lock b call s' e = by_lock lock b false (place_after_start lock call) s' w.words None (Starts p call) e refl refl refl (λ _. tt) refl

  begins : (lock : Place) (b : Bool) (script_state : ScriptState) (call : Call) (s' : ProcessState) → begun_from l p lock b script_state call ≡ Some s' → Meets lock s' w.words None (begun_event p b call)
  begins lock b Free Lock s' e = by_start lock b core.Lock s' e
  begins lock b Free Recover s' e = by_start lock b core.Recover s' e
  begins lock b Free Withdraw s' e = by_start lock b core.Withdraw s' e
  begins lock true Free Unlock s' e = by_start lock true core.Unlock s' e
  begins lock false Free Unlock s' e = by_script lock false true Ruining (script l p task.Ruin) s' tt e
  begins lock false Free Consistent s' e = by_script lock false true Mending (consistent l p) s' tt e
  begins lock b Free (Append seq value) s' e = by_script lock b (b && (length value == l.width)) _ _ s' tt e
  begins lock b Free Close s' e = by_script lock b b _ _ s' tt e
  begins lock b Free (Get i) s' e = by_script lock b (nat_lt i 4) _ _ s' tt e
  begins lock b Free (Put i v) s' e = by_script lock b (nat_lt i 4) _ _ s' tt e
  begins lock b _ _ s' e = absurd (cc)

  -- a read of a lock word
  shows : (s : Place) (kind : Kind) (word : Word) (v : ℕ) → IsSome (next l.procs limit p s kind word v) → reading w word ≡ v → read w.words word ≡ v
  shows s kind (DataAt i) v some e = absurd (not_data l.procs limit p s kind i v some)
  shows s kind _ v some e = e

  moves : (lock : Place) (b c : Bool) (script_state : ScriptState) (kind : Kind) (word : Word) (v : ℕ) (s' : ProcessState) → moved_by l limit p lock b c script_state kind word v ≡ Some s' → Held script_state lock
      → (is_store kind ≡ false → reading w word ≡ v) → Meets lock s' (words_after w.words (Moves p kind word v)) (outer_by p lock script_state kind v) (moved_event p script_state kind word v s'.lock)
  moves lock b c Free kind word v s' e held reports =
      by_lock lock b c (next l.procs limit p lock kind word v) s' _ _ (Steps p kind word v) e refl refl refl (λ some. λ load. shows lock kind word v some (reports load)) refl
  moves lock b c (Doing purpose (Asks j rest)) Gets (DataAt i) v s' e held reports = by_script_state lock b c purpose (rest v) s' held.0 (only_some _ _ s' e).1
  moves lock b c (Doing purpose (Writes j x rest)) Puts (DataAt i) v s' e held reports = by_script_state lock b c purpose rest s' held.0 (only_some _ _ s' e).1
  moves lock b c _ _ _ v s' e held reports = absurd (cc)

module _ (l : Layout) (limit : ℕ) where
  abbrev n : ℕ
  n = l.procs

  tells : (w : GlobalState) (e : WorldEvent) (s' : ProcessState) → next_process_state l limit (w.process_states (who e)) e ≡ Some s' → Held (w.process_states (who e)).script_state (w.process_states (who e)).lock → GlobalState-Reads w e
      → Meets l limit w (who e) (w.process_states (who e)).lock s' (words_after w.words e) (lock_deed (w.process_states (who e)) e) (lock_event l limit (w.process_states (who e)) e)
  tells w (Begins p call) s' e held reads = let s = w.process_states p in begins l limit w p s.lock s.mended s.script_state call s' e
  tells w (Falls p) s' e held reads =
      let is : dead_process ≡ s' = cc in
      let place : Dead ≡ s'.lock = ap (λ (s : ProcessState). s.lock) is in
      ((refl, ap Some place, refl, tt, refl), subst (λ (s : ProcessState). Held s.script_state s.lock) is tt)
  tells w (Moves p kind word v) s' e held reads =
      let s = w.process_states p in
      let after : (unwrap_or (next_process_state l limit s (Moves p kind word v)) s).lock ≡ s'.lock = ap (λ o. (unwrap_or o s).lock) e in
      subst (λ x. Meets l limit w p s.lock s' (words_after w.words (Moves p kind word v)) (lock_deed s (Moves p kind word v)) (moved_event p s.script_state kind word v x)) (sym after)
      (moves l limit w p s.lock s.mended s.barred s.script_state kind word v s' e held reads)
  tells w (Looks-at p word v) s' e held reads =
      let is : w.process_states p ≡ s' = cc in
      subst (λ (s : ProcessState). Meets l limit w p (w.process_states p).lock s w.words None None) is ((refl, refl, refl), held)

  pub some_of : (o : Option ProcessState) (d : ProcessState) → IsSome o → (s' : ProcessState) × (o ≡ Some s') × (unwrap_or o d ≡ s')
  some_of None d some = absurd (cc)
  some_of (Some s) d some = (s, refl, refl)

  locks_put : (process_states : ℕ → ProcessState) (p : ℕ) (s : ProcessState) (q : ℕ) → (put process_states p s q).lock ≡ put (λ r. (process_states r).lock) p s.lock q
  locks_put process_states p s q = elim (cases_Bool (q == p)) [ inl e ↦ rw e | inr e ↦ rw e ]

  put_back : (f : ℕ → Place) (p : ℕ) (x : Place) → x ≡ f p → (q : ℕ) → put f p x q ≡ f q
  put_back f p x h q = elim (cases_Bool (q == p)) [ inl e ↦ rw e (h ∙ ap f (sym (eqb-true q p e))) | inr e ↦ rw e ]

  held_put : (process_states : ℕ → ProcessState) (p : ℕ) (s : ProcessState) → ((q : ℕ) → Held (process_states q).script_state (process_states q).lock) → Held s.script_state s.lock → (q : ℕ) → Held (put process_states p s q).script_state (put process_states p s q).lock
  held_put process_states p s h here q = elim (cases_Bool (q == p)) [ inl e ↦ rw e here | inr e ↦ rw e (h q) ]

  -- a run of the lock from w to a world, of these events, with these deeds
  pub record Projected (w : World) (names : List Event) (ds : List Outer) (end : World) : Type 0 where
    pub events : List Event
    pub named : events ≡ names
    pub run : Run n limit w events
    pub same : deeds n limit w events ≡ ds
    pub ends : final n limit w events ≡ end

  go : (w : GlobalState) (p : ℕ) (s' : ProcessState) (words' : ℕ → Own) (d : Option Outer) (o : Option Event) (names : List Event) (ds : List Outer) (end : World) → p < n → Tells n limit p (lock_view w.words (w.process_states p).lock) (lock_view words' s'.lock) d o
      → Projected (record { words = words'; places = λ q. (put w.process_states p s' q).lock }) names ds end → Projected (core_of w) (event_then o names) (and_then d ds) end
  go w p s' words' d None names ds end below t rest =
      let same : record { words = words'; places = λ q. (put w.process_states p s' q).lock } ≡ core_of w =
      λ i. record { words = t.1 i; places = λ q. (locks_put w.process_states p s' q ∙ put_back (λ r. (w.process_states r).lock) p s'.lock t.0 q) i } in
      rw t.2 (subst (λ u. Projected u names ds end) same rest)
  go w p s' words' d (Some x) names ds end below t rest =
      let f : ℕ → Place = λ r. (w.process_states r).lock in
      let there : put f p s'.lock ≡ put f (process x) (unwrap_or (place_after_event n limit (f (process x)) x) (f (process x))) =
      subst (λ r. put f p s'.lock ≡ put f r (unwrap_or (place_after_event n limit (f r) x) (f r))) (sym t.0) (rw t.1 refl) in
      let to : record { words = words'; places = λ q. (put w.process_states p s' q).lock } ≡ after n limit (core_of w) x =
      λ i. record { words = (sym t.2) i; places = λ q. (locks_put w.process_states p s' q ∙ ap (λ g. g q) there) i } in
      let on = subst (λ u. Projected u names ds end) to rest in
      record {
        events = x ∷ on.events;
        named = ap (λ l. x ∷ l) on.named;
        run = ((rw t.0 below, rw (t.0, t.1) refl, t.3), on.run);
        same =
            ap (λ r. and_then (deed (f r) x) (deeds n limit (after n limit (core_of w) x) on.events)) t.0
            ∙ ap (λ o. and_then o (deeds n limit (after n limit (core_of w) x) on.events)) (sym t.4) ∙ ap (and_then d) on.same;
        ends = on.ends;
      }

  held_after : (w : GlobalState) (e : WorldEvent) → Can l limit w e → AllHeld w → AllHeld (state_after_event l limit w e)
  held_after w e can held =
      let s = some_of (next_process_state l limit (w.process_states (who e)) e) (w.process_states (who e)) can.1 in
      let t = tells w e s.0 s.1 (held (who e)) can.2 in
      subst (λ r. (q : ℕ) → Held (put w.process_states (who e) r q).script_state (put w.process_states (who e) r q).lock) (sym s.2) (held_put w.process_states (who e) s.0 held t.1)

  pub all_held : (w : GlobalState) (es : List WorldEvent) → AllHeld w → Execution l limit w es → AllHeld (last_global_state l limit w es)
  all_held w [] held execution = held
  all_held w (e ∷ es) held execution = all_held (state_after_event l limit w e) es (held_after w e execution.0 held) execution.1

  pub projected : (w : GlobalState) (es : List WorldEvent) → AllHeld w → Execution l limit w es → Projected (core_of w) (lock_events l limit w es) (outers l limit w es) (core_of (last_global_state l limit w es))
  projected w [] held execution = record { events = []; named = refl; run = tt; same = refl; ends = refl }
  projected w (e ∷ es) held execution =
      let s = some_of (next_process_state l limit (w.process_states (who e)) e) (w.process_states (who e)) execution.0.1 in
      let t = tells w e s.0 s.1 (held (who e)) execution.0.2 in
      let rest = projected (state_after_event l limit w e) es (held_after w e execution.0 held) execution.1 in
      go w (who e) s.0 (words_after w.words e) (lock_deed (w.process_states (who e)) e) (lock_event l limit (w.process_states (who e)) e) (lock_events l limit (state_after_event l limit w e) es) _ (core_of (last_global_state l limit (state_after_event l limit w e) es)) execution.0.0 t.0
      (subst (λ r. Projected (record { words = words_after w.words e; places = λ q. (put w.process_states (who e) r q).lock }) (lock_events l limit (state_after_event l limit w e) es) (outers l limit (state_after_event l limit w e) es) (core_of (last_global_state l limit (state_after_event l limit w e) es))) s.2 rest)
