-- Every deed of the mailbox belongs to the start of a call. The rest of each process's script does only the deeds that this
-- start grants. Steps of other processes don't change that, since no other process puts a data word meanwhile.
use Rattle.std.proofs.Common.{◌≡◌, ◌≢◌, ℕ, ◌<◌, Bool, true, false, ◌&&◌, ◌==◌, nat_lt, length, List, [], ◌∷◌, ◌++◌, Option, Some, None, All, Contains, refl, sym, ap, ◌∙◌, subst, inl, inr, ◌⊎◌, arith, eqb-true, append_assoc, lt-ltb}
use Rattle.rmeworld.proofs.Common.{cases_Bool, cases_eq, and_parts, All-nil, All-cons, All-append, Contains-append_right, Kind, Gets, Puts, Outer, Phase, Within, Word, Data as DataAt, Abstract, Legal}
use Rattle.rmeworld.proofs.Common.{nobody, put, Place, next, IsInSection, is_store, put_same, put_other, after_deed as done_by, Deed, Layout, Reply, deeds_of_put, Words, IsLayout, size, Mailbox, Script}
use Rattle.rmeworld.proofs.Common.{Get as Asks, Put as Writes, Done, script, consistent, empty_state, Call, Lock, Unlock, Consistent, Recover, Append, Close, Withdraw, Purpose, Ruining, Mending, Working}
use Rattle.rmeworld.proofs.Common.{is_entry, puts_data, IsAsked, EveryDeedWasAsked, ScriptState, Free, Doing, ProcessState, dead_process, WorldEvent, Begins, Falls, Moves, Glances, who, process_after_script, script_state_entered, at_lock}
use Rattle.rmeworld.proofs.Common.{inside_only, begun_from, moved_by, next_process_state, lock_deed, reading, event_deeds, GlobalState, at_first, ReadsWord, put_cell, cells_after, Execution, state_after_event, last_global_state, outer_deeds}
use Rattle.rmeworld.proofs.Common.{mail_deeds, deeds}
use Rattle.rmecore.specs.Place.{place_after_start}
use Rattle.rmecore.specs.declared.core_call.CoreCall.TheVariants as core
use Rattle.redomail.specs.declared.deed.Deed.TheVariants as deed
use Rattle.redomail.specs.declared.task.Task.TheVariants as task
use Rattle.rmeworld.specs.declared.call.Call.TheVariants.{Get, Put}
use Rattle.rmeworld.proofs.Holders.{At, one, putter_in, execution_comes}
use Rattle.rmeworld.proofs.Knowing.{mail_store, Post, PostAt}
use Rattle.rmeworld.proofs.Projection.{outers, at_lock_some, only_some, inside_some, some_of}
use Rattle.rmeworld.proofs.Reaching.{origin}
use Rattle.rmeworld.proofs.Sends.{Sends, append_sends, close_sends, ruin_sends, board_sends, consistent_sends}
use Rattle.rmeworld.proofs.Executions.{if_same, deeds_none, head}
use Rattle.rmeworld.proofs.ExecutionGrows.{last_more}

-- only a put of a data word changes the data words
cells_kept : (l : Layout) (cells : Words) (e : WorldEvent) → puts_data e ≡ false → cells_after l cells e ≡ cells
cells_kept l cells (Moves p kind (DataAt i) v) f = rw f refl
cells_kept l cells (Moves p kind _ v) f = if_same (is_store kind) cells
cells_kept l cells _ f = refl

module _ (l : Layout) (limit : ℕ) (layout : IsLayout l) (D : Deed → Type 0) (shows : (p at seq : ℕ) (v : List ℕ) → D (deed.Show p at seq v)) (locks : (o : Outer) → D (deed.Outer o)) where
  -- each deed of the rest of p's script has D
  abbrev pub Carries : ℕ → Words → ScriptState → Type 0
  Carries p w Free = Unit {0}
  Carries p w (Doing purpose left) = Sends l p D left w

  -- what the start of a call grants, for a holder that is mended or not
  abbrev pub Grants : ℕ → Bool → Call → Type 0
  Grants p b (Append seq value) = D (deed.Commit p seq value)
  Grants p b Close = D (deed.Close p)
  Grants p b Unlock = b ≡ false → D (deed.Ruin p)
  Grants p b _ = Unit {0}

  abbrev pub Starts : GlobalState → WorldEvent → Type 0
  Starts w (Begins p call) = Grants p (w.process_states p).mended call
  Starts w _ = Unit {0}

  abbrev pub AllStart : GlobalState → List WorldEvent → Type 0
  AllStart w [] = Unit {0}
  AllStart w (e ∷ es) = Starts w e × AllStart (state_after_event l limit w e) es

  settled_carries : (p : ℕ) (b c : Bool) (purpose : Purpose) (e : Script Reply) (w : Words) → Sends l p D e w → Carries p w (process_after_script b c purpose e).script_state
  settled_carries p b c purpose (Asks i rest) w h = h
  settled_carries p b c purpose (Writes i v rest) w h = h
  settled_carries p b c purpose (Done a) w h = tt

  entered : (p : ℕ) (s t : Place) (w : Words) → Carries p w (script_state_entered l p s t)
  entered p s t w = elim (cases_Bool (is_entry s t)) [ inl e ↦ rw e tt | inr f ↦ rw f tt ]

  by_lock : (p : ℕ) (s : Place) (b c : Bool) (o : Option Place) (s' : ProcessState) (w : Words) → at_lock l p s b c o ≡ Some s' → Carries p w s'.script_state
  by_lock p s b c o s' w e = let r = at_lock_some l p s b c o s' e in subst (λ (x : ProcessState). Carries p w x.script_state) r.process_state (entered p s r.place w)

  by_script : (p : ℕ) (lock : Place) (b fits : Bool) (purpose : Purpose) (left : Script Reply) (s' : ProcessState) (w : Words) → inside_only lock b fits purpose left ≡ Some s' → (fits ≡ true → Sends l p D left w) → Carries p w s'.script_state
  by_script p lock b fits purpose left s' w e h = let r = inside_some lock b fits purpose left s' e in subst (λ (x : ProcessState). Carries p w x.script_state) r.2 (h r.1)

  begins : (p : ℕ) (lock : Place) (b : Bool) (script_state : ScriptState) (call : Call) (s' : ProcessState) (w : Words) → begun_from l p lock b script_state call ≡ Some s' → Grants p b call → Carries p w s'.script_state
  begins p lock b Free Lock s' w e g = by_lock p lock b false (place_after_start lock core.Lock) s' w e
  begins p lock b Free Recover s' w e g = by_lock p lock b false (place_after_start lock core.Recover) s' w e
  begins p lock b Free Withdraw s' w e g = by_lock p lock b false (place_after_start lock core.Withdraw) s' w e
  begins p lock true Free Unlock s' w e g = by_lock p lock true false (place_after_start lock core.Unlock) s' w e
  begins p lock false Free Unlock s' w e g = by_script p lock false true Ruining (script l p task.Ruin) s' w e (λ _. ruin_sends l p D (shows p) w (g refl))
  begins p lock false Free Consistent s' w e g = by_script p lock false true Mending (consistent l p) s' w e (λ _. consistent_sends l p D (shows p) w)
  begins p lock b Free (Append seq value) s' w e g =
      by_script p lock b (b && (length value == l.width)) (Working (task.Append seq value)) (script l p (task.Append seq value)) s' w e
      (λ f. append_sends l p D (shows p) seq value w layout (eqb-true (length value) l.width (and_parts b (length value == l.width) f).1) g)
  begins p lock b Free Close s' w e g = by_script p lock b b (Working task.Close) (script l p task.Close) s' w e (λ _. close_sends l p D (shows p) w g)
  begins p lock b Free (Get i) s' w e g = by_script p lock b (nat_lt i 4) (Working (task.BoardGet i)) (script l p (task.BoardGet i)) s' w e (λ _. tt)
  begins p lock b Free (Put i v) s' w e g = by_script p lock b (nat_lt i 4) (Working (task.BoardPut i v)) (script l p (task.BoardPut i v)) s' w e (λ _. board_sends l p D (shows p) i v w)
  begins p lock b _ _ s' w e g = absurd (cc)

  -- one event: its deeds of the mailbox, and what its process keeps
  abbrev Steps : GlobalState → WorldEvent → ProcessState → Type 0
  Steps w e s' = All D (mail_deeds l w.cells e) × Carries (who e) (cells_after l w.cells e) s'.script_state

  moves : (w : GlobalState) (ph : Phase) (m : Mailbox) (p : ℕ) (lock : Place) (b c : Bool) (script_state : ScriptState) (kind : Kind) (word : Word) (v : ℕ) (s' : ProcessState) → moved_by l limit p lock b c script_state kind word v ≡ Some s'
      → (is_store kind ≡ false → reading w word ≡ v) → Post l p ph (mail_store w.cells m) b script_state lock → Carries p w.cells script_state → Steps w (Moves p kind word v) s'
  moves w ph m p lock b c Free kind word v s' e reads post h =
      let r = at_lock_some l p lock b c (next l.procs limit p lock kind word v) s' e in (
        subst (All D) (sym (deeds_none l l.procs limit p lock r.place kind word v w.cells r.some)) (All-nil D),
        by_lock p lock b c (next l.procs limit p lock kind word v) s' (cells_after l w.cells (Moves p kind word v)) e,
      )
  moves w ph m p lock b c (Doing purpose (Asks j rest)) Gets (DataAt i) v s' e reads post h =
      let r = only_some (i == j) (process_after_script b c purpose (rest v)) s' e in
      let read : w.cells j ≡ v = ap w.cells (sym (eqb-true i j r.0)) ∙ reads refl in
      let now : Sends l p D (rest v) w.cells = subst (λ x. Sends l p D (rest x) w.cells) read h in
      (All-nil D, subst (λ (x : ProcessState). Carries p w.cells x.script_state) r.1 (settled_carries p b c purpose (rest v) w.cells now))
  moves w ph m p lock b c (Doing purpose (Writes j x rest)) Puts (DataAt i) v s' e reads post h =
      let r = only_some ((i == j) && (v == x)) (process_after_script b c purpose rest) s' e in
      let both = and_parts (i == j) (v == x) r.0 in
      let at : i ≡ j = eqb-true i j both.0 in
      let value : v ≡ x = eqb-true v x both.1 in
      let within : put_cell l w.cells (DataAt j) x ≡ put w.cells j x = rw (lt-ltb j (size l) post.2.safe.1) refl in
      let P : ℕ → ℕ → Type 0 = λ i' v'. All D (deeds_of_put l p w.cells i' v') × Carries p (put_cell l w.cells (DataAt i') v') s'.script_state in
      let now : Carries p (put w.cells j x) s'.script_state = subst (λ (y : ProcessState). Carries p (put w.cells j x) y.script_state) r.1 (settled_carries p b c purpose rest (put w.cells j x) h.1) in
      let there : P j x = (h.0, subst (λ u. Carries p u s'.script_state) (sym within) now) in
      subst (λ i'. P i' v) (sym at) (subst (P j) (sym value) there)
  moves w ph m p lock b c _ _ _ v s' e reads post h = absurd (cc)

  steps : (w : GlobalState) (ph : Phase) (m : Mailbox) (e : WorldEvent) (s' : ProcessState) → next_process_state l limit (w.process_states (who e)) e ≡ Some s' → ReadsWord w e → PostAt l (who e) ph w.cells m (w.process_states (who e)) → Starts w e → Carries (who e) w.cells (w.process_states (who e)).script_state
      → Steps w e s'
  steps w ph m (Begins p call) s' e reads post g h = let x = w.process_states p in (All-nil D, begins p x.lock x.mended x.script_state call s' w.cells e g)
  steps w ph m (Falls p) s' e reads post g h = let is : dead_process ≡ s' = cc in (All-nil D, subst (λ (x : ProcessState). Carries p w.cells x.script_state) is tt)
  steps w ph m (Moves p kind word v) s' e reads post g h = let x = w.process_states p in moves w ph m p x.lock x.mended x.barred x.script_state kind word v s' e reads post h
  steps w ph m (Glances p word v) s' e reads post g h = let is : w.process_states p ≡ s' = cc in (All-nil D, subst (λ (x : ProcessState). Carries p w.cells x.script_state) is h)

  -- no other process puts a data word while a process has a job
  stays : (w : GlobalState) (a : Abstract) (at : At l limit layout w a) (e : WorldEvent) (q : ℕ) → who e < l.procs → q < l.procs → q ≢ who e → (puts_data e ≡ true → a.phase (who e) ≡ Within)
      → (x : ProcessState) → PostAt l q (a.phase q) w.cells at.mail x → Carries q w.cells x.script_state → Carries q (cells_after l w.cells e) x.script_state
  stays w a at e q below lt ne puts x post h = by x.script_state post h (cases_Bool (puts_data e))
    where
      by : (script_state : ScriptState) → Post l q (a.phase q) (mail_store w.cells at.mail) x.mended script_state x.lock → Carries q w.cells script_state → (puts_data e ≡ true) ⊎ (puts_data e ≡ false) → Carries q (cells_after l w.cells e) script_state
      by Free k c d = tt
      by (Doing purpose left) k c (inl p) = absurd (ne (at.kept.sole q (who e) lt below (subst IsInSection (sym k.1) tt) (subst IsInSection (sym (puts p)) tt)))
      by (Doing purpose left) k c (inr f) = subst (λ u. Sends l q D left u) (sym (cells_kept l w.cells e f)) c

  abbrev pub AllCarry : GlobalState → Type 0
  AllCarry w = (q : ℕ) → q < l.procs → Carries q w.cells (w.process_states q).script_state

  outer_has : (o : Option Outer) → All D (outer_deeds o)
  outer_has None = All-nil D
  outer_has (Some d) = All-cons D (deed.Outer d) [] (locks d) (All-nil D)

  pub all_have : (w : GlobalState) (a : Abstract) (es : List WorldEvent) → At l limit layout w a → AllCarry w → Execution l limit w es → Legal l.procs a (outers l limit w es) → AllStart w es → All D (deeds l limit w es)
  all_have w a [] at carry execution legal start = All-nil D
  all_have w a (e ∷ es) at carry execution legal start =
      let o : Option Outer = lock_deed (w.process_states (who e)) e in
      let below = execution.0.0 in
      let x = some_of l limit (next_process_state l limit (w.process_states (who e)) e) (w.process_states (who e)) execution.0.1 in
      let post = at.posts (who e) below in
      let s = steps w (a.phase (who e)) at.mail e x.0 x.1 execution.0.2 post start.0 (carry (who e) below) in
      let cells : Words = cells_after l w.cells e in
      let more : (q : ℕ) → q < l.procs → Carries q cells (put w.process_states (who e) x.0 q).script_state = λ q lt. elim (cases_eq q (who e)) [
        | inl same ↦ subst (λ r. Carries r cells (put w.process_states (who e) x.0 r).script_state) (sym same) (subst (λ (y : ProcessState). Carries (who e) cells y.script_state) (sym (put_same w.process_states (who e) x.0)) s.1)
        | inr ne ↦ subst (λ (y : ProcessState). Carries q cells y.script_state) (sym (put_other w.process_states (who e) x.0 q ne)) (stays w a at e q below lt ne (λ puts. putter_in l limit w a at.mail e execution.0.1 post puts) (w.process_states q) (at.posts q lt) (carry q lt))
      ] in
      let next_carry : AllCarry (state_after_event l limit w e) = subst (λ z. (q : ℕ) → q < l.procs → Carries q cells (put w.process_states (who e) z q).script_state) (sym x.2) more in
      let r = head l limit layout a o (outers l limit (state_after_event l limit w e) es) legal in
      All-append D (event_deeds l w e) (deeds l limit (state_after_event l limit w e) es) (All-append D (outer_deeds o) (mail_deeds l w.cells e) (outer_has o) s.0)
      (all_have (state_after_event l limit w e) (done_by a o) es (one l limit layout w a e es at execution legal).0 next_carry execution.1 r.1 start.1)

module _ (l : Layout) (limit : ℕ) (layout : IsLayout l) (execution : List WorldEvent) where
  abbrev Asked : Deed → Type 0
  Asked = IsAsked l limit execution

  shown_freely : (p at seq : ℕ) (v : List ℕ) → Asked (deed.Show p at seq v)
  shown_freely p at seq v = tt

  locked_freely : (o : Outer) → Asked (deed.Outer o)
  locked_freely o = tt

  stands : (front : List WorldEvent) (e : WorldEvent) (es : List WorldEvent) → execution ≡ front ++ e ∷ es → Contains execution e
  stands front e es is = subst (λ xs. Contains xs e) (sym is) (Contains-append_right front (e ∷ es) e (0, omega arith, refl))

  -- each start of the execution grants the deeds of its call
  starts : (front : List WorldEvent) (e : WorldEvent) (es : List WorldEvent) → execution ≡ front ++ e ∷ es → Starts l limit layout Asked shown_freely locked_freely (last_global_state l limit at_first front) e
  starts front (Begins p (Append seq value)) es is = stands front (Begins p (Append seq value)) es is
  starts front (Begins p Close) es is = stands front (Begins p Close) es is
  starts front (Begins p Unlock) es is = λ unmended. record { front = front; back = es; split = is; unmended = unmended }
  starts front _ es is = tt

  all_start : (front es : List WorldEvent) → execution ≡ front ++ es → AllStart l limit layout Asked shown_freely locked_freely (last_global_state l limit at_first front) es
  all_start front [] is = tt
  all_start front (e ∷ es) is =
      let rest = all_start (front ++ e ∷ []) es (is ∙ sym (append_assoc front (e ∷ []) es)) in
      (starts front e es is, subst (λ w. AllStart l limit layout Asked shown_freely locked_freely w es) (last_more l limit at_first front e) rest)

  deeds_asked : Execution l limit at_first execution → All Asked (deeds l limit at_first execution)
  deeds_asked reports =
      let o = origin l limit at_first (empty_state l.procs l.cap) layout (inl (refl, refl)) in
      let legal = (execution_comes l limit execution layout reports).0 in
      all_have l limit layout Asked shown_freely locked_freely at_first nobody execution (record { mail = (empty_state l.procs l.cap).mail; kept = o.kept; posts = o.posts }) (λ q lt. tt) reports legal (all_start [] execution refl)

pub every_deed_was_asked : EveryDeedWasAsked
every_deed_was_asked l limit execution layout reports = deeds_asked l limit layout execution reports
