-- Every event keeps the invariant, so every execution is sound.
use Rattle.std.proofs.Common.{◌≡◌, ℕ, zero, suc, nat_lt, ◌<◌, Bool, true, false, ◌&&◌, ◌==◌, if◌then◌else◌, List, [], ◌∷◌, Option, Some, None, IsSome, refl, sym, ap, ◌∙◌, subst, inl, inr, ◌⊎◌, arith, eqb-true, ltb-true, lt-ltb}
use Rattle.rmeworld.proofs.Common.{cases_Bool, cases_eq, and_parts, Kind, Gets, Puts, Outer, Crash, Own, Word, Data as DataAt, Abstract, Legal, nobody, dead_phase, start_of, put, Place, next}
use Rattle.rmeworld.proofs.Common.{is_before, IsInSection, is_store, step_deed, and_then, put_same, put_other, after_deed as done_by, sole_nobody, not_data, Layout, deeds_of_put, NewWords, Words, IsLayout}
use Rattle.rmeworld.proofs.Common.{size, Mailbox, nothing_shown, Get, Put, Leads, State, judged_all-append, Sits, IsLater, ScriptStateTells, Sound, outer_by, ScriptState, Free, Doing, ProcessState, dead_process, WorldEvent}
use Rattle.rmeworld.proofs.Common.{Begins, Falls, Moves, Glances, who, process_after_script, moved_by, next_process_state, lock_deed, reading, event_deeds, GlobalState, at_first, ReadsWord as GlobalState-Reads, put_cell, cells_after, Execution}
use Rattle.rmeworld.proofs.Common.{state_after_event, mail_deeds, deeds}
use Rattle.rmeworld.specs.Law.{EventEndsAppend}
use Rattle.rmeworld.proofs.Projection.{at_lock_some, only_some, some_of, outers}
use Rattle.rmeworld.proofs.Knowing.{mail_store, Post, PostAt}
use Rattle.rmeworld.proofs.WorldEvents.{AllowsBy, judge_of, Kept, Outcome, abstract_world, nothing, begins, falls, gets, puts, locks}

some_by : (o : Option Place) (t : Place) → o ≡ Some t → IsSome o
some_by o t e = rw e refl

pub if_same : {A : Type 0} (b : Bool) (x : A) → (if b then x else x) ≡ x
if_same true x = refl
if_same false x = refl

-- a word of the lock is no data word
cells_same : (l : Layout) (n limit p : ℕ) (s t : Place) (kind : Kind) (word : Word) (v : ℕ) (cells : Words) → next n limit p s kind word v ≡ Some t → cells_after l cells (Moves p kind word v) ≡ cells
cells_same l n limit p s t kind (DataAt i) v cells e = absurd (not_data n limit p s kind i v (some_by _ t e))
cells_same l n limit p s t kind _ v cells e = if_same (is_store kind) cells

pub deeds_none : (l : Layout) (n limit p : ℕ) (s t : Place) (kind : Kind) (word : Word) (v : ℕ) (cells : Words) → next n limit p s kind word v ≡ Some t → mail_deeds l cells (Moves p kind word v) ≡ []
deeds_none l n limit p s t kind (DataAt i) v cells e = absurd (not_data n limit p s kind i v (some_by _ t e))
deeds_none l n limit p s t kind _ v cells e = if_same (is_store kind) []

pub before_is : (x p y q : ℕ) → is_before x p y q ≡ true → (x < y) ⊎ ((x ≡ y) × (p < q))
before_is x p y q e =
    elim (cases_Bool (nat_lt x y)) [
      | inl t ↦ inl (ltb-true x y t)
      | inr f ↦ (let g : ((x == y) && nat_lt p q) ≡ true = rw f at e in let both = and_parts (x == y) (nat_lt p q) g in inr (eqb-true x y both.0, ltb-true p q both.1))
    ]

-- a process that crashed inside had a number and a mark
pub in_numbers : (c x i : ℕ) → IsInSection (dead_phase c x i) → (0 < x) × (0 < i)
in_numbers c (suc x) (suc i) h = (omega arith, omega arith)
in_numbers zero _ _ h = absurd h
in_numbers _ _ _ h = absurd h

module _ (l : Layout) (limit : ℕ) (layout : IsLayout l) where
  -- the state after one event, and the meaning of its answer
  abbrev pub Left : GlobalState → Abstract → Mailbox → WorldEvent → ProcessState → Type 0
  Left w a m e s' =
      (o : Outcome l (abstract_world a w.cells m) (who e) (lock_deed (w.process_states (who e)) e) (mail_deeds l w.cells e) (cells_after l w.cells e) s') × EventEndsAppend w e o.mail.shown

  -- the same for a process at this place with this job
  abbrev Stepped : GlobalState → Abstract → Mailbox → ℕ → Place → ScriptState → Kind → Word → ℕ → ProcessState → Type 0
  Stepped w a m p lock script_state kind word v s' =
      (o : Outcome l (abstract_world a w.cells m) p (outer_by p lock script_state kind v) (mail_deeds l w.cells (Moves p kind word v)) (cells_after l w.cells (Moves p kind word v)) s') × ScriptStateTells p script_state v o.mail.shown

  moves : (w : GlobalState) (a : Abstract) (m : Mailbox) (p : ℕ) → p < l.procs → Kept l a w.cells m → (lock : Place) (b c : Bool) (script_state : ScriptState) (kind : Kind) (word : Word) (v : ℕ) (s' : ProcessState)
      → moved_by l limit p lock b c script_state kind word v ≡ Some s' → (is_store kind ≡ false → reading w word ≡ v) → AllowsBy l.procs a (outer_by p lock script_state kind v) → Post l p (a.phase p) (mail_store w.cells m) b script_state lock
      → Stepped w a m p lock script_state kind word v s'
  moves w a m p below k lock b c Free kind word v s' e reads may h =
      let r = at_lock_some l p lock b c (next l.procs limit p lock kind word v) s' e in
      let o = locks l a w.cells m p layout below k limit lock b c kind word v s' e may h in
      let same = cells_same l l.procs limit p lock r.place kind word v w.cells r.some in
      let none = deeds_none l l.procs limit p lock r.place kind word v w.cells r.some in (
        subst (λ ds. Outcome l (abstract_world a w.cells m) p (step_deed p lock kind v) ds (cells_after l w.cells (Moves p kind word v)) s') (sym none)
            (subst (λ u. Outcome l (abstract_world a w.cells m) p (step_deed p lock kind v) [] u s') (sym same) o),
        tt,
      )
  moves w a m p below k lock b c (Doing purpose (Get j rest)) Gets (DataAt i) v s' e reads may h =
      let r = only_some (i == j) (process_after_script b c purpose (rest v)) s' e in
      let at : i ≡ j = eqb-true i j r.0 in
      let read : w.cells j ≡ v = ap w.cells (sym at) ∙ reads refl in
      gets l a w.cells m p layout below k b c purpose j rest v s' r.1 read h.1 h.2
  moves w a m p below k lock b c (Doing purpose (Put j x rest)) Puts (DataAt i) v s' e reads may h =
      let r = only_some ((i == j) && (v == x)) (process_after_script b c purpose rest) s' e in
      let both = and_parts (i == j) (v == x) r.0 in
      let at : i ≡ j = eqb-true i j both.0 in
      let value : v ≡ x = eqb-true v x both.1 in
      let P : ℕ → ℕ → Words → Type 0 = λ i' v' u. (o : Outcome l (abstract_world a w.cells m) p None (deeds_of_put l p w.cells i' v') u s') × ScriptStateTells p (Doing purpose (Put j x rest)) v' o.mail.shown in
      let within : put_cell l w.cells (DataAt j) x ≡ put w.cells j x = rw (lt-ltb j (size l) h.2.safe.1) refl in
      let there : P j x (put_cell l w.cells (DataAt j) x) = subst (P j x) (sym within) (puts l a w.cells m p layout below k b c purpose j x rest s' r.1 h.1 h.2) in
      subst (λ i'. P i' v (put_cell l w.cells (DataAt i') v)) (sym at) (subst (λ v'. P j v' (put_cell l w.cells (DataAt j) v')) (sym value) there)
  moves w a m p below k lock b c _ _ _ v s' e reads may h = absurd (cc)

  pub happens : (w : GlobalState) (a : Abstract) (m : Mailbox) (e : WorldEvent) (s' : ProcessState) → who e < l.procs → Kept l a w.cells m → next_process_state l limit (w.process_states (who e)) e ≡ Some s' → GlobalState-Reads w e → AllowsBy l.procs a (lock_deed (w.process_states (who e)) e)
      → PostAt l (who e) (a.phase (who e)) w.cells m (w.process_states (who e)) → Left w a m e s'
  happens w a m (Begins p call) s' below k e reads may h =
      let x = w.process_states p in (begins l a w.cells m p layout below k x.lock x.mended x.script_state call s' e h, tt)
  happens w a m (Falls p) s' below k e reads may h =
      let is : dead_process ≡ s' = cc in
      (subst (λ x. Outcome l (abstract_world a w.cells m) p (Some (Crash p)) [] w.cells x) is (falls l a w.cells m p layout below k may), tt)
  happens w a m (Moves p kind word v) s' below k e reads may h =
      let x = w.process_states p in moves w a m p below k x.lock x.mended x.barred x.script_state kind word v s' e reads may h
  happens w a m (Glances p word v) s' below k e reads may h =
      let is : w.process_states p ≡ s' = cc in
      (subst (λ x. Outcome l (abstract_world a w.cells m) p None [] w.cells x) is (nothing l a w.cells m p layout below k (w.process_states p) h), tt)

  sits : (a : Abstract) (w : Words) (m : Mailbox) → Kept l a w m → Sits l w (judge_of l a m)
  sits a w m k = record { shape = k.shape; rest = k.rest }

  pub head : (a : Abstract) (d : Option Outer) (ds : List Outer) → Legal l.procs a (and_then d ds) → AllowsBy l.procs a d × Legal l.procs (done_by a d) ds
  head a None ds h = (tt, h)
  head a (Some d) ds h = h

  abbrev pub AllPosts : Abstract → Words → Mailbox → (ℕ → ProcessState) → Type 0
  AllPosts a w m process_states = (q : ℕ) → q < l.procs → PostAt l q (a.phase q) w m (process_states q)

  pub posts : (w : GlobalState) (a : Abstract) (m : Mailbox) (e : WorldEvent) (s' : ProcessState) (o : Outcome l (abstract_world a w.cells m) (who e) (lock_deed (w.process_states (who e)) e) (mail_deeds l w.cells e) (cells_after l w.cells e) s') → AllPosts a w.cells m w.process_states
      → AllPosts (done_by a (lock_deed (w.process_states (who e)) e)) (cells_after l w.cells e) o.mail (put w.process_states (who e) s')
  posts w a m e s' o all q lt =
      let a' : Abstract = done_by a (lock_deed (w.process_states (who e)) e) in
      elim (cases_eq q (who e)) [
        | inl same ↦ subst (λ r. PostAt l r (a'.phase r) (cells_after l w.cells e) o.mail (put w.process_states (who e) s' r)) (sym same) (subst (PostAt l (who e) (a'.phase (who e)) (cells_after l w.cells e) o.mail) (sym (put_same w.process_states (who e) s')) o.here)
        | inr ne ↦ subst (PostAt l q (a'.phase q) (cells_after l w.cells e) o.mail) (sym (put_other w.process_states (who e) s' q ne)) (o.others q lt ne (w.process_states q) (all q lt))
      ]

  pub sound : (w : GlobalState) (a : Abstract) (m : Mailbox) (es : List WorldEvent) → Kept l a w.cells m → AllPosts a w.cells m w.process_states → Execution l limit w es → Legal l.procs a (outers l limit w es) → Sound l limit w (judge_of l a m) es
  sound w a m [] k all execution legal = sits a w.cells m k
  sound w a m (e ∷ es) k all execution legal =
      let x = some_of l limit (next_process_state l limit (w.process_states (who e)) e) (w.process_states (who e)) execution.0.1 in
      let r = head a (lock_deed (w.process_states (who e)) e) (outers l limit (state_after_event l limit w e) es) legal in
      let left = happens w a m e x.0 execution.0.0 k x.1 execution.0.2 r.0 (all (who e) execution.0.0) in
      let o = left.0 in
      let next_all : AllPosts (done_by a (lock_deed (w.process_states (who e)) e)) (cells_after l w.cells e) o.mail (state_after_event l limit w e).process_states =
      subst (λ z. AllPosts (done_by a (lock_deed (w.process_states (who e)) e)) (cells_after l w.cells e) o.mail (put w.process_states (who e) z)) (sym x.2) (posts w a m e x.0 o all) in
      (sits a w.cells m k, (judge_of l (done_by a (lock_deed (w.process_states (who e)) e)) o.mail, o.leads, left.1, sound (state_after_event l limit w e) (done_by a (lock_deed (w.process_states (who e)) e)) o.mail es o.kept next_all execution.1 r.1))

  pub legal_by : (w : GlobalState) (s : State) (es : List WorldEvent) → Sound l limit w s es → (t : State) × Leads s (deeds l limit w es) t
  legal_by w s [] h = (s, refl)
  legal_by w s (e ∷ es) h =
      let g = h.1 in
      let rest = legal_by (state_after_event l limit w e) g.0 es g.3 in
      (rest.0, judged_all-append s g.0 (event_deeds l w e) (deeds l limit (state_after_event l limit w e) es) g.1 ∙ rest.1)

  -- the first global state
  pub first : NewWords → Kept l nobody at_first.cells nothing_shown
  first new = record {
    sole = sole_nobody l.procs;
    shape = λ q only. new l q at_first.cells (λ i. refl);
    rest = λ none z. refl;
  }

  pub first_posts : AllPosts nobody at_first.cells nothing_shown at_first.process_states
  first_posts q lt = tt

  -- the judge's state of words that are possible after a crash of every process
  pub state_is : (words : ℕ → Own) (cells : Words) (s : State) → IsLater l limit words cells s → s ≡ judge_of l (start_of words) s.mail
  state_is words cells s h = λ i. record { procs = h.procs i; cap = h.cap i; most_inside = h.most_inside i; lock = h.lock i; mail = s.mail }

  pub later : (words : ℕ → Own) (cells : Words) (s : State) → IsLater l limit words cells s → Kept l (start_of words) cells s.mail
  later words cells s h =
      let sat : Sits l cells (judge_of l (start_of words) s.mail) = subst (Sits l cells) (state_is words cells s h) h.sits in
      record {
        sole =
            λ q r x y i j.
            elim (cases_eq q r) [
              | inl same ↦ same
              | inr ne ↦
                  (let a = in_numbers (words q).choosing (words q).number (words q).inside i in
                  let b = in_numbers (words r).choosing (words r).number (words r).inside j in
                  let e = before_is (words q).number q (words r).number r (h.lawful.least q r x y (λ z. ne (sym z)) a.0 a.1 b.0) in
                  let f = before_is (words r).number r (words q).number q (h.lawful.least r q y x ne b.0 b.1 a.0) in
                  absurd (omega arith))
            ];
        shape = sat.shape;
        rest = sat.rest;
      }
