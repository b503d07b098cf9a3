-- The lock theorem for a world at the end of an execution: its history is legal, and its words are lawful.
use Rattle.std.proofs.Common.{◌≡◌, ℕ, zero, suc, ◌<◌, ◌≤◌, nat_lt, Bool, if◌then◌else◌, List, [], ◌∷◌, ◌++◌, Option, Some, None, refl, sym, ap, ◌∙◌, subst, inl, inr, arith, lt-ltb}
use Rattle.rmeworld.proofs.Common.{cases_Bool, Outer, Own, Word, Data as DataAt, Abstract, Legal, IsLawful, IsRow, Dead, IsInSection, all_done, is_store, and_then, World, final, Tied, Fits, Pair, phase_at}
use Rattle.rmeworld.proofs.Common.{phase_of, after_deed as done_by, legal, Deed, OuterDeed, Commit, Show, Ruin, Layout, NewWords, Words, IsLayout, AreOwn, puts_are_own, all_after, Leads, empty_state, State}
use Rattle.rmeworld.proofs.Common.{after, core_of, state_led, judged_all-append, Sits, IsLater, Sound, crashed_global_state, IsOrigin, IsReached, ProcessState, dead_process, WorldEvent, Moves, who, lock_deed, at_rest, event_deeds, GlobalState}
use Rattle.rmeworld.proofs.Common.{at_first, Execution, state_after_event, last_global_state, outer_deeds, mail_deeds, deeds, put_deeds}
use Rattle.rmecore.specs.Lawful.{all_dead as core_dead, start_of}
use Rattle.rmecore.proofs.Bounds.{Bounded, Within, final_lawful, image_bounded, rest_bounded, rest_rows}
use Rattle.rmecore.proofs.Images.{at_image}
use Rattle.rmecore.proofs.Phases.{tied_after}
use Rattle.rmecore.proofs.Runs.{at_first as core_first}
use Rattle.redomail.specs.declared.deed.Deed.TheVariants.{Close}
use Rattle.rmeworld.proofs.Projection.{Held, outers, projected}
use Rattle.rmeworld.proofs.WorldEvents.{judge_of, Kept}
use Rattle.rmeworld.proofs.Knowing.{PostAt}
use Rattle.rmeworld.proofs.Executions.{sound, first, later}

-- the judge's lock after an execution's deeds

pub all_after-append : (s : State) (ds es : List Deed) → all_after s (ds ++ es) ≡ all_after (all_after s ds) es
all_after-append s [] es = refl
all_after-append s (d ∷ ds) es = all_after-append (after s d) ds es

mails_keep : (p : ℕ) (s : State) (ds : List Deed) → AreOwn p ds → (all_after s ds).lock ≡ s.lock
mails_keep p s [] h = refl
mails_keep p s (OuterDeed d ∷ ds) h = absurd h.0
mails_keep p s (Commit q seq v ∷ ds) h = mails_keep p (after s (Commit q seq v)) ds h.1
mails_keep p s (Show q at seq v ∷ ds) h = mails_keep p (after s (Show q at seq v)) ds h.1
mails_keep p s (Close q ∷ ds) h = mails_keep p (after s (Close q)) ds h.1
mails_keep p s (Ruin q ∷ ds) h = mails_keep p (after s (Ruin q)) ds h.1

put_own : (l : Layout) (p : ℕ) (cells : Words) (word : Word) (v : ℕ) → AreOwn p (put_deeds l p cells word v)
put_own l p cells (DataAt i) v = puts_are_own l p cells i v
put_own l p cells _ v = tt

pub mail_own : (l : Layout) (cells : Words) (e : WorldEvent) → AreOwn (who e) (mail_deeds l cells e)
mail_own l cells (Moves p kind word v) =
    elim (cases_Bool (is_store kind)) [ inl e ↦ rw e (put_own l p cells word v) | inr e ↦ rw e tt ]
mail_own l cells _ = tt

outer_led : (s : State) (o : Option Outer) → (all_after s (outer_deeds o)).lock ≡ done_by s.lock o
outer_led s None = refl
outer_led s (Some d) = refl

pub done-and_then : (a : Abstract) (o : Option Outer) (ds : List Outer) → all_done a (and_then o ds) ≡ all_done (done_by a o) ds
done-and_then a None ds = refl
done-and_then a (Some d) ds = refl

lock_led : (l : Layout) (limit : ℕ) (w : GlobalState) (es : List WorldEvent) (s : State) → (all_after s (deeds l limit w es)).lock ≡ all_done s.lock (outers l limit w es)
lock_led l limit w [] s = refl
lock_led l limit w (e ∷ es) s =
    let o : Option Outer = lock_deed (w.process_states (who e)) e in
    let ms : List Deed = mail_deeds l w.cells e in
    let s' : State = all_after s (event_deeds l w e) in
    let here : s'.lock ≡ done_by s.lock o = ap (λ (x : State). x.lock) (all_after-append s (outer_deeds o) ms) ∙ mails_keep (who e) (all_after s (outer_deeds o)) ms (mail_own l w.cells e) ∙ outer_led s o in
    ap (λ (x : State). x.lock) (all_after-append s (event_deeds l w e) (deeds l limit (state_after_event l limit w e) es)) ∙ lock_led l limit (state_after_event l limit w e) es s'
    ∙ ap (λ a. all_done a (outers l limit (state_after_event l limit w e) es)) here ∙ sym (done-and_then s.lock o (outers l limit (state_after_event l limit w e) es))

-- the end of a sound execution
pub sound_ends : (l : Layout) (limit : ℕ) (w : GlobalState) (s : State) (es : List WorldEvent) → Sound l limit w s es → (t : State) × Leads s (deeds l limit w es) t × Sits l (last_global_state l limit w es).cells t
sound_ends l limit w s [] h = (s, refl, h)
sound_ends l limit w s (e ∷ es) h =
    let g = h.1 in
    let rest = sound_ends l limit (state_after_event l limit w e) g.0 es g.3 in
    (rest.0, judged_all-append s g.0 (event_deeds l w e) (deeds l limit (state_after_event l limit w e) es) g.1 ∙ rest.1, rest.2)

-- a process that is in has a number and a mark
in_numbers : (c k i : ℕ) (b : Bool) → IsInSection (phase_at c k i b) → (0 < k) × (0 < i)
in_numbers c (suc k) (suc i) b h = (omega arith, omega arith)
in_numbers zero _ _ b h = absurd h
in_numbers _ _ _ b h = absurd h

-- what is known at the beginning of a history
pub record Origin (l : Layout) (limit : ℕ) (w : GlobalState) (s : State) : Type 0 where
  pub tied : Tied l.procs (core_of w) s.lock
  pub bounded : Bounded limit (core_of w)
  pub rows : (p : ℕ) → l.procs ≤ p → IsRow limit (w.words p)
  pub held : (p : ℕ) → Held (w.process_states p).script_state (w.process_states p).lock
  pub kept : Kept l s.lock w.cells s.mail
  pub posts : (p : ℕ) → p < l.procs → PostAt l p (s.lock.phase p) w.cells s.mail (w.process_states p)
  pub state : s ≡ judge_of l s.lock s.mail

blank_words : NewWords
blank_words l p w z = record {
  ruined = z 0;
  closed = z 1;
  armed = inl (z 3);
  apart = λ a b. absurd (omega (arith, z 3));
  room = omega (arith, z 2);
  shown = rw (z 2) refl;
  listed = λ _. rw (z 2) record { numbered = λ a h. absurd (omega arith); counted = λ q h. z _ };
  record_rule = λ a. absurd (omega (arith, z 3));
  pending = λ _. rw (z 3) refl;
}

new_origin : (l : Layout) (limit : ℕ) → IsLayout l → Origin l limit at_first (empty_state l.procs l.cap)
new_origin l limit layout =
    record {
      tied = core_first l.procs;
      bounded = rest_bounded limit;
      rows = λ p past. rest_rows limit;
      held = λ p. tt;
      kept = first l limit layout blank_words;
      posts = λ p below. tt;
      state = refl;
    }

-- the process states of a global state in which each of n processes has crashed
pub crashed_at : (P : ProcessState → Type 0) (n p : ℕ) → P dead_process → P at_rest → P (if nat_lt p n then dead_process else at_rest)
crashed_at P n p h k = elim (cases_Bool (nat_lt p n)) [ inl e ↦ rw e h | inr e ↦ rw e k ]

crashed_below : (P : ProcessState → Type 0) (n p : ℕ) → p < n → P dead_process → P (if nat_lt p n then dead_process else at_rest)
crashed_below P n p below h = rw (lt-ltb p n below) h

-- the lock's invariant there
pub crashed_tied : (n limit : ℕ) (words : ℕ → Own) (cells : Words) → IsLawful n limit words → Tied n (core_of (crashed_global_state n words cells)) (start_of words)
crashed_tied n limit words cells h =
    let tied : Tied n (core_dead words) (start_of words) = at_image n limit words h in
    let place : (p : ℕ) → p < n → Dead ≡ (if nat_lt p n then dead_process else at_rest).lock = λ p below. crashed_below (λ x. Dead ≡ x.lock) n p below refl in
    record {
      fits = λ p below. subst (Fits (words p)) (place p below) (tied.fits p below);
      phase = λ p below. tied.phase p below ∙ ap (phase_of (words p)) (place p below);
      self = tied.self;
      pairs = λ p i hp hi ne. subst (λ t. Pair ((start_of words).ahead i p) p (words p) t i (words i) ((if nat_lt i n then dead_process else at_rest).lock)) (place p hp) (subst (λ t. Pair ((start_of words).ahead i p) p (words p) Dead i (words i) t) (place i hi) (tied.pairs p i hp hi ne));
    }

later_origin : (l : Layout) (limit : ℕ) (words : ℕ → Own) (cells : Words) (s : State) → IsLayout l → IsLater l limit words cells s → Origin l limit (crashed_global_state l.procs words cells) s
later_origin l limit words cells s layout h =
    let n : ℕ = l.procs in
    let kept : Kept l s.lock cells s.mail = subst (λ a. Kept l a cells s.mail) (sym h.lock) (later l limit layout words cells s h) in
    record {
      tied = subst (Tied n (core_of (crashed_global_state n words cells))) (sym h.lock) (crashed_tied n limit words cells h.lawful);
      bounded = record { small = (image_bounded limit n words h.lawful).small; within = λ q. crashed_at (λ x. Within limit x.lock) n q tt tt };
      rows = λ p past. h.lawful.rows p;
      held = λ p. crashed_at (λ x. Held x.script_state x.lock) n p tt tt;
      kept = kept;
      posts = λ p below. crashed_below (λ x. PostAt l p (s.lock.phase p) cells s.mail x) n p below tt;
      state = λ i. record { procs = h.procs i; cap = h.cap i; most_inside = h.most_inside i; lock = s.lock; mail = s.mail };
    }

pub origin : (l : Layout) (limit : ℕ) (w : GlobalState) (s : State) → IsLayout l → IsOrigin l limit w s → Origin l limit w s
origin l limit w s layout (inl h) = subst (λ x. Origin l limit x s) (sym h.0) (subst (Origin l limit at_first) (sym h.1) (new_origin l limit layout))
origin l limit w s layout (inr h) = subst (λ x. Origin l limit x s) (sym h.0) (later_origin l limit w.words w.cells s layout h.1)

-- the invariant at the end of an execution
pub record Arrived (l : Layout) (limit : ℕ) (s : State) (w : GlobalState) (history : List Deed) : Type 0 where
  pub now : State
  pub leads : Leads s history now
  pub sits : Sits l w.cells now
  pub lawful : IsLawful l.procs limit w.words
  pub who_is_in : (p : ℕ) → p < l.procs → IsInSection (now.lock.phase p) → (0 < (w.words p).number) × (0 < (w.words p).inside)

-- every execution from there is sound
pub sound_from : (l : Layout) (limit : ℕ) (w : GlobalState) (s : State) (execution : List WorldEvent) → IsLayout l → Origin l limit w s → Execution l limit w execution → Sound l limit w s execution
sound_from l limit w s execution layout o reports =
    let r = projected l limit w execution o.held reports in
    let allowed = subst (λ ds. Legal l.procs s.lock ds) r.same (legal l.procs limit (core_of w) s.lock r.events o.tied r.run) in
    subst (λ x. Sound l limit w x execution) (sym o.state) (sound l limit layout w s.lock s.mail execution o.kept o.posts reports allowed)

pub arrives : (l : Layout) (limit : ℕ) (w : GlobalState) (s : State) (execution : List WorldEvent) → IsLayout l → Origin l limit w s → Execution l limit w execution → Arrived l limit s (last_global_state l limit w execution) (deeds l limit w execution)
arrives l limit w s execution layout o reports =
    let n : ℕ = l.procs in
    let r = projected l limit w execution o.held reports in
    let ends = sound_ends l limit w s execution (sound_from l limit w s execution layout o reports) in
    let lock : ends.0.lock ≡ all_done s.lock (outers l limit w execution) = ap (λ (x : State). x.lock) (state_led s ends.0 (deeds l limit w execution) ends.1) ∙ lock_led l limit w execution s in
    let tied = tied_after n limit (core_of w) s.lock r.events o.tied r.run in
    record {
      now = ends.0;
      leads = ends.1;
      sits = ends.2;
      lawful = subst (λ (x : World). IsLawful n limit x.words) r.ends (final_lawful limit n (core_of w) s.lock r.events o.tied o.bounded o.rows r.run);
      who_is_in = λ p below i.
          let phase : ends.0.lock.phase p ≡ phase_of ((final n limit (core_of w) r.events).words p) ((final n limit (core_of w) r.events).places p) = ap (λ a. a.phase p) (lock ∙ ap (all_done s.lock) (sym r.same)) ∙ tied.phase p below in
          let numbers = in_numbers _ _ _ _ (subst IsInSection phase i) in
          subst (λ (x : World). (0 < (x.words p).number) × (0 < (x.words p).inside)) r.ends numbers;
    }

pub reached_arrives : {l : Layout} {limit : ℕ} {w : GlobalState} {history : List Deed} → IsLayout l → (r : IsReached l limit w history) → Arrived l limit r.state w history
reached_arrives {l = l} {limit = limit} {history = history} layout r =
    let a = arrives l limit r.first r.state r.execution layout (origin l limit r.first r.state layout r.origin) r.reports in
    subst (λ w. Arrived l limit r.state w history) r.last (subst (Arrived l limit r.state (last_global_state l limit r.first r.execution)) r.done a)
