-- A process that puts a data word is in, and a process that has entered stays in until it leaves.
use Rattle.std.proofs.Common.{◌≡◌, ℕ, ◌<◌, Bool, true, List, [], ◌∷◌, ◌++◌, Option, Some, None, IsSome, refl, sym, ap, ◌∙◌, subst, inl, inr}
use Rattle.rmeworld.proofs.Common.{cases_eq, All-head, All-tail, Kind, Outer, Begin, Ready, Enter, Crash, Reenter, Leave, Quit, Within, Data as DataAt, Abstract, Legal, nobody, needs, abstract_after, put}
use Rattle.rmeworld.proofs.Common.{AllHold, Place, next, IsInSection, all_done, is_store, and_then, allows_from, put_same, put_other, after_deed as done_by, legal, in_after, not_data, Deed, Layout, Words}
use Rattle.rmeworld.proofs.Common.{core_of, IsLayout, AreOwn, Mailbox, outers as lock_deeds, Leads, empty_state, judged_all-append, puts_data, AllPutBy, NoEndOf, OnlyHoldersPut, ScriptState, Free, Doing, WorldEvent}
use Rattle.rmeworld.proofs.Common.{Moves, who, moved_by, next_process_state, lock_deed, event_deeds, GlobalState, at_first, Execution, state_after_event, last_global_state, outer_deeds, mail_deeds, deeds}
use Rattle.rmecore.specs.declared.phase.Phase.TheVariants.{Out as IsOut}
use Rattle.redomail.specs.declared.deed.Deed.TheVariants as deed
use Rattle.judge.specs.Plain.{IsEndOf}
use Rattle.rmeworld.proofs.Projection.{outers, projected, some_of}
use Rattle.rmeworld.proofs.WorldEvents.{judge_of, AllowsBy, Kept}
use Rattle.rmeworld.proofs.Knowing.{mail_store, Post, PostAt}
use Rattle.rmeworld.proofs.Executions.{AllPosts, happens, head, posts}
use Rattle.rmeworld.proofs.Reaching.{mail_own, done-and_then, origin}
use Rattle.rmeworld.proofs.WorldTallies.{at_lock_some}

-- the lock's deeds among those of an execution
own_none : (p : ℕ) (ds : List Deed) → AreOwn p ds → lock_deeds ds ≡ []
own_none p [] h = refl
own_none p (deed.Outer d ∷ ds) h = absurd h.0
own_none p (_ ∷ ds) h = own_none p ds h.1

lock_deeds-append : (ds es : List Deed) → lock_deeds (ds ++ es) ≡ lock_deeds ds ++ lock_deeds es
lock_deeds-append [] es = refl
lock_deeds-append (deed.Outer d ∷ ds) es = ap (λ (xs : List Outer). d ∷ xs) (lock_deeds-append ds es)
lock_deeds-append (_ ∷ ds) es = lock_deeds-append ds es

one_lock_deed : (o : Option Outer) (ms : List Deed) (xs : List Outer) → lock_deeds ms ≡ [] → lock_deeds (outer_deeds o ++ ms) ++ xs ≡ and_then o xs
one_lock_deed None ms xs none = ap (λ (ds : List Outer). ds ++ xs) none
one_lock_deed (Some d) ms xs none = ap (λ (ds : List Outer). d ∷ (ds ++ xs)) none

pub lock_deeds_are : (l : Layout) (limit : ℕ) (w : GlobalState) (es : List WorldEvent) → lock_deeds (deeds l limit w es) ≡ outers l limit w es
lock_deeds_are l limit w [] = refl
lock_deeds_are l limit w (e ∷ es) =
    lock_deeds-append (event_deeds l w e) (deeds l limit (state_after_event l limit w e) es) ∙ ap (λ (xs : List Outer). lock_deeds (event_deeds l w e) ++ xs) (lock_deeds_are l limit (state_after_event l limit w e) es)
    ∙ one_lock_deed (lock_deed (w.process_states (who e)) e) (mail_deeds l w.cells e) (outers l limit (state_after_event l limit w e) es) (own_none (who e) (mail_deeds l w.cells e) (mail_own l w.cells e))

-- after a deed other than p's Leave, p is still in
abbrev Stays : ℕ → List Outer → Type 0
Stays p [] = Unit {0}
Stays p (d ∷ ds) = (d ≡ Leave p → ⊥) × Stays p ds

stays_in : (n : ℕ) (a : Abstract) (d : Outer) (p : ℕ) → AllHold (needs n a d) → (d ≡ Leave p → ⊥) → IsInSection (a.phase p) → IsInSection ((abstract_after a d).phase p)
stays_in n a (Begin q) p h ne i = in_after n a (Begin q) p (allows_from n a (Begin q) h) (λ x. x) i
stays_in n a (Ready q) p h ne i = in_after n a (Ready q) p (allows_from n a (Ready q) h) (λ x. x) i
stays_in n a (Enter q) p h ne i = in_after n a (Enter q) p (allows_from n a (Enter q) h) (λ x. x) i
stays_in n a (Crash q) p h ne i = in_after n a (Crash q) p (allows_from n a (Crash q) h) (λ x. x) i
stays_in n a (Reenter q) p h ne i = in_after n a (Reenter q) p (allows_from n a (Reenter q) h) (λ x. x) i
stays_in n a (Quit q) p h ne i = in_after n a (Quit q) p (allows_from n a (Quit q) h) (λ x. x) i
stays_in n a (Leave q) p h ne i = elim (cases_eq p q) [ inl e ↦ absurd (ne (ap Leave (sym e))) | inr other ↦ subst IsInSection (sym (put_other a.phase q IsOut p other)) i ]

stays_by : (n : ℕ) (a : Abstract) (o : Option Outer) (ds : List Outer) (p : ℕ) → AllowsBy n a o → Stays p (and_then o ds) → IsInSection (a.phase p) → IsInSection ((done_by a o).phase p) × Stays p ds
stays_by n a None ds p h s i = (i, s)
stays_by n a (Some d) ds p h s i = (stays_in n a d p h s.0 i, s.1)

none_ends : (p : ℕ) (ds : List Deed) → NoEndOf p ds → Stays p (lock_deeds ds)
none_ends p [] h = tt
none_ends p (deed.Outer d ∷ ds) h = (λ e. (let no : IsEndOf p (deed.Outer d) → ⊥ = All-head (λ (x : Deed). IsEndOf p x → ⊥) (deed.Outer d) ds h in no (inl (ap deed.Outer e))), none_ends p ds (All-tail (λ (x : Deed). IsEndOf p x → ⊥) (deed.Outer d) ds h))
none_ends p (deed.Commit q seq v ∷ ds) h = none_ends p ds (All-tail (λ (x : Deed). IsEndOf p x → ⊥) (deed.Commit q seq v) ds h)
none_ends p (deed.Show q at seq v ∷ ds) h = none_ends p ds (All-tail (λ (x : Deed). IsEndOf p x → ⊥) (deed.Show q at seq v) ds h)
none_ends p (deed.Close q ∷ ds) h = none_ends p ds (All-tail (λ (x : Deed). IsEndOf p x → ⊥) (deed.Close q) ds h)
none_ends p (deed.Ruin q ∷ ds) h = none_ends p ds (All-tail (λ (x : Deed). IsEndOf p x → ⊥) (deed.Ruin q) ds h)

-- after deeds that end with an Enter, its process is in
entered_in : (a : Abstract) (ds : List Outer) (p : ℕ) → IsInSection ((all_done a (ds ++ Enter p ∷ [])).phase p)
entered_in a [] p = subst IsInSection (sym (put_same a.phase p Within)) tt
entered_in a (d ∷ ds) p = entered_in (abstract_after a d) ds p

legal_back : (n : ℕ) (a : Abstract) (ds es : List Outer) → Legal n a (ds ++ es) → Legal n (all_done a ds) es
legal_back n a [] es h = h
legal_back n a (d ∷ ds) es h = legal_back n (abstract_after a d) ds es h.1

and_then-append : (o : Option Outer) (ds es : List Outer) → and_then o (ds ++ es) ≡ and_then o ds ++ es
and_then-append None ds es = refl
and_then-append (Some d) ds es = refl

module _ (l : Layout) (limit : ℕ) where
  outers-append : (w : GlobalState) (xs ys : List WorldEvent) → outers l limit w (xs ++ ys) ≡ outers l limit w xs ++ outers l limit (last_global_state l limit w xs) ys
  outers-append w [] ys = refl
  outers-append w (x ∷ xs) ys = ap (and_then (lock_deed (w.process_states (who x)) x)) (outers-append (state_after_event l limit w x) xs ys) ∙ and_then-append (lock_deed (w.process_states (who x)) x) (outers l limit (state_after_event l limit w x) xs) (outers l limit (last_global_state l limit (state_after_event l limit w x) xs) ys)

  pub execution_front : (w : GlobalState) (xs ys : List WorldEvent) → Execution l limit w (xs ++ ys) → Execution l limit w xs
  execution_front w [] ys h = tt
  execution_front w (x ∷ xs) ys h = (h.0, execution_front (state_after_event l limit w x) xs ys h.1)

  pub execution_back : (w : GlobalState) (xs ys : List WorldEvent) → Execution l limit w (xs ++ ys) → Execution l limit (last_global_state l limit w xs) ys
  execution_back w [] ys h = h
  execution_back w (x ∷ xs) ys h = execution_back (state_after_event l limit w x) xs ys h.1

  -- a process that stores into a data word is inside
  putter : (cells : Words) (a : Abstract) (m : Mailbox) (p : ℕ) (lock : Place) (b c : Bool) (script_state : ScriptState) (kind : Kind) (i v : ℕ) → IsSome (moved_by l limit p lock b c script_state kind (DataAt i) v) → Post l p (a.phase p) (mail_store cells m) b script_state lock → is_store kind ≡ true → a.phase p ≡ Within
  putter cells a m p lock b c Free kind i v some post stores = absurd (not_data l.procs limit p lock kind i v (at_lock_some l p lock b c (next l.procs limit p lock kind (DataAt i) v) some))
  putter cells a m p lock b c (Doing purpose left) kind i v some post stores = post.1

  pub putter_in : (w : GlobalState) (a : Abstract) (m : Mailbox) (e : WorldEvent) → IsSome (next_process_state l limit (w.process_states (who e)) e) → PostAt l (who e) (a.phase (who e)) w.cells m (w.process_states (who e)) → puts_data e ≡ true → a.phase (who e) ≡ Within
  putter_in w a m (Moves p kind (DataAt i) v) some post puts = let x = w.process_states p in putter w.cells a m p x.lock x.mended x.barred x.script_state kind i v some post puts
  putter_in w a m _ some post puts = absurd (cc)

  module _ (layout : IsLayout l) where
    -- the invariant at a global state
    pub record At (w : GlobalState) (a : Abstract) : Type 0 where
      pub mail : Mailbox
      pub kept : Kept l a w.cells mail
      pub posts : AllPosts l limit layout a w.cells mail w.process_states

    -- after an event, with the state that its deeds lead to
    pub one : (w : GlobalState) (a : Abstract) (e : WorldEvent) (es : List WorldEvent) (at : At w a) → Execution l limit w (e ∷ es) → Legal l.procs a (outers l limit w (e ∷ es))
        → (next : At (state_after_event l limit w e) (done_by a (lock_deed (w.process_states (who e)) e))) × Leads (judge_of l a at.mail) (event_deeds l w e) (judge_of l (done_by a (lock_deed (w.process_states (who e)) e)) next.mail)
    one w a e es at execution legal =
        let o = lock_deed (w.process_states (who e)) e in
        let x = some_of l limit (next_process_state l limit (w.process_states (who e)) e) (w.process_states (who e)) execution.0.1 in
        let r = head l limit layout a o (outers l limit (state_after_event l limit w e) es) legal in
        let left = happens l limit layout w a at.mail e x.0 execution.0.0 at.kept x.1 execution.0.2 r.0 (at.posts (who e) execution.0.0) in (
          record {
            mail = left.0.mail;
            kept = left.0.kept;
            posts = subst (λ z. AllPosts l limit layout (done_by a o) (state_after_event l limit w e).cells left.0.mail (put w.process_states (who e) z)) (sym x.2) (posts l limit layout w a at.mail e x.0 left.0 at.posts);
          },
          left.0.leads,
        )

    -- and after an execution
    pub comes_to : (w : GlobalState) (a : Abstract) (es : List WorldEvent) (at : At w a) → Execution l limit w es → Legal l.procs a (outers l limit w es)
        → (there : At (last_global_state l limit w es) (all_done a (outers l limit w es))) × Leads (judge_of l a at.mail) (deeds l limit w es) (judge_of l (all_done a (outers l limit w es)) there.mail)
    comes_to w a [] at execution legal = (at, refl)
    comes_to w a (e ∷ es) at execution legal =
        let o = lock_deed (w.process_states (who e)) e in
        let r = head l limit layout a o (outers l limit (state_after_event l limit w e) es) legal in
        let now = one w a e es at execution legal in
        let rest = comes_to (state_after_event l limit w e) (done_by a o) es now.0 execution.1 r.1 in
        let Comes : Abstract → Type 0 = λ b. (there : At (last_global_state l limit w (e ∷ es)) b) × Leads (judge_of l a at.mail) (deeds l limit w (e ∷ es)) (judge_of l b there.mail) in
        subst Comes (sym (done-and_then a o (outers l limit (state_after_event l limit w e) es)))
        (rest.0, judged_all-append (judge_of l a at.mail) (judge_of l (done_by a o) now.0.mail) (event_deeds l w e) (deeds l limit (state_after_event l limit w e) es) now.1 ∙ rest.1)

    only_puts : (w : GlobalState) (a : Abstract) (es : List WorldEvent) (p : ℕ) → p < l.procs → At w a → Execution l limit w es → Legal l.procs a (outers l limit w es) → IsInSection (a.phase p) → Stays p (outers l limit w es) → AllPutBy p es
    only_puts w a [] p below at execution legal i stays = tt
    only_puts w a (e ∷ es) p below at execution legal i stays =
        let o = lock_deed (w.process_states (who e)) e in
        let r = head l limit layout a o (outers l limit (state_after_event l limit w e) es) legal in
        let s = stays_by l.procs a o (outers l limit (state_after_event l limit w e) es) p r.0 stays i in (
          λ puts. sym (at.kept.sole p (who e) below execution.0.0 i (subst IsInSection (sym (putter_in w a at.mail e execution.0.1 (at.posts (who e) execution.0.0) puts)) tt)),
          only_puts (state_after_event l limit w e) (done_by a o) es p below (one w a e es at execution legal).0 execution.1 r.1 s.0 s.1,
        )

-- after an execution from the first global state
pub execution_comes : (l : Layout) (limit : ℕ) (execution : List WorldEvent) (layout : IsLayout l) → Execution l limit at_first execution
    → Legal l.procs nobody (outers l limit at_first execution) × ((at : At l limit layout (last_global_state l limit at_first execution) (all_done nobody (outers l limit at_first execution)))
    × Leads (empty_state l.procs l.cap) (deeds l limit at_first execution) (judge_of l (all_done nobody (outers l limit at_first execution)) at.mail))
execution_comes l limit execution layout reports =
    let n = l.procs in
    let o = origin l limit at_first (empty_state n l.cap) layout (inl (refl, refl)) in
    let r = projected l limit at_first execution o.held reports in
    let all : Legal n nobody (outers l limit at_first execution) = subst (Legal n nobody) r.same (legal n limit (core_of at_first) nobody r.events o.tied r.run) in
    (all, comes_to l limit layout at_first nobody execution (record { mail = (empty_state n l.cap).mail; kept = o.kept; posts = o.posts }) reports all)

pub holders_put : OnlyHoldersPut
holders_put l limit p before since earlier layout below execution entered none =
    let n = l.procs in
    let whole = execution_comes l limit (before ++ since) layout execution in
    let all : Legal n nobody (outers l limit at_first before ++ outers l limit (last_global_state l limit at_first before) since) =
    subst (Legal n nobody) (outers-append l limit at_first before since) whole.0 in
    let there = execution_comes l limit before layout (execution_front l limit at_first before since execution) in
    let is : outers l limit at_first before ≡ lock_deeds earlier ++ Enter p ∷ [] = sym (lock_deeds_are l limit at_first before) ∙ ap lock_deeds entered ∙ lock_deeds-append earlier (deed.Outer (Enter p) ∷ []) in
    let within : IsInSection ((all_done nobody (outers l limit at_first before)).phase p) = subst (λ (ds : List Outer). IsInSection ((all_done nobody ds).phase p)) (sym is) (entered_in nobody (lock_deeds earlier) p) in
    only_puts l limit layout (last_global_state l limit at_first before) (all_done nobody (outers l limit at_first before)) since p below there.1.0 (execution_back l limit at_first before since execution) (legal_back n nobody (outers l limit at_first before) (outers l limit (last_global_state l limit at_first before) since) all) within
    (subst (Stays p) (lock_deeds_are l limit (last_global_state l limit at_first before) since) (none_ends p (deeds l limit (last_global_state l limit at_first before) since) none))
