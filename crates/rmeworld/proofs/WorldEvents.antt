-- One event: its deeds are allowed, and the invariant holds after it.
use Rattle.std.proofs.Common.{◌≡◌, ◌≢◌, ℕ, ◌<◌, Bool, true, false, ◌&&◌, ◌==◌, nat_lt, length, List, [], ◌∷◌, ◌++◌, Option, Some, None, Ok, refl, sym, ap, ◌∙◌, subst, inl, inr, ◌⊎◌, true≢false, ltb-true, lt-ltb}
use Rattle.rmeworld.proofs.Common.{cases_Bool, CoreCall, Kind, Outer, Begin, Ready, Enter, Crash, Reenter, Leave, Quit, Phase, Word, Abstract, is_inside, doer, needs, abstract_after, put, AllHold, Place, Wait}
use Rattle.rmeworld.proofs.Common.{next, Rest, Reread, Leaving, Withdrawing, Inside, Dead, IsInSection, Sole, IsLeave, step_deed, Allows, allows_from, put_same, after_deed as done_by, neither, phase_other}
use Rattle.rmeworld.proofs.Common.{sole_done, in_after, turn, Deed, Layout, Reply, deeds_of_put, Words, IsLayout, MailLeads, AreOwn, Mailbox, Script, Get as Asks, Put as Writes, Shape, bit, script}
use Rattle.rmeworld.proofs.Common.{consistent, puts_are_own, shape_passes_on, may_leave, Leads, judged_all, State, AllHold-append, judged-allowed, Call, Lock, Unlock, Consistent, Recover, Append}
use Rattle.rmeworld.proofs.Common.{Close, Withdraw, Purpose, Ruining, Mending, Working, Checking, ScriptStateTells, ScriptState, Free, Doing, ProcessState, dead_process, process_after_script, script_state_entered, at_lock, begun_from}
use Rattle.rmeworld.proofs.Common.{mended_entered, outer_deeds}
use Rattle.rmecore.specs.Place.{place_after_start}
use Rattle.rmecore.specs.Turn.{Elsewhere, Plain, Turn, Enters, Reenters, Exits, Same, Else}
use Rattle.rmecore.specs.declared.core_call.CoreCall.TheVariants as core
use Rattle.rmecore.specs.declared.phase.Phase.TheVariants as phase
use Rattle.redomail.specs.declared.deed.Deed.TheVariants as deed
use Rattle.redomail.specs.declared.task.Task.TheVariants as task
use Rattle.redomail.specs.Mailbox.{row as mail_row, mailbox_after as mail_done}
use Rattle.redomail.proofs.Safe.{seen}
use Rattle.judge.specs.Legal.{and_then}
use Rattle.rmeworld.specs.declared.call.Call.TheVariants.{Get, Put}
use Rattle.rmeworld.proofs.Projection.{at_lock_some, begun, inside_some}
use Rattle.rmeworld.proofs.Knowing.{mail_store, Clean, Work, Post, PostAt, settled_post, Post-out, checking, ruining, mending, appending, closing, getting, putting, work_tells}

abbrev pub AllowsBy : ℕ → Abstract → Option Outer → Type 0
AllowsBy n a None = Unit {0}
AllowsBy n a (Some d) = AllHold (needs n a d)

-- the judge's state over this lock and this mailbox
abbrev pub judge_of : Layout → Abstract → Mailbox → State
judge_of l a m = record { procs = l.procs; cap = l.cap; most_inside = 1; lock = a; mail = m }

-- The invariant of the mailbox, besides what each process knows: at most one process is in, alive or crashed, and the words
-- have the shape for it. If no process is in, they are clean or ruined.
pub record Kept (l : Layout) (a : Abstract) (w : Words) (m : Mailbox) : Type 0 where
  pub sole : Sole l.procs a
  pub shape : (q : ℕ) → ((r : ℕ) → r < l.procs → IsInSection (a.phase r) → r ≡ q) → Shape l q w m
  pub rest : ((r : ℕ) → r < l.procs → IsInSection (a.phase r) → ⊥) → w 0 ≡ 0 → w 3 ≡ 0

shape_in : (l : Layout) (a : Abstract) (w : Words) (m : Mailbox) (p : ℕ) → Kept l a w m → p < l.procs → IsInSection (a.phase p) → Shape l p w m
shape_in l a w m p k below i = k.shape p (λ r lt j. k.sole r p lt below j i)

-- clean or ruined, by the mailbox's state
clean_by : (l : Layout) (p : ℕ) (w : Words) (m : Mailbox) → Shape l p w m → (w 0 ≡ 0 → w 3 ≡ 0) → (w 3 ≡ 0) ⊎ (m.ruined ≡ true)
clean_by l p w m h clean = elim (cases_Bool m.ruined) [ inl t ↦ inr t | inr f ↦ inl (clean (h.ruined ∙ ap bit f)) ]

-- the lock without its words, the words, and the mailbox
pub record AbstractWorld : Type 0 where
  pub lock : Abstract
  pub words : Words
  pub mail : Mailbox

abbrev pub abstract_world : Abstract → Words → Mailbox → AbstractWorld
abstract_world lock words mail = record { lock = lock; words = words; mail = mail }

-- after an event of p, with this deed of the lock and these of the mailbox
pub record Outcome (l : Layout) (before : AbstractWorld) (p : ℕ) (d : Option Outer) (ds : List Deed) (w' : Words) (process_state : ProcessState) : Type 0 where
  pub mail : Mailbox
  pub leads : Leads (judge_of l before.lock before.mail) (outer_deeds d ++ ds) (judge_of l (done_by before.lock d) mail)
  pub kept : Kept l (done_by before.lock d) w' mail
  pub here : PostAt l p ((done_by before.lock d).phase p) w' mail process_state
  pub others : (q : ℕ) → q < l.procs → q ≢ p → (x : ProcessState) → PostAt l q (before.lock.phase q) before.words before.mail x → PostAt l q ((done_by before.lock d).phase q) w' mail x

module _ (l : Layout) (a : Abstract) (w : Words) (m : Mailbox) (p : ℕ) (layout : IsLayout l) (below : p < l.procs) (k : Kept l a w m) where
  abbrev Goes : Option Outer → ProcessState → Type 0
  Goes d process_state = Outcome l (abstract_world a w m) p d [] w process_state

  pub nothing : (process_state : ProcessState) → PostAt l p (a.phase p) w m process_state → Goes None process_state
  nothing process_state h = record { mail = m; leads = refl; kept = k; here = h; others = λ q lt ne x y. y }

  -- what a process that leaves knows
  abbrev LeavesClean : Outer → Type 0
  LeavesClean (Leave q) = w 0 ≡ 0 → w 3 ≡ 0
  LeavesClean _ = Unit {0}

  -- the mailbox's needs of a deed of the lock
  mail_allows : (d : Outer) (inside : Bool) → Allows l.procs a d → LeavesClean d → AllHold (mail_row l.cap inside m (deed.Outer d))
  mail_allows (Leave q) inside h c =
      let here = shape_in l a w m q k h.0 (subst IsInSection (sym h.1) tt) in
      may_leave l q q l.cap w m (clean_by l q w m here c) here
  mail_allows _ inside h c = tt

  leads_to : (d : Outer) → AllHold (needs l.procs a d) → LeavesClean d → Leads (judge_of l a m) (deed.Outer d ∷ []) (judge_of l (abstract_after a d) m)
  leads_to d may c =
      ap (λ r. and_then r (λ t. Ok t))
      (judged-allowed (judge_of l a m) (deed.Outer d) (may.0, AllHold-append _ _ may.1 (mail_allows d (is_inside (a.phase (doer d))) (allows_from l.procs a d may) c)))

  -- any deed but Leave: a process that is in stays in
  stays : (d : Outer) → AllHold (needs l.procs a d) → (IsLeave d → ⊥) → Kept l (abstract_after a d) w m
  stays d may ne =
      let h = allows_from l.procs a d may in
      record {
        sole = sole_done l.procs a d may k.sole;
        shape = λ q only. k.shape q (λ r lt i. only r lt (in_after l.procs a d r h ne i));
        rest = λ none. k.rest (λ r lt i. none r lt (in_after l.procs a d r h ne i));
      }

  leaves : (q : ℕ) → AllHold (needs l.procs a (Leave q)) → (w 0 ≡ 0 → w 3 ≡ 0) → Kept l (abstract_after a (Leave q)) w m
  leaves q may clean =
      let h = allows_from l.procs a (Leave q) may in
      let here = shape_in l a w m q k h.0 (subst IsInSection (sym h.1) tt) in
      record {
        sole = sole_done l.procs a (Leave q) may k.sole;
        shape = λ r only. shape_passes_on l q r w m (clean_by l q w m here clean) here;
        rest = λ none. clean;
      }

  after_outer : (d : Outer) → AllHold (needs l.procs a d) → LeavesClean d → Kept l (abstract_after a d) w m
  after_outer (Leave q) h c = leaves q h c
  after_outer d h c = stays d h (λ z. z)

  -- a deed of the lock
  by_deed : (d : Outer) (process_state : ProcessState) → doer d ≡ p → AllHold (needs l.procs a d) → LeavesClean d → (Kept l (abstract_after a d) w m → PostAt l p ((abstract_after a d).phase p) w m process_state) → Goes (Some d) process_state
  by_deed d process_state own may clean here =
      let kept = after_outer d may clean in
      record {
        mail = m;
        leads = leads_to d may clean;
        kept = kept;
        here = here kept;
        others =
            λ q lt ne x h.
            let same : (abstract_after a d).phase q ≡ a.phase q = phase_other a d q (λ e. ne (e ∙ own)) in
            subst (λ ph. PostAt l q ph w m x) (sym same) h;
      }

  shape_of : a.phase p ≡ phase.Inside → Shape l p w m
  shape_of h = shape_in l a w m p k below (subst IsInSection (sym h) tt)

  inside_row : (m : Mailbox) (d : Deed) (q : ℕ) → q ≡ p → a.phase p ≡ phase.Inside → AllHold (mail_row l.cap true m d) → AllHold (mail_row l.cap (is_inside (a.phase q)) m d)
  inside_row m d q own h row =
      let inside : is_inside (a.phase q) ≡ true = ap is_inside (ap a.phase own ∙ h) in
      subst (λ b. AllHold (mail_row l.cap b m d)) (sym inside) row

  -- deeds of the mailbox by p, which is inside
  mail_leads : (m t : Mailbox) (ds : List Deed) → a.phase p ≡ phase.Inside → AreOwn p ds → MailLeads l.cap m ds t → Leads (judge_of l a m) ds (judge_of l a t)
  mail_leads m t [] h own leads = ap (λ x. Ok (judge_of l a x)) leads
  mail_leads m t (deed.Outer d ∷ ds) h own leads = absurd own.0
  mail_leads m t (deed.Commit q seq v ∷ ds) h own leads =
      ap (λ r. and_then r (λ x. judged_all x ds)) (judged-allowed (judge_of l a m) (deed.Commit q seq v) (lt-ltb q l.procs (rw own.0 below), inside_row m (deed.Commit q seq v) q own.0 h leads.0)) ∙ mail_leads (mail_done m (deed.Commit q seq v)) t ds h own.1 leads.1
  mail_leads m t (deed.Show q at seq v ∷ ds) h own leads =
      ap (λ r. and_then r (λ x. judged_all x ds)) (judged-allowed (judge_of l a m) (deed.Show q at seq v) (lt-ltb q l.procs (rw own.0 below), inside_row m (deed.Show q at seq v) q own.0 h leads.0)) ∙ mail_leads (mail_done m (deed.Show q at seq v)) t ds h own.1 leads.1
  mail_leads m t (deed.Close q ∷ ds) h own leads =
      ap (λ r. and_then r (λ x. judged_all x ds)) (judged-allowed (judge_of l a m) (deed.Close q) (lt-ltb q l.procs (rw own.0 below), inside_row m (deed.Close q) q own.0 h leads.0)) ∙ mail_leads (mail_done m (deed.Close q)) t ds h own.1 leads.1
  mail_leads m t (deed.Ruin q ∷ ds) h own leads =
      ap (λ r. and_then r (λ x. judged_all x ds)) (judged-allowed (judge_of l a m) (deed.Ruin q) (lt-ltb q l.procs (rw own.0 below), inside_row m (deed.Ruin q) q own.0 h leads.0)) ∙ mail_leads (mail_done m (deed.Ruin q)) t ds h own.1 leads.1

  -- a put of the process inside
  by_put : (i v : ℕ) (process_state : ProcessState) (t : Mailbox) → a.phase p ≡ phase.Inside → MailLeads l.cap m (deeds_of_put l p w i v) t → Shape l p (put w i v) t → PostAt l p (a.phase p) (put w i v) t process_state
      → Outcome l (abstract_world a w m) p None (deeds_of_put l p w i v) (put w i v) process_state
  by_put i v process_state t h leads shape here =
      let me : IsInSection (a.phase p) = subst IsInSection (sym h) tt in
      record {
        mail = t;
        leads = mail_leads m t (deeds_of_put l p w i v) h (puts_are_own l p w i v) leads;
        kept = record {
          sole = k.sole;
          shape = λ q only. subst (λ x. Shape l x (put w i v) t) (only p below me) shape;
          rest = λ none. absurd (none p below me);
        };
        here = here;
        others =
            λ q lt ne x y.
            Post-out l q (a.phase q) w (put w i v) m t x.mended x.script_state x.lock (λ e. ne (k.sole q p lt below (subst IsInSection (sym e) tt) me)) y;
      }

  -- the lock's part
  abbrev entry : Bool → Bool → Place → Place → ProcessState
  entry b c from to = record { lock = to; mended = mended_entered b from to; barred = c; script_state = script_state_entered l p from to }

  away : (ph : Phase) (u : Words) (x : Mailbox) (b c : Bool) (from to : Place) → Elsewhere to → PostAt l p ph u x (entry b c from to)
  away ph u x b c from Inside h = absurd (h)
  away ph u x b c from Leaving h = absurd (h)
  away ph u x b c from _ h = tt

  stay : (b c : Bool) (lock : Place) → Post l p (a.phase p) (mail_store w m) b Free lock → PostAt l p (a.phase p) w m (entry b c lock lock)
  stay b c Inside h = h
  stay b c _ h = h

  -- at an entry: the ruin check begins on words of this shape
  check : (b : Bool) (d : Outer) → Kept l (abstract_after a d) w m → (abstract_after a d).phase p ≡ phase.Inside → (b ≡ true → w 0 ≡ 0 → w 3 ≡ 0) → Work l p w m b Checking (script l p task.Check)
  check b d kept is clean = checking l p w m layout below (shape_in l (abstract_after a d) w m p kept below (subst IsInSection (sym is) tt)) b clean

  enters : (b c : Bool) (y : ℕ) (unpassed : List ℕ) (looked : Option ℕ) → AllHold (needs l.procs a (Enter p)) → Goes (Some (Enter p)) (entry b c (Wait y unpassed looked) Inside)
  enters b c y unpassed looked may =
      let h = allows_from l.procs a (Enter p) may in
      by_deed (Enter p) (entry b c (Wait y unpassed looked) Inside) refl may tt
      (λ kept.
      let is : (abstract_after a (Enter p)).phase p ≡ phase.Inside = put_same a.phase p phase.Inside in
      (refl, is, check true (Enter p) kept is (λ _. k.rest (λ r lt i. neither (a.phase r) (h.2 r lt) (h.3 r lt) i))))

  back_in : (b c : Bool) (call : CoreCall) (seen : List ℕ) → Kept l (abstract_after a (Reenter p)) w m → PostAt l p ((abstract_after a (Reenter p)).phase p) w m (entry b c (Reread call seen) Inside)
  back_in b c core.Lock seen kept =
      let is : (abstract_after a (Reenter p)).phase p ≡ phase.Inside = put_same a.phase p phase.Inside in
      (refl, is, check false (Reenter p) kept is (λ h. absurd (true≢false (sym h))))
  back_in b c _ seen kept = (put_same a.phase p phase.Inside, λ h. absurd (true≢false (sym h)))

  plain : (b c : Bool) (from to : Place) (d : Option Outer) → Elsewhere to → Plain p d → AllowsBy l.procs a d → Goes d (entry b c from to)
  plain b c from to None h own may = nothing (entry b c from to) (away (a.phase p) w m b c from to h)
  plain b c from to (Some (Begin q)) h own may = by_deed (Begin q) (entry b c from to) own may tt (λ kept. away _ w m b c from to h)
  plain b c from to (Some (Ready q)) h own may = by_deed (Ready q) (entry b c from to) own may tt (λ kept. away _ w m b c from to h)
  plain b c from to (Some (Quit q)) h own may = by_deed (Quit q) (entry b c from to) own may tt (λ kept. away _ w m b c from to h)
  plain b c from to (Some _) h own may = absurd (own)

  turned : (b c : Bool) (from to : Place) (d : Option Outer) → Turn p from to d → AllowsBy l.procs a d → Post l p (a.phase p) (mail_store w m) b Free from → Goes d (entry b c from to)
  turned b c from to d (Enters y unpassed looked e f g) may h =
      let may' : AllHold (needs l.procs a (Enter p)) = subst (AllowsBy l.procs a) g may in
      subst (λ x. Goes x (entry b c from to)) (sym g) (subst (λ x. Goes (Some (Enter p)) (entry b c x to)) (sym e) (subst (λ x. Goes (Some (Enter p)) (entry b c (Wait y unpassed looked) x)) (sym f) (enters b c y unpassed looked may')))
  turned b c from to d (Reenters call seen e f g) may h =
      let may' : AllHold (needs l.procs a (Reenter p)) = subst (AllowsBy l.procs a) g may in
      subst (λ x. Goes x (entry b c from to)) (sym g) (subst (λ x. Goes (Some (Reenter p)) (entry b c x to)) (sym e) (subst (λ x. Goes (Some (Reenter p)) (entry b c (Reread call seen) x)) (sym f)
      (by_deed (Reenter p) (entry b c (Reread call seen) Inside) refl may' tt (back_in b c call seen))))
  turned b c from to d (Exits e f g) may h =
      let may' : AllHold (needs l.procs a (Leave p)) = subst (AllowsBy l.procs a) g may in
      let known : Post l p (a.phase p) (mail_store w m) b Free Leaving = subst (λ x. Post l p (a.phase p) (mail_store w m) b Free x) e h in
      subst (λ x. Goes x (entry b c from to)) (sym g) (by_deed (Leave p) (entry b c from to) refl may' known.1 (λ kept. away _ w m b c from to f))
  turned b c from to d (Same e f) may h =
      subst (λ x. Goes x (entry b c from to)) (sym f) (nothing (entry b c from to) (subst (λ x. PostAt l p (a.phase p) w m (entry b c from x)) e (stay b c from h)))
  turned b c from to d (Else g e f) may h = plain b c from to d e f may

  pub falls : AllHold (needs l.procs a (Crash p)) → Goes (Some (Crash p)) dead_process
  falls may = by_deed (Crash p) dead_process refl may tt (λ kept. tt)

  -- starts
  starts : (b : Bool) (lock : Place) (call : CoreCall) (to : Place) → place_after_start lock call ≡ Some to → (call ≡ core.Unlock → b ≡ true) → Post l p (a.phase p) (mail_store w m) b Free lock → PostAt l p (a.phase p) w m (entry b false lock to)
  starts b Rest core.Lock to e whole h = let is : Reread core.Lock [] ≡ to = cc in away (a.phase p) w m b false Rest to (subst Elsewhere is tt)
  starts b Rest core.Recover to e whole h = let is : Reread core.Recover [] ≡ to = cc in away (a.phase p) w m b false Rest to (subst Elsewhere is tt)
  starts b Dead core.Lock to e whole h = let is : Reread core.Lock [] ≡ to = cc in away (a.phase p) w m b false Dead to (subst Elsewhere is tt)
  starts b Dead core.Recover to e whole h = let is : Reread core.Recover [] ≡ to = cc in away (a.phase p) w m b false Dead to (subst Elsewhere is tt)
  starts b Inside core.Unlock to e whole h =
      let is : Leaving ≡ to = cc in
      subst (λ x. PostAt l p (a.phase p) w m (entry b false Inside x)) is (h.0, λ z. (h.1 (whole refl)).1)
  starts b (Wait y unpassed looked) core.Withdraw to e whole h = let is : Withdrawing ≡ to = cc in away (a.phase p) w m b false (Wait y unpassed looked) to (subst Elsewhere is tt)
  starts b _ _ to e whole h = absurd (cc)

  by_start : (b : Bool) (lock : Place) (call : CoreCall) (s' : ProcessState) → at_lock l p lock b false (place_after_start lock call) ≡ Some s' → (call ≡ core.Unlock → b ≡ true) → Post l p (a.phase p) (mail_store w m) b Free lock → Goes None s'
  by_start b lock call s' e whole h =
      let r = at_lock_some l p lock b false (place_after_start lock call) s' e in
      subst (Goes None) r.process_state (nothing (entry b false lock r.place) (starts b lock call r.place r.some whole h))

  by_script : (b : Bool) (lock : Place) (fits : Bool) (purpose : Purpose) (e : Script Reply) (s' : ProcessState) → (lock ≡ Inside) × (fits ≡ true) × (begun b purpose e ≡ s') → Post l p (a.phase p) (mail_store w m) b Free lock
      → (fits ≡ true → Shape l p w m → (b ≡ true → Clean w) → Work l p w m b purpose e) → Goes None s'
  by_script b lock fits purpose e s' r h work =
      let known : Post l p (a.phase p) (mail_store w m) b Free Inside = subst (λ x. Post l p (a.phase p) (mail_store w m) b Free x) r.0 h in
      subst (Goes None) r.2 (nothing (begun b purpose e) (refl, known.0, work r.1 (shape_of known.0) known.1))

  pub begins : (lock : Place) (b : Bool) (script_state : ScriptState) (call : Call) (s' : ProcessState) → begun_from l p lock b script_state call ≡ Some s' → Post l p (a.phase p) (mail_store w m) b script_state lock → Goes None s'
  begins lock b Free Lock s' e h = by_start b lock core.Lock s' e (λ x. absurd (cc)) h
  begins lock b Free Recover s' e h = by_start b lock core.Recover s' e (λ x. absurd (cc)) h
  begins lock b Free Withdraw s' e h = by_start b lock core.Withdraw s' e (λ x. absurd (cc)) h
  begins lock true Free Unlock s' e h = by_start true lock core.Unlock s' e (λ _. refl) h
  begins lock false Free Unlock s' e h =
      by_script false lock true Ruining (script l p task.Ruin) s' (inside_some lock false true Ruining _ s' e) h (λ f i c. ruining l p w m layout below i false)
  begins lock false Free Consistent s' e h =
      by_script false lock true Mending (consistent l p) s' (inside_some lock false true Mending _ s' e) h (λ f i c. mending l p w m layout below i)
  begins lock b Free (Append seq value) s' e h =
      by_script b lock (b && (length value == l.width)) (Working (task.Append seq value)) _ s' (inside_some lock b _ _ _ s' e) h (λ f i c. appending l p w m layout below i b seq value f c)
  begins lock b Free Close s' e h =
      by_script b lock b (Working task.Close) _ s' (inside_some lock b b _ _ s' e) h (λ f i c. closing l p w m layout below i b f c)
  begins lock b Free (Get i) s' e h =
      by_script b lock (nat_lt i 4) (Working (task.BoardGet i)) _ s' (inside_some lock b _ _ _ s' e) h (λ f j c. getting l p w m layout below j b i (ltb-true i 4 f) c)
  begins lock b Free (Put i v) s' e h =
      by_script b lock (nat_lt i 4) (Working (task.BoardPut i v)) _ s' (inside_some lock b _ _ _ s' e) h (λ f j c. putting l p w m layout below j b i v (ltb-true i 4 f) c)
  begins lock b _ _ s' e h = absurd (cc)

  -- a step of a script, with the meaning of its answer
  abbrev pub Report : Option Outer → List Deed → Words → ProcessState → ScriptState → ℕ → Type 0
  Report d ds u process_state script_state v = (o : Outcome l (abstract_world a w m) p d ds u process_state) × ScriptStateTells p script_state v o.mail.shown

  pub gets : (b c : Bool) (purpose : Purpose) (j : ℕ) (rest : ℕ → Script Reply) (v : ℕ) (s' : ProcessState) → process_after_script b c purpose (rest v) ≡ s' → w j ≡ v → a.phase p ≡ phase.Inside → Work l p w m b purpose (Asks j rest) → Report None [] w s' (Doing purpose (Asks j rest)) v
  unfolding nothing
  gets b c purpose j rest v s' e read h work =
      let on : Work l p w m b purpose (rest (w j)) = record { m = work.m; old = work.old; safe = work.safe.1; ends = work.ends; mine = work.mine } in
      let now : Work l p w m b purpose (rest v) = subst (λ x. Work l p w m b purpose (rest x)) read on in
      subst (λ x. Report None [] w x (Doing purpose (Asks j rest)) v) e
      (nothing (process_after_script b c purpose (rest v)) (settled_post l p (a.phase p) w m b c purpose (rest v) h now), work_tells l p w m b purpose (rest v) now)

  pub puts : (b c : Bool) (purpose : Purpose) (j x : ℕ) (rest : Script Reply) (s' : ProcessState) → process_after_script b c purpose rest ≡ s' → a.phase p ≡ phase.Inside → Work l p w m b purpose (Writes j x rest)
      → Report None (deeds_of_put l p w j x) (put w j x) s' (Doing purpose (Writes j x rest)) x
  unfolding by_put
  puts b c purpose j x rest s' e h work =
      let g = work.safe.2 in
      let t : Mailbox = g.0 in
      let now : Work l p (put w j x) t b purpose rest = record { m = work.m; old = work.old; safe = g.2; ends = work.ends; mine = work.mine } in
      subst (λ z. Report None (deeds_of_put l p w j x) (put w j x) z (Doing purpose (Writes j x rest)) x) e (
        by_put j x (process_after_script b c purpose rest) t h g.1 (seen l p work.m work.old rest (put w j x) t g.2).0 (settled_post l p (a.phase p) (put w j x) t b c purpose rest h now),
        work_tells l p (put w j x) t b purpose rest now,
      )

  -- a step of the lock
  pub locks : (limit : ℕ) (lock : Place) (b c : Bool) (kind : Kind) (word : Word) (v : ℕ) (s' : ProcessState) → at_lock l p lock b c (next l.procs limit p lock kind word v) ≡ Some s' → AllowsBy l.procs a (step_deed p lock kind v)
      → Post l p (a.phase p) (mail_store w m) b Free lock → Goes (step_deed p lock kind v) s'
  locks limit lock b c kind word v s' e may h =
      let r = at_lock_some l p lock b c (next l.procs limit p lock kind word v) s' e in
      subst (Goes (step_deed p lock kind v)) r.process_state (turned b c lock r.place (step_deed p lock kind v) (turn l.procs limit p lock kind word v r.place r.some) may h)
