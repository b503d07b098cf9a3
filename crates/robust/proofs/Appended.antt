-- At which point of a whole mailbox call its append was answered, and what that shows: after Stored or Already the message
-- is shown; what another reply says of the mailbox held at that point.
use Rattle.std.proofs.Common.{◌≡◌, ℕ, ◌==◌, Bool, true, false, if◌then◌else◌, List, [], ◌∷◌, ◌++◌, Option, Some, None, Result, Ok, Err, IfOk, OnOk, All, refl, sym, ap, ◌∙◌, subst, inl, inr, append_assoc, eqb-true, ◌⊎◌}
use Rattle.robust.proofs.Common.{All-nil, All-cons, All-head, All-tail, Place, Message, Reply, Stored, Already, Mended, Task, IsLayout, IsAmong, message, Answer, Mail, Unlocked, Call, Append, Lock}
use Rattle.robust.proofs.Common.{Unlock, Consistent, answer_at, is_idle_by, mail_after, ReplyTells, RepliesTell, WorldEvent, ScriptState, Free, Doing, ProcessState, Moves, at_rest, GlobalState, at_first, last_global_state}
use Rattle.robust.proofs.Common.{Execution, TakenStep, Entry as Entering, LockFault, Setup, process_state_before, AreMoves, ServedAll, refusal_now, free_to_start, answer_of, shown_by, judged_by, process_state_at, StepEndsAppend}
use Rattle.robust.proofs.Common.{EveryRunIsSound, IsSeatView, process_state_now, Seated, began, before, events_of_run, entries_of, IsRun, process_state_past, process_state_of, ReportedIn, Appends, Askings, WholeEnds, calls_inside, answers_inside, gone-append}
use Rattle.robust.proofs.Common.{own-append, spelled-append, global_state-append, shown_on, OfStart}
use Rattle.table_runs.proofs.Headline.{global_state_at, process_state_is, spelled_to}
use Rattle.table_runs.proofs.Running.{process_state_begun, taken_moves}
use Rattle.rmecore.specs.Paid.{is_glance}
use Rattle.rmecore.specs.declared.refusal.Refusal.{Refusal}
use Rattle.redomail.specs.declared.task.Task.TheVariants as task
use Rattle.table_runs.specs.declared.entry_kind.Entry.TheVariants as entering
use Rattle.robust.proofs.Working.{kept_ready}
use Rattle.robust.proofs.ScriptStates.{none_in, Only, Brings, each_start, only_begun, Answering, find, IsTasks, task_mails}

-- an entry of a process, with the entries before it and after it
pub record Own (p : ℕ) (es front : List TakenStep) (e : TakenStep) : Type 0 where
  pub earlier : List TakenStep
  pub later : List TakenStep
  pub is : es ≡ earlier ++ e ∷ later
  pub own_are : entries_of p earlier ≡ front
  pub by : e.by ≡ p

pub own_taken : (p : ℕ) (x : TakenStep) (xs : List TakenStep) → (x.by == p) ≡ true → entries_of p (x ∷ xs) ≡ x ∷ entries_of p xs
own_taken p x xs is = rw is refl

pub own_passed : (p : ℕ) (x : TakenStep) (xs : List TakenStep) → (x.by == p) ≡ false → entries_of p (x ∷ xs) ≡ entries_of p xs
own_passed p x xs is = rw is refl

pub own_split : (p : ℕ) (es front : List TakenStep) (e : TakenStep) (back : List TakenStep) → entries_of p es ≡ front ++ e ∷ back → Own p es front e
own_split p [] front e back h = absurd (none_in e front back h)
own_split p (x ∷ xs) front e back h = go (x.by == p) refl front h (λ rest k. own_split p xs rest e back k)
  where
    go : (b : Bool) → (x.by == p) ≡ b → (fs : List TakenStep) → entries_of p (x ∷ xs) ≡ fs ++ e ∷ back → ((rest : List TakenStep) → entries_of p xs ≡ rest ++ e ∷ back → Own p xs rest e) → Own p (x ∷ xs) fs e
    go true is [] k later =
        let there = own_taken p x xs is in
        let all : x ∷ entries_of p xs ≡ e ∷ back = sym there ∙ k in
        let same : x ≡ e = cc in
        record { earlier = []; later = xs; is = ap (λ (y : TakenStep). y ∷ xs) same; own_are = refl; by = ap (λ (y : TakenStep). y.by) (sym same) ∙ eqb-true x.by p is }
    go true is (g ∷ gs) k later =
        let there = own_taken p x xs is in
        let all : x ∷ entries_of p xs ≡ g ∷ (gs ++ e ∷ back) = sym there ∙ k in
        let same : x ≡ g = cc in
        let o = later gs (let rest : entries_of p xs ≡ gs ++ e ∷ back = cc in rest) in
        let mine = own_taken p x o.earlier is in
        record { earlier = x ∷ o.earlier; later = o.later; is = ap (λ (l : List TakenStep). x ∷ l) o.is; own_are = mine ∙ (λ i. same i ∷ o.own_are i); by = o.by }
    go false is fs k later =
        let there = own_passed p x xs is in
        let o = later fs (sym there ∙ k) in
        let mine = own_passed p x o.earlier is in
        record { earlier = x ∷ o.earlier; later = o.later; is = ap (λ (l : List TakenStep). x ∷ l) o.is; own_are = mine ∙ o.own_are; by = o.by }

pub all_at : {A : Type 0} (P : A → Type 0) (xs : List A) (x : A) (ys : List A) → All P (xs ++ x ∷ ys) → P x
all_at P [] x ys h = All-head P x ys h
all_at P (y ∷ xs) x ys h = all_at P xs x ys (All-tail P y (xs ++ x ∷ ys) h)

pub among_more : (p seq : ℕ) (xs more : List Message) → IsAmong p seq xs → IsAmong p seq (xs ++ more)
among_more p seq xs more h = record {
  before = h.before;
  value = h.value;
  later = h.later ++ more;
  found = ap (λ (l : List Message). l ++ more) h.found ∙ append_assoc h.before (message p seq h.value ∷ h.later) more;
}

-- the step that ended the append with this number, among the entries that y's view has and z's has not
pub record Ended (z y : Seated) (seq : ℕ) (r : Reply) : Type 0 where
  pub earlier : List TakenStep
  pub entry : TakenStep
  pub later : List TakenStep
  pub seen : y.seat_view.seen ≡ ((z.seat_view.seen ++ earlier) ++ entry ∷ []) ++ later
  pub by : entry.by ≡ z.seat_view.by
  pub ends : StepEndsAppend z.seat_view.setup (z.seat_view.seen ++ earlier) entry seq r
  pub setup : y.seat_view.setup ≡ z.seat_view.setup
  pub run : IsRun z.seat_view.setup y.seat_view.seen

-- calls in a row, of which only the append with this number does a task, and one of whose answers is its reply
module _ (z y : Seated) (c d : Call) (order : List Call) (answers reports rest : List Answer) (blocked seq : ℕ) (value : List ℕ) (r : Reply) where
  abbrev t : Task
  t = task.Append seq value

  pub append_ended : (mine : List TakenStep) → ServedAll z (c ∷ d ∷ order) answers blocked y mine → z.seat_view.start ≡ Some c → Only t (process_state_now z.seat_view).script_state → All (Brings t) (c ∷ d ∷ order) → answers ≡ reports ++ Mail r ∷ rest → IsTasks r → Ended z y seq r
  append_ended [] served start only brings is its = absurd (let k : [] ≡ c ∷ d ∷ order = served.started in cc)
  append_ended (e ∷ es) served start only brings is its =
      let s = z.seat_view.setup in
      let p = z.seat_view.by in
      let here = process_state_of s p z.seat_view.seen in
      let calls = served.calls in
      let started : e.step.start ≡ z.seat_view.start = served.first ∙ sym start in
      let by = (own_split p calls.since [] e es calls.mine_are).by in
      let at : process_state_before s here e ≡ process_state_now z.seat_view = ap (λ (u : Bool × Option Call × ℕ). process_state_past s here (before u.0 u.1 u.2)) (λ i. (served.crash.0 i, started i, by i)) in
      let fine = each_start (Brings t) (e ∷ es) (subst (All (Brings t)) (sym served.started) brings) in
      let found : Answering t s here (e ∷ es) (Mail r) = find t s here e es (Mail r) reports rest (All-tail (λ (f : TakenStep). OfStart (Brings t) f.step.start) e es fine) (subst (λ (u : ProcessState). Only t u.script_state) (sym at) only) (served.answered ∙ is) in
      let f = found.entry in
      let o : Own p calls.since found.front f = own_split p calls.since found.front f found.back (calls.mine_are ∙ found.is) in
      let front : List TakenStep = z.seat_view.seen ++ o.earlier in
      let mine : entries_of p front ≡ entries_of p z.seat_view.seen ++ found.front = own-append p z.seat_view.seen o.earlier ∙ ap (λ (l : List TakenStep). entries_of p z.seat_view.seen ++ l) o.own_are in
      let there : process_state_of s f.by front ≡ process_state_past s here (events_of_run found.front) =
      ap (λ (q : ℕ). process_state_of s q front) o.by ∙ ap (λ (l : List TakenStep). process_state_past s at_rest (events_of_run l)) mine ∙ ap (process_state_past s at_rest) (spelled-append (entries_of p z.seat_view.seen) found.front) ∙ gone-append s at_rest (events_of_run (entries_of p z.seat_view.seen)) (events_of_run found.front) in
      let process_state : process_state_at s front f ≡ process_state_before s (process_state_past s here (events_of_run found.front)) f = ap (λ (u : ProcessState). process_state_before s u f) there in
      let work = task_mails t _ _ _ _ f.step.kind f.value r found.only its found.answer in
      let move = all_at (λ (g : TakenStep). is_glance g.step.kind ≡ false) found.front f found.back (subst AreMoves found.is served.moves) in
      let whole : y.seat_view.seen ≡ (front ++ f ∷ []) ++ o.later =
      calls.seen ∙ ap (λ (l : List TakenStep). z.seat_view.seen ++ l) o.is ∙ sym (append_assoc z.seat_view.seen o.earlier (f ∷ o.later)) ∙ sym (append_assoc front (f ∷ []) o.later) in
      record {
        earlier = o.earlier;
        entry = f;
        later = o.later;
        seen = whole;
        by = o.by;
        ends = record { value = value; left = work.0; step = move; append = ap (λ (u : ProcessState). u.script_state) process_state ∙ work.1; answer = ap (λ (u : ProcessState). answer_at u f.step.kind f.value) process_state ∙ found.answer };
        setup = calls.setup;
        run = subst (λ (u : Setup). IsRun u y.seat_view.seen) calls.setup calls.run;
      }

-- a message whose append was answered Stored or Already is shown from then on
stored_shown : (z y : Seated) (seq : ℕ) (r : Reply) → Ended z y seq r → IsLayout z.seat_view.setup.layout → EveryRunIsSound → (r ≡ Stored) ⊎ (r ≡ Already) → IsAmong z.seat_view.by seq (shown_by y.seat_view.setup y.seat_view.seen)
stored_shown z y seq r h layout every stored =
    let s = z.seat_view.setup in
    let front = z.seat_view.seen ++ h.earlier in
    let f = h.entry in
    let reports : IsAmong f.by seq (shown_by s (front ++ f ∷ [])) = (every s y.seat_view.seen layout h.run).answered front f h.later seq r h.seen h.ends stored in
    let grown = shown_on s (front ++ f ∷ []) h.later in
    let among : IsAmong f.by seq (shown_by s ((front ++ f ∷ []) ++ h.later)) = subst (IsAmong f.by seq) (sym grown.1) (among_more f.by seq (shown_by s (front ++ f ∷ [])) grown.0 reports) in
    subst (λ (u : ℕ × Setup × List TakenStep). IsAmong u.0 seq (shown_by u.1 u.2)) (λ i. (h.by i, sym h.setup i, sym h.seen i)) among

-- what a reply of an append says of the mailbox holds at its point of the run
reply_reported : (s : Setup) (es front : List TakenStep) (e : TakenStep) (back : List TakenStep) (seq : ℕ) (r : Reply) → IsLayout s.layout → IsRun s es → RepliesTell → es ≡ (front ++ e ∷ []) ++ back → StepEndsAppend s front e seq r → ReplyTells s.layout e.by seq r (judged_by s (front ++ e ∷ [])).mail
reply_reported s es front e back seq r layout run tell split ends =
    let l = s.layout in
    let hs = events_of_run front ++ before e.step.crashed e.step.start e.by in
    let h = Moves e.by e.step.kind e.step.word e.value in
    let to : events_of_run (front ++ e ∷ []) ≡ hs ++ h ∷ [] = spelled_to s front e ∙ ap (λ (x : WorldEvent). hs ++ x ∷ []) (taken_moves e.by e.step.kind e.step.word e.value ends.step) in
    let whole : events_of_run es ≡ hs ++ h ∷ events_of_run back = ap events_of_run split ∙ spelled-append (front ++ e ∷ []) back ∙ ap (λ (xs : List WorldEvent). xs ++ events_of_run back) to ∙ append_assoc hs (h ∷ []) (events_of_run back) in
    let here : last_global_state l s.limit at_first hs ≡ global_state_at s front e = global_state-append l s.limit at_first (events_of_run front) (before e.step.crashed e.step.start e.by) in
    let process_state : (last_global_state l s.limit at_first hs).process_states e.by ≡ process_state_at s front e = ap (λ (w : GlobalState). w.process_states e.by) here ∙ process_state_is s front e in
    let reports = tell l s.limit hs e.by e.step.kind e.step.word e.value (events_of_run back) seq r layout (subst (Execution l s.limit at_first) whole run)
    (record { value = ends.value; left = ends.left; append = ap (λ (u : ProcessState). u.script_state) process_state ∙ ends.append; answer = ap (λ (u : ProcessState). answer_at u e.step.kind e.value) process_state ∙ ends.answer }) in
    subst (λ (xs : List WorldEvent). ReplyTells l e.by seq r (mail_after l s.limit xs)) (sym to) reports

ended_reported : (z y : Seated) (seq : ℕ) (r : Reply) → Ended z y seq r → IsLayout z.seat_view.setup.layout → RepliesTell → ReportedIn z seq r y
ended_reported z y seq r h layout tell =
    let s = z.seat_view.setup in
    let all : (z.seat_view.seen ++ h.earlier) ++ h.entry ∷ [] ≡ z.seat_view.seen ++ (h.earlier ++ h.entry ∷ []) = append_assoc z.seat_view.seen h.earlier (h.entry ∷ []) in
    let reports : ReplyTells s.layout h.entry.by seq r (judged_by s ((z.seat_view.seen ++ h.earlier) ++ h.entry ∷ [])).mail = reply_reported s y.seat_view.seen (z.seat_view.seen ++ h.earlier) h.entry h.later seq r layout h.run tell h.seen h.ends in
    record {
      since = h.earlier ++ h.entry ∷ [];
      later = h.later;
      seen = h.seen ∙ ap (λ (es : List TakenStep). es ++ h.later) all;
      tells = subst (λ (u : ℕ × List TakenStep). ReplyTells s.layout u.0 seq r (judged_by s u.1).mail) (λ i. (h.by i, all i)) reports;
    }

-- a call that starts from outside the section has no task under way
idle_only : (t : Task) (s : Place) (e : ScriptState) (o : Option Refusal) (purpose : Refusal) → (if is_idle_by s e then o else Some purpose) ≡ None → Only t e
idle_only t s Free o purpose h = tt
idle_only t s (Doing w left) o purpose h = absurd (cc)

outset_only : (t : Task) (x : Seated) → x.seat_view.start ≡ None → refusal_now x Lock ≡ None → Only t (process_state_now (began x Lock).seat_view).script_state
outset_only t x none may =
    let process_state = process_state_now x.seat_view in
    let idle = idle_only t process_state.lock process_state.script_state _ _ may in
    subst (λ (u : ProcessState). Only t u.script_state) (sym (process_state_begun x.seat_view Lock none)) (only_begun t x.seat_view.setup.layout x.seat_view.by process_state.lock process_state.mended process_state.script_state Lock process_state tt idle)

brings_all : (entry : Entering) (seq : ℕ) (value : List ℕ) → All (Brings (task.Append seq value)) (Lock ∷ calls_inside entry (Append seq value))
brings_all entering.Clean seq value =
    let P = Brings (task.Append seq value) in
    All-cons P Lock (Append seq value ∷ Unlock ∷ []) tt (All-cons P (Append seq value) (Unlock ∷ []) refl (All-cons P Unlock [] tt (All-nil P)))
brings_all entering.OwnerDied seq value =
    let P = Brings (task.Append seq value) in
    All-cons P Lock (Consistent ∷ Append seq value ∷ Unlock ∷ []) tt (All-cons P Consistent (Append seq value ∷ Unlock ∷ []) tt (All-cons P (Append seq value) (Unlock ∷ []) refl (All-cons P Unlock [] tt (All-nil P))))

module _ (x y : Seated) (turns seq : ℕ) (value : List ℕ) (r : Reply) (a b : Askings) (none : x.seat_view.start ≡ None) (may : refusal_now (free_to_start x) Lock ≡ None) (its : IsTasks r) where
  abbrev z : Seated
  z = began (free_to_start x) Lock

  outset : Only (task.Append seq value) (process_state_now z.seat_view).script_state
  outset = outset_only (task.Append seq value) (free_to_start x) (kept_ready (λ (u : Seated). u.seat_view.start) x (sym none) ∙ none) may

  inside_ended : (entry : Entering) (mended : Bool) (order : List Call) (answers : List Answer) (blocked : ℕ) (mine : List TakenStep) → order ≡ Lock ∷ calls_inside entry (Append seq value) → answers ≡ answer_of entry ∷ answers_inside entry mended r
      → ServedAll z order answers blocked y mine → Ended z y seq r
  inside_ended entering.Clean mended order answers blocked mine is reports h =
      append_ended z y Lock (Append seq value) (Unlock ∷ []) answers (answer_of entering.Clean ∷ []) (Unlocked ∷ []) blocked seq value r mine (subst (λ (l : List Call). ServedAll z l answers blocked y mine) is h) refl outset (brings_all entering.Clean seq value) reports its
  inside_ended entering.OwnerDied mended order answers blocked mine is reports h =
      append_ended z y Lock Consistent (Append seq value ∷ Unlock ∷ []) answers (answer_of entering.OwnerDied ∷ Mail (Mended mended) ∷ []) (Unlocked ∷ []) blocked seq value r mine (subst (λ (l : List Call). ServedAll z l answers blocked y mine) is h) refl outset
      (brings_all entering.OwnerDied seq value) reports its

  pub ended_append : WholeEnds z turns (Append seq value) (Ok r) y a b → Ended z y seq r
  ended_append h = inside_ended h.3.1 h.3.2 h.0 h.1 h.2 h.4.0 h.3.3 h.3.4 h.4.1

begun_layout : (x : Seated) → IsSeatView x.seat_view → IsLayout (began (free_to_start x) Lock).seat_view.setup.layout
begun_layout x seat_view = subst (λ (s : Setup). IsLayout s.layout) (sym (kept_ready (λ (u : Seated). u.seat_view.setup) x refl)) seat_view.size.layout

stored_its : (r : Reply) → (r ≡ Stored) ⊎ (r ≡ Already) → IsTasks r
stored_its r (inl e) = subst IsTasks (sym e) tt
stored_its r (inr e) = subst IsTasks (sym e) tt

appends_its : (seq : ℕ) (r : Reply) → Appends seq r → IsTasks r
appends_its seq (Mended repaired) h = h
appends_its seq _ h = tt

-- an append, however often it was blocked
pub append_shown : (x y : Seated) (seq : ℕ) (value : List ℕ) (result : Result Reply LockFault) (a b : Askings) → x.seat_view.start ≡ None → IsSeatView x.seat_view → EveryRunIsSound → OnOk result (refusal_now (free_to_start x) Lock ≡ None)
    → IfOk result (λ (r : Reply). (turns : ℕ) × WholeEnds (began (free_to_start x) Lock) turns (Append seq value) (Ok r) y a b) → IfOk result (λ (r : Reply). (r ≡ Stored) ⊎ (r ≡ Already) → IsAmong x.seat_view.by seq (shown_by y.seat_view.setup y.seat_view.seen))
append_shown x y seq value (Ok r) a b none seat_view every may h = λ stored.
    let ended = ended_append x y h.0 seq value r a b none may (stored_its r stored) h.1 in
    let among = stored_shown (began (free_to_start x) Lock) y seq r ended (begun_layout x seat_view) every stored in
    subst (λ (p : ℕ). IsAmong p seq (shown_by y.seat_view.setup y.seat_view.seen)) (kept_ready (λ (u : Seated). u.seat_view.by) x refl) among
append_shown x y seq value (Err e) a b none seat_view every may h = tt

reported_began : (x y : Seated) (seq : ℕ) (r : Reply) → ReportedIn (began (free_to_start x) Lock) seq r y → ReportedIn x seq r y
reported_began x y seq r h =
    let setup = kept_ready (λ (u : Seated). u.seat_view.setup) x refl in
    let by = kept_ready (λ (u : Seated). u.seat_view.by) x refl in
    let seen = kept_ready (λ (u : Seated). u.seat_view.seen) x refl in
    record {
      since = h.since;
      later = h.later;
      seen = h.seen ∙ ap (λ (es : List TakenStep). (es ++ h.since) ++ h.later) seen;
      tells = subst (λ (u : Setup × ℕ × List TakenStep). ReplyTells u.0.layout u.1 seq r (judged_by u.0 (u.2 ++ h.since)).mail) (λ i. (setup i, by i, seen i)) h.tells;
    }

pub append_tells : (x y : Seated) (seq : ℕ) (value : List ℕ) (result : Result Reply LockFault) (a b : Askings) → x.seat_view.start ≡ None → IsSeatView x.seat_view → RepliesTell → OnOk result (refusal_now (free_to_start x) Lock ≡ None) → IfOk result (Appends seq)
    → IfOk result (λ (r : Reply). (turns : ℕ) × WholeEnds (began (free_to_start x) Lock) turns (Append seq value) (Ok r) y a b) → IfOk result (λ (r : Reply). ReportedIn x seq r y)
append_tells x y seq value (Ok r) a b none seat_view tell may its h =
    reported_began x y seq r (ended_reported (began (free_to_start x) Lock) y seq r (ended_append x y h.0 seq value r a b none may (appends_its seq r its) h.1) (begun_layout x seat_view) tell)
append_tells x y seq value (Err e) a b none seat_view tell may its h = tt
