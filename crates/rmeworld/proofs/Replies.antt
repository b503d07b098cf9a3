-- What an append's reply says of the mailbox at that step. What was stored stays shown.
use Rattle.std.proofs.Common.{◌≡◌, ℕ, zero, suc, ◌+◌, ◌-◌, ◌<◌, ◌≤◌, Bool, true, false, ◌&&◌, ◌==◌, List, [], ◌∷◌, ◌++◌, Some, All, Contains, refl, sym, ap, ◌∙◌, subst, inl, inr, arith, eqb-true, eq-eqb, append_assoc}
use Rattle.rmeworld.proofs.Common.{and_parts, All-nil, Contains-append_right, All-push, All-contains, Contains-append_left, Contains-push, Kind, Gets, Puts, Word, Data as DataAt, Abstract, nobody}
use Rattle.rmeworld.proofs.Common.{put, Place, all_done, is_store, Deed, Layout, Message, Reply, Stored, OutOfOrder, Full, Closed, Task, deeds_of_put, Words, IsLayout, place_at, MailLeads, Mailbox}
use Rattle.rmeworld.proofs.Common.{message, IsAmong, Safe, Script, Get as Asks, Put as Writes, Done, tail, entry, entries, IsNumbered, count_of, all_after, empty_state, State, after, state_led, Mail}
use Rattle.rmeworld.proofs.Common.{Working, answer_at, answer_by, by_script, mail_after, ReplyTells, RepliesTell, StoredIsShown, outer_by, ScriptState, Doing, ProcessState, WorldEvent, Moves, process_after_script, moved_by}
use Rattle.rmeworld.proofs.Common.{next_process_state, reading, event_deeds, GlobalState, at_first, Execution, state_after_event, last_global_state, outer_deeds, mail_deeds, deeds}
use Rattle.redomail.proofs.Changes.{count_of-push}
use Rattle.redomail.specs.declared.deed.Deed.TheVariants as deed
use Rattle.redomail.specs.declared.task.Task.TheVariants as task
use Rattle.rmeworld.proofs.WorldEvents.{judge_of}
use Rattle.rmeworld.proofs.Holders.{execution_comes, execution_front, execution_back}
use Rattle.rmeworld.proofs.Knowing.{mail_store, Post}
use Rattle.rmeworld.proofs.Projection.{outers, only_some, some_of}
use Rattle.rmeworld.proofs.Reaching.{all_after-append}
use Rattle.rmeworld.proofs.ExecutionGrows.{deeds_more}

pub deeds-append : (l : Layout) (limit : ℕ) (w : GlobalState) (xs ys : List WorldEvent) → deeds l limit w (xs ++ ys) ≡ deeds l limit w xs ++ deeds l limit (last_global_state l limit w xs) ys
deeds-append l limit w [] ys = refl
deeds-append l limit w (x ∷ xs) ys =
    ap (λ (ds : List Deed). event_deeds l w x ++ ds) (deeds-append l limit (state_after_event l limit w x) xs ys) ∙ sym (append_assoc (event_deeds l w x) (deeds l limit (state_after_event l limit w x) xs) (deeds l limit (last_global_state l limit (state_after_event l limit w x) xs) ys))

-- numbered entries have no number of p beyond their count
numbers_within : (l : Layout) (w : Words) (p most k : ℕ) → IsNumbered l w k → count_of p (entries l w k) ≤ most → All (λ (m : Message). m.sender ≡ p → m.seq ≤ most) (entries l w k)
numbers_within l w p most zero h few = All-nil (λ (m : Message). m.sender ≡ p → m.seq ≤ most)
numbers_within l w p most (suc k) h few =
    let Q : Message → Type 0 = λ m. m.sender ≡ p → m.seq ≤ most in
    let push = count_of-push p (entries l w k) (entry l w k) in
    All-push Q (entries l w k) (entry l w k) (numbers_within l w p most k (λ a lt. h a (omega arith)) (omega (arith, push))) (λ mine.
    let is : (w (place_at l k) == p) ≡ true = eq-eqb (w (place_at l k)) p mine in
    let one : count_of p (entries l w k ++ entry l w k ∷ []) ≡ count_of p (entries l w k) + 1 = push ∙ (rw is refl) in
    let number : w (place_at l k + 1) ≡ count_of p (entries l w k) + 1 = (h k (omega arith)).1 ∙ ap (λ q. count_of q (entries l w k) + 1) mine in
    omega arith)

none_beyond : (l : Layout) (w : Words) (p seq : ℕ) (shown : List Message) → shown ≡ entries l w (w 2) → IsNumbered l w (w 2) → count_of p shown < seq → IsAmong p seq shown → ⊥
none_beyond l w p seq shown is numbered beyond among =
    let Q : Message → Type 0 = λ m. m.sender ≡ p → m.seq ≤ count_of p shown in
    let all : All Q (entries l w (w 2)) = numbers_within l w p (count_of p shown) (w 2) numbered (let e = ap (count_of p) is in omega (arith, e)) in
    let m : Message = message p seq among.value in
    let found : All Q (among.before ++ m ∷ among.later) = subst (All Q) (sym is ∙ among.found) all in
    let within : seq ≤ count_of p shown = All-contains Q (among.before ++ m ∷ among.later) m found (Contains-append_right among.before (m ∷ among.later) m (0, omega arith, refl)) refl in
    omega arith

reply_tells : (l : Layout) (p seq : ℕ) (value : List ℕ) (m : Message) (old : Mailbox) (reply : Reply) (w : Words) (now : Mailbox) → message p seq value ≡ m → Safe l p m old (Done reply) w now → ReplyTells l p seq reply now
reply_tells l p seq value m old Full w now mine h =
    let shape = h.0.0 in
    let same : seq ≡ m.seq = ap (λ (x : Message). x.seq) mine in
    (h.1.3, none_beyond l w p seq now.shown shape.shown (shape.listed h.2).numbered (let next = h.1.1 in omega arith))
reply_tells l p seq value m old Closed w now mine h =
    let shape = h.0.0 in
    let same : seq ≡ m.seq = ap (λ (x : Message). x.seq) mine in
    (h.1.2, none_beyond l w p seq now.shown shape.shown (shape.listed h.2).numbered (let next = h.1.1 in omega arith))
reply_tells l p seq value m old OutOfOrder w now mine h =
    let shape = h.0.0 in
    let same : seq ≡ m.seq = ap (λ (x : Message). x.seq) mine in
    elim h.1.1 [
      | inl none ↦ inl (same ∙ none)
      | inr late ↦ inr (none_beyond l w p (seq - 1) now.shown shape.shown (shape.listed h.2).numbered (omega arith))
    ]
reply_tells l p seq value m old _ w now mine h = tt

-- the rest of a script that answers so
pub answers : (t : Task) (b : Bool) (left : Script Reply) (reply : Reply) → by_script (Working t) b left ≡ Some (Mail reply) → left ≡ Done reply
answers t b (Done a) reply e = let is : a ≡ reply = cc in ap Done is
answers t b (Asks i rest) reply e = absurd (cc)
answers t b (Writes i v rest) reply e = absurd (cc)

mail_led : (cap : ℕ) (s : State) (ds : List Deed) (t : Mailbox) → MailLeads cap s.mail ds t → (all_after s ds).mail ≡ t
mail_led cap s [] t h = h
mail_led cap s (d ∷ ds) t h = mail_led cap (after s d) ds t h.1

-- the end of an append with this reply: if every mailbox that is safe with it has T, the mailbox has T
module _ (l : Layout) (limit p seq : ℕ) (value : List ℕ) (reply : Reply) (T : Mailbox → Type 0) (reports : (m : Message) (old : Mailbox) (w : Words) (now : Mailbox) → message p seq value ≡ m → Safe l p m old (Done reply) w now → T now) where
  last_step : (w : GlobalState) (a : Abstract) (m : Mailbox) (lock : Place) (b c : Bool) (left : Script Reply) (kind : Kind) (word : Word) (v : ℕ) (s' : ProcessState) → moved_by l limit p lock b c (Doing (Working (task.Append seq value)) left) kind word v ≡ Some s'
      → (is_store kind ≡ false → reading w word ≡ v) → Post l p (a.phase p) (mail_store w.cells m) b (Doing (Working (task.Append seq value)) left) lock → tail left v ≡ Done reply
      → T (all_after (judge_of l a m) (mail_deeds l w.cells (Moves p kind word v))).mail
  last_step w a m lock b c (Asks j rest) Gets (DataAt i) v s' e reads post done =
      let work = post.2 in
      let r = only_some (i == j) (process_after_script b c (Working (task.Append seq value)) (rest v)) s' e in
      let read : w.cells j ≡ v = ap w.cells (sym (eqb-true i j r.0)) ∙ reads refl in
      reports work.m work.old w.cells m work.mine (subst (λ x. Safe l p work.m work.old x w.cells m) (ap rest read ∙ done) work.safe.1)
  last_step w a m lock b c (Writes j x rest) Puts (DataAt i) v s' e reads post done =
      let work = post.2 in
      let r = only_some ((i == j) && (v == x)) (process_after_script b c (Working (task.Append seq value)) rest) s' e in
      let both = and_parts (i == j) (v == x) r.0 in
      let g = work.safe.2 in
      let safe : Safe l p work.m work.old (Done reply) (put w.cells j x) g.0 = subst (λ y. Safe l p work.m work.old y (put w.cells j x) g.0) done g.2 in
      let there : T (all_after (judge_of l a m) (deeds_of_put l p w.cells j x)).mail =
      subst T (sym (mail_led l.cap (judge_of l a m) (deeds_of_put l p w.cells j x) g.0 g.1)) (reports work.m work.old (put w.cells j x) g.0 work.mine safe) in
      let P : ℕ → ℕ → Type 0 = λ i' v'. T (all_after (judge_of l a m) (deeds_of_put l p w.cells i' v')).mail in
      subst (λ i'. P i' v) (sym (eqb-true i j both.0)) (subst (P j) (sym (eqb-true v x both.1)) there)
  last_step w a m lock b c _ _ _ v s' e reads post done = absurd (cc)

  -- and so in any process state with such a job
  ends : (w : GlobalState) (a : Abstract) (m : Mailbox) (lock : Place) (b c : Bool) (script_state : ScriptState) (left : Script Reply) (kind : Kind) (word : Word) (v : ℕ) (s' : ProcessState) → script_state ≡ Doing (Working (task.Append seq value)) left
      → moved_by l limit p lock b c script_state kind word v ≡ Some s' → (is_store kind ≡ false → reading w word ≡ v) → Post l p (a.phase p) (mail_store w.cells m) b script_state lock → answer_by lock b c script_state kind v ≡ Some (Mail reply)
      → T (all_after (judge_of l a m) (outer_deeds (outer_by p lock script_state kind v) ++ mail_deeds l w.cells (Moves p kind word v))).mail
  ends w a m lock b c script_state left kind word v s' is e reads post answer =
      let P : ScriptState → Type 0 = λ x. moved_by l limit p lock b c x kind word v ≡ Some s' → Post l p (a.phase p) (mail_store w.cells m) b x lock → answer_by lock b c x kind v ≡ Some (Mail reply)
      → T (all_after (judge_of l a m) (outer_deeds (outer_by p lock x kind v) ++ mail_deeds l w.cells (Moves p kind word v))).mail in
      let here : P (Doing (Working (task.Append seq value)) left) = λ e2 post2 answer2. last_step w a m lock b c left kind word v s' e2 reads post2 (answers (task.Append seq value) b (tail left v) reply answer2) in
      subst P (sym is) here e post answer

  at_end : (front : List WorldEvent) (kind : Kind) (word : Word) (v : ℕ) (back : List WorldEvent) (left : Script Reply) → IsLayout l → Execution l limit at_first (front ++ Moves p kind word v ∷ back)
      → ((last_global_state l limit at_first front).process_states p).script_state ≡ Doing (Working (task.Append seq value)) left → answer_at ((last_global_state l limit at_first front).process_states p) kind v ≡ Some (Mail reply) → T (mail_after l limit (front ++ Moves p kind word v ∷ []))
  at_end front kind word v back left layout execution append answer =
      let e : WorldEvent = Moves p kind word v in
      let s : State = empty_state l.procs l.cap in
      let w : GlobalState = last_global_state l limit at_first front in
      let x : ProcessState = w.process_states p in
      let a : Abstract = all_done nobody (outers l limit at_first front) in
      let there = (execution_comes l limit front layout (execution_front l limit at_first front (e ∷ back) execution)).1 in
      let can = (execution_back l limit at_first front (e ∷ back) execution).0 in
      let next = some_of l limit (next_process_state l limit x e) x can.1 in
      let is : judge_of l a there.0.mail ≡ all_after s (deeds l limit at_first front) = state_led s (judge_of l a there.0.mail) (deeds l limit at_first front) there.1 in
      let more : (all_after (judge_of l a there.0.mail) (event_deeds l w e)).mail ≡ mail_after l limit (front ++ e ∷ []) =
      ap (λ (u : State). (all_after u (event_deeds l w e)).mail) is
      ∙ sym (ap (λ (u : State). u.mail) (all_after-append s (deeds l limit at_first front) (event_deeds l w e)))
      ∙ sym (ap (λ (ds : List Deed). (all_after s ds).mail) (deeds_more l limit at_first front e)) in
      subst T more (ends w a there.0.mail x.lock x.mended x.barred x.script_state left kind word v next.0 append next.1 can.2 (there.0.posts p can.0) answer)

pub replies_tell : RepliesTell
replies_tell l limit front p kind word v back seq reply layout execution h =
    at_end l limit p seq h.value reply (ReplyTells l p seq reply) (λ m old w now mine safe. reply_tells l p seq h.value m old reply w now mine safe) front kind word v back h.left layout execution h.append h.answer

-- a message that is shown stays shown
stays_shown : (s : State) (ds : List Deed) (m : Message) → Contains s.mail.shown m → Contains (all_after s ds).mail.shown m
stays_shown s [] m h = h
stays_shown s (deed.Outer d ∷ ds) m h = stays_shown (after s (deed.Outer d)) ds m h
stays_shown s (deed.Commit q n w ∷ ds) m h = stays_shown (after s (deed.Commit q n w)) ds m h
stays_shown s (deed.Show q at n w ∷ ds) m h = stays_shown (after s (deed.Show q at n w)) ds m (Contains-append_left s.mail.shown (message q n w ∷ []) m h)
stays_shown s (deed.Close q ∷ ds) m h = stays_shown (after s (deed.Close q)) ds m h
stays_shown s (deed.Ruin q ∷ ds) m h = stays_shown (after s (deed.Ruin q)) ds m h

shown_on : (l : Layout) (limit : ℕ) (front back : List WorldEvent) (m : Message) → Contains (mail_after l limit front).shown m → Contains (mail_after l limit (front ++ back)).shown m
shown_on l limit front back m h =
    let s : State = empty_state l.procs l.cap in
    let rest : List Deed = deeds l limit (last_global_state l limit at_first front) back in
    let is : mail_after l limit (front ++ back) ≡ (all_after (all_after s (deeds l limit at_first front)) rest).mail =
    ap (λ (ds : List Deed). (all_after s ds).mail) (deeds-append l limit at_first front back) ∙ ap (λ (u : State). u.mail) (all_after-append s (deeds l limit at_first front) rest) in
    subst (λ (x : Mailbox). Contains x.shown m) (sym is) (stays_shown (all_after s (deeds l limit at_first front)) rest m h)

pub stored_is_shown : StoredIsShown
stored_is_shown l limit front p kind word v back seq layout execution h =
    let e : WorldEvent = Moves p kind word v in
    let mine : Message = message p seq h.value in
    let last : (m : Message) (old : Mailbox) (w : Words) (now : Mailbox) → mine ≡ m → Safe l p m old (Done Stored) w now → Contains now.shown mine =
    λ m old w now is safe. subst (λ xs. Contains xs mine) (sym safe.1) (subst (λ x. Contains (old.shown ++ x ∷ []) mine) is (Contains-push old.shown mine)) in
    let then : Contains (mail_after l limit (front ++ e ∷ [])).shown mine = at_end l limit p seq h.value Stored (λ now. Contains now.shown mine) last front kind word v back h.left layout execution h.append h.answer in
    subst (λ es. Contains (mail_after l limit es).shown mine) (append_assoc front (e ∷ []) back) (shown_on l limit (front ++ e ∷ []) back mine then)
