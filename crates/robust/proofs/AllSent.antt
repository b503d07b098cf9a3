-- The messages of the mailbox list at the end of a lab: exactly what its workers sent.
use Rattle.std.proofs.Common.{◌≡◌, ℕ, ◌<◌, ◌≤◌, ◌==◌, Bool, true, false, List, [], ◌∷◌, ◌++◌, length, slice_index, Option, Some, None, All, refl, sym, ap, ◌∙◌, subst, inl, inr, arith, eq-eqb}
use Rattle.robust.proofs.Common.{cases_eq, All-nil, All-cons, All-head, All-tail, All-append, All-weaker, All-contains, Layout, Message, IsContent, Words, IsLayout, words_of, IsAmong, entries}
use Rattle.robust.proofs.Common.{count_of, IsNumbered, RecordRule, Call, Append, Image, layout_of, EveryMessageWasSent, IsSent, WorldEvent, Begins, Falls, TakenStep, Setup, Gathers, IsGlance, IsGatheredRun}
use Rattle.robust.proofs.Common.{has_member, image_at, deeds_of, shown_by, cells_of, RunsShow, Seated, before, access_event, world_events, events_of_run, entries_of, IsRun, end_of, length-counted, cells_counted, by_kind}
use Rattle.robust.proofs.Common.{shown_on, all_both, member_at, Keeps, Holds, all_hold, Spec, AreAllSent, words_sent, messages_sent, messages_by, AreShownByRun, OfStart, IsSending, AreSending}
use Rattle.robust.proofs.Common.{HasSent, sizes_of}
use Rattle.judge.specs.Table.{State, empty_state}
use Rattle.judge.proofs.Halves.{state_led}
use Rattle.table_runs.specs.Rule.{IsPrefixOf as Starts}
use Rattle.robust.proofs.Appended.{own_taken, own_passed, among_more}
use Rattle.robust.proofs.Numbered.{many, few, sent_by, senders, counted_all}

-- what holds of each call that a process starts
pub OfBegins : (Call → Type 0) → ℕ → WorldEvent → Type 0
OfBegins P p (Begins q call) = q ≡ p → P call
OfBegins P p _ = Unit {0}

module _ (P : Call → Type 0) (p : ℕ) where
  abbrev Q : WorldEvent → Type 0
  Q = OfBegins P p

  begins_before : (c : Bool) (o : Option Call) (q : ℕ) → (q ≡ p → OfStart P o) → All Q (before c o q)
  unfolding OfBegins
  begins_before true None q h = All-cons Q (Falls q) [] tt (All-nil Q)
  begins_before true (Some call) q h = All-cons Q (Falls q) (Begins q call ∷ []) tt (All-cons Q (Begins q call) [] h (All-nil Q))
  begins_before false None q h = All-nil Q
  begins_before false (Some call) q h = All-cons Q (Begins q call) [] h (All-nil Q)

  begins_taken : (e : TakenStep) → Q (access_event e.by e.step.kind e.step.word e.value)
  unfolding OfBegins
  begins_taken e = by_kind (λ k h. OfBegins P p h) e.by e.step.word e.value tt (λ k. tt) e.step.kind

  begins_entry : (e : TakenStep) → (e.by ≡ p → OfStart P e.step.start) → All Q (world_events e)
  begins_entry e h = All-append Q (before e.step.crashed e.step.start e.by) (access_event e.by e.step.kind e.step.word e.value ∷ []) (begins_before e.step.crashed e.step.start e.by h) (All-cons Q (access_event e.by e.step.kind e.step.word e.value) [] (begins_taken e) (All-nil Q))

  abbrev F : TakenStep → Type 0
  F e = OfStart P e.step.start

  own_first : (e : TakenStep) (es : List TakenStep) → All F (entries_of p (e ∷ es)) → e.by ≡ p → F e
  own_first e es h same = All-head F e (entries_of p es) (subst (All F) (own_taken p e es (eq-eqb e.by p same)) h)

  own_rest : (e : TakenStep) (es : List TakenStep) → All F (entries_of p (e ∷ es)) → All F (entries_of p es)
  own_rest e es h = go (e.by == p) refl
    where
      go : (b : Bool) → (e.by == p) ≡ b → All F (entries_of p es)
      go true is = All-tail F e (entries_of p es) (subst (All F) (own_taken p e es is) h)
      go false is = subst (All F) (own_passed p e es is) h

  pub begins_all : (es : List TakenStep) → All F (entries_of p es) → All Q (events_of_run es)
  begins_all [] h = All-nil Q
  begins_all (e ∷ es) h = All-append Q (world_events e) (events_of_run es) (begins_entry e (own_first e es h)) (begins_all es (own_rest e es h))

pub begins_it : (P : Call → Type 0) (p : ℕ) (call : Call) → OfBegins P p (Begins p call) → P call
unfolding OfBegins
begins_it P p call h = h refl

pub content_numbered : (l : Layout) (xs : List ℕ) → IsContent l xs → IsNumbered l (words_of xs) (slice_index xs 2)
content_numbered l xs c =
    elim (cases_eq (slice_index xs 3) 0) [
      | inl none ↦ (c.entries.listed none).numbered
      | inr other ↦ (let armed : slice_index xs 3 ≡ 1 = (let bit = c.heads.armed in omega (arith, bit, other)) in by_rule (c.entries.recorded armed).2)
    ]
  where
    by_rule : {q : ℕ} → RecordRule l q (words_of xs) → IsNumbered l (words_of xs) (slice_index xs 2)
    by_rule r = elim r.rule [ inl unshown ↦ unshown.numbered | inr shown ↦ shown.listed.numbered ]

-- the messages at the end of a run
pub shown_entries : (s : Setup) (run : List TakenStep) → IsLayout s.layout → IsRun s run → RunsShow → shown_by s run ≡ entries s.layout (cells_of s run) (cells_of s run 2)
shown_entries s run layout legal shows =
    let h = (shows s run layout legal).0 in
    ap (λ (t : State). t.mail.shown) (sym (state_led (empty_state s.layout.procs s.layout.cap) h.0 (deeds_of s run) h.1)) ∙ h.2

-- the messages shown are messages that were sent, if each process of the run has started only its own appends
module _ (s : Spec) (run : List TakenStep) (w : Words) (n : ℕ) (layout : IsLayout (sizes_of s).layout) (legal : IsRun (sizes_of s) run) (numbered : IsNumbered (sizes_of s).layout w n) (sent : EveryMessageWasSent)
    (shown : shown_by (sizes_of s) run ≡ entries (sizes_of s).layout w n) (sending : (p : ℕ) → p < s.procs → AreSending s.width s.messages p (entries_of p run)) where
  abbrev z : Setup
  z = sizes_of s

  abbrev ms : List Message
  ms = entries z.layout w n

  abbrev Fits : Message → Type 0
  Fits m = (m.seq ≤ s.messages) × (m.value ≡ words_sent m.sender m.seq s.width)

  was_sent : (m : Message) → (m.sender < s.procs) × IsSent (events_of_run run) m → Fits m
  was_sent m h =
      let P = IsSending s.width s.messages m.sender in
      begins_it P m.sender (Append m.seq m.value) (All-contains (OfBegins P m.sender) (events_of_run run) (Begins m.sender (Append m.seq m.value)) (begins_all P m.sender run (sending m.sender h.0)) h.1)

  all_fit : All Fits ms
  all_fit =
      let were : All (IsSent (events_of_run run)) ms = subst (All (IsSent (events_of_run run))) shown (sent z.layout z.limit (events_of_run run) layout legal) in
      All-weaker (λ (m : Message). (m.sender < s.procs) × IsSent (events_of_run run) m) Fits was_sent ms (all_both (λ (m : Message). m.sender < s.procs) (IsSent (events_of_run run)) ms (senders z.layout w n numbered) were)

  pub at_most : (p : ℕ) → count_of p ms ≤ s.messages
  at_most p = few z.layout w p s.messages n numbered (All-weaker Fits (λ (m : Message). m.sender ≡ p → m.seq ≤ s.messages) (λ m h e. h.0) ms all_fit)

  -- a sender's messages are what it sent, if its last message is shown
  module _ (p : ℕ) (last : IsAmong p s.messages (shown_by z run)) where
    counted : count_of p ms ≡ s.messages
    counted =
        let most = at_most p in
        let least = many z.layout w n p s.messages numbered (subst (IsAmong p s.messages) shown last) in
        omega (arith, most, least)

    pub its : messages_by p ms ≡ messages_sent s.width p s.messages
    its =
        let values = All-weaker Fits (λ (m : Message). m.sender ≡ p → m.value ≡ words_sent p m.seq s.width) (λ m h e. h.1 ∙ ap (λ (q : ℕ). words_sent q m.seq s.width) e) ms all_fit in
        sent_by z.layout w p n numbered values ∙ ap (messages_sent s.width p) counted

  pub are_all_sent : ((p : ℕ) → p < s.procs → IsAmong p s.messages (shown_by z run)) → AreAllSent s ms
  are_all_sent last = record { each = λ p below. its p (last p below); total = counted_all s.procs s.messages ms (senders z.layout w n numbered) (λ p below. counted p (last p below)) }

-- glances start nothing
glance_starts : (P : Call → Type 0) (e : TakenStep) → IsGlance e → OfStart P e.step.start
glance_starts P e h = subst (OfStart P) (sym (ap (λ s. s.start) h.1)) tt

pub sending_more : (width k p : ℕ) (es glances : List TakenStep) → All IsGlance glances → AreSending width k p es → AreSending width k p (es ++ glances)
sending_more width k p es glances are h =
    let F : TakenStep → Type 0 = λ e. OfStart (IsSending width k p) e.step.start in
    All-append F es glances h (All-weaker IsGlance F (glance_starts (IsSending width k p)) glances are)

-- in the one run, if each member has sent its own
module _ (z : Setup) (width k : ℕ) (first : Seated) (others : List Seated) (run : List TakenStep) (reports : IsGatheredRun first others (length others) run) where
  abbrev Has : Seated → Type 0
  Has x = AreSending width k x.seat_view.by (entries_of x.seat_view.by run) × IsAmong x.seat_view.by k (shown_by z run)

  abbrev SeatKnowledge : Seated → Type 0
  SeatKnowledge x = (x.seat_view.setup ≡ z) × HasSent width k x

  still_shown : (x : Seated) → SeatKnowledge x → Starts x.seat_view.seen run → IsAmong x.seat_view.by k (shown_by z run)
  still_shown x h starts =
      let here : IsAmong x.seat_view.by k (shown_by z x.seat_view.seen) = subst (λ (s : Setup). IsAmong x.seat_view.by k (shown_by s x.seat_view.seen)) h.0 h.1.1 in
      let more = shown_on z x.seat_view.seen starts.0 in
      subst (λ (es : List TakenStep). IsAmong x.seat_view.by k (shown_by z es)) (sym starts.1) (subst (IsAmong x.seat_view.by k) (sym more.1) (among_more x.seat_view.by k (shown_by z x.seat_view.seen) more.0 here))

  all_have : All SeatKnowledge (first ∷ others) → All Has (first ∷ others)
  all_have h =
      let Q = AreSending width k in
      let held = all_hold Q (sending_more width k) first others (length others) run reports (All-weaker SeatKnowledge (Keeps Q (sending_more width k) first others (length others) run reports) (λ x known. known.1.0) (first ∷ others) h) in
      let Here = Holds Q (sending_more width k) first others (length others) run reports in
      All-weaker (λ (x : Seated). Here x × SeatKnowledge x) Has (λ x both. (both.0.0, still_shown x both.1 both.0.1)) (first ∷ others) (all_both Here SeatKnowledge (first ∷ others) held h)

  pub each_has : All SeatKnowledge (first ∷ others) → (p : ℕ) → has_member p (first ∷ others) ≡ true → AreSending width k p (entries_of p run) × IsAmong p k (shown_by z run)
  each_has h p there =
      let m = member_at Has p (first ∷ others) there (all_have h) in
      subst (λ (q : ℕ). AreSending width k q (entries_of q run) × IsAmong q k (shown_by z run)) m.1 m.2

-- the run that all members of a lab were gathered into, if each has sent its own
record HasRun (s : Spec) (image : Image) : Type 0 where
  run : List TakenStep
  legal : IsRun (sizes_of s) run
  each : (p : ℕ) → p < s.procs → AreSending s.width s.messages p (entries_of p run) × IsAmong p s.messages (shown_by (sizes_of s) run)
  shown : shown_by (sizes_of s) run ≡ entries (sizes_of s).layout (words_of image.cells) (slice_index image.cells 2)

has_run : (s : Spec) (xs : List Seated) (image : Image) → IsLayout (sizes_of s).layout → All (λ (x : Seated). x.seat_view.setup ≡ sizes_of s) xs → All (HasSent s.width s.messages) xs → Gathers xs image → RunsShow → HasRun s image
has_run s xs image layout setups sent g shows =
    let z = sizes_of s in
    let SeatKnowledge : Seated → Type 0 = λ x. (x.seat_view.setup ≡ z) × HasSent s.width s.messages x in
    let known : All SeatKnowledge (g.first ∷ g.others) = subst (All SeatKnowledge) g.are (all_both (λ (x : Seated). x.seat_view.setup ≡ z) (HasSent s.width s.messages) xs setups sent) in
    let same : g.first.seat_view.setup ≡ z = (All-head SeatKnowledge g.first g.others known).0 in
    let legal : IsRun z g.run = subst (λ (u : Setup). IsRun u g.run) same g.legal in
    let words : words_of image.cells ≡ cells_of z g.run =
    ap (λ (i : Image). words_of i.cells) (g.words ∙ ap (λ (u : Setup). image_at u (end_of u g.run)) same) ∙ cells_counted z g.run legal in
    let count : slice_index image.cells 2 ≡ cells_of z g.run 2 = ap (λ (w : Words). w 2) words in
    record {
      run = g.run;
      legal = legal;
      each = λ (p : ℕ) (below : p < s.procs). each_has z s.width s.messages g.first g.others g.run g.reports known p (subst (λ (l : List Seated). has_member p l ≡ true) g.are (g.all p (subst (λ (u : Setup). p < u.layout.procs) (sym same) below)));
      shown = shown_entries z g.run layout legal shows ∙ (λ i. entries z.layout (sym words i) (sym count i));
    }

-- the lab's messages
pub lab_sent : (s : Spec) (xs : List Seated) (image : Image) (messages : List Message) → IsLayout (sizes_of s).layout → All (λ (x : Seated). x.seat_view.setup ≡ sizes_of s) xs → All (HasSent s.width s.messages) xs → Gathers xs image → EveryMessageWasSent → RunsShow
    → messages ≡ entries (sizes_of s).layout (words_of image.cells) (slice_index image.cells 2) → IsNumbered (sizes_of s).layout (words_of image.cells) (slice_index image.cells 2) → AreAllSent s messages
lab_sent s xs image messages layout setups sent g was shows are numbered =
    let r = has_run s xs image layout setups sent g shows in
    subst (AreAllSent s) (sym are) (are_all_sent s r.run (words_of image.cells) (slice_index image.cells 2) layout r.legal numbered was r.shown (λ p below. (r.each p below).0) (λ p below. (r.each p below).1))

-- and the run that shows them
pub lab_shown : (s : Spec) (xs : List Seated) (image : Image) (messages : List Message) → IsLayout (sizes_of s).layout → All (λ (x : Seated). x.seat_view.setup ≡ sizes_of s) xs → All (HasSent s.width s.messages) xs → Gathers xs image → RunsShow
    → messages ≡ entries (sizes_of s).layout (words_of image.cells) (slice_index image.cells 2) → AreShownByRun s messages
lab_shown s xs image messages layout setups sent g shows are =
    let r = has_run s xs image layout setups sent g shows in
    record { run = r.run; works = record { legal = r.legal; sending = λ p below. (r.each p below).0 }; shown = are ∙ sym r.shown }

pub gathered_layout : (s : Setup) (xs : List Seated) (image : Image) → All (λ (x : Seated). x.seat_view.setup ≡ s) xs → Gathers xs image → layout_of image ≡ s.layout
gathered_layout s xs image setups g =
    let same : g.first.seat_view.setup ≡ s = All-head (λ (x : Seated). x.seat_view.setup ≡ s) g.first g.others (subst (All (λ (x : Seated). x.seat_view.setup ≡ s)) g.are setups) in
    let u = g.first.seat_view.setup in
    let w = end_of u g.run in
    ap layout_of g.words ∙ (λ i. record { procs = length-counted w.words u.layout.procs i; cap = u.layout.cap; width = u.layout.width }) ∙ ap (λ (v : Setup). v.layout) same
