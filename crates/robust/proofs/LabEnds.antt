-- What ended a lab early, from the one run of its members.
use Rattle.std.proofs.Common.{◌≡◌, ℕ, ◌*◌, ◌<◌, ◌≤◌, true, List, [], ◌∷◌, ◌++◌, length, slice_index, map, Some, None, All, refl, sym, ap, ◌∙◌, subst, inl, inr, arith, append_assoc, append-nil, length-append}
use Rattle.robust.proofs.Common.{cases_lt, All-nil, All-cons, All-head, All-tail, All-contains, Layout, Message, Reply, Words, IsLayout, words_of, IsAmong, entries, count_of, IsNumbered, Close, Image}
use Rattle.robust.proofs.Common.{layout_of, IsLawfulImage, EveryMessageWasSent, ReplyTells, EveryCloseWasAsked, WorldEvent, Begins, who, at_first, lawful_content, TakenStep, Setup, Gathers, IsGlance}
use Rattle.robust.proofs.Common.{has_member, image_at, shown_by, judged_by, cells_of, RunsShow, LoadsTell, AreInWorkerOrder, NobodyRuins, Seated, events_of_run, entries_of, IsRun, end_of, all_left, cells_counted}
use Rattle.robust.proofs.Common.{own-append, legal_front, shown_on, Keeps, Holds, all_hold, each_holds, AllSent, Fault, Refused, Member, Spec, fault_by, Done, IsFirstWorkerFault, EndsSo, EndsLab, NumbersWereSpent}
use Rattle.robust.proofs.Common.{IsLabRun, OfStart, IsSending, AreSending, HasShown, sizes_of, HasWorked, Answer, NumbersSpent as SpentAnswer, at_rest, answers_from, process_state_past, own_of, count_from, all_both, member_at, messages_by, messages_sent}
use Rattle.redomail.proofs.Changes.{length-entries}
use Rattle.table_runs.proofs.Ordered.{order_more}
use Rattle.table_runs.specs.declared.lab.lab_fault.LabFault.{LabFault}
use Rattle.table_runs.specs.declared.lab.lab_fault.LabFault.TheVariants.{Reply as Replied}
use Rattle.table_runs.specs.declared.lab.worker_end.WorkerEnd.{WorkerEnd}
use Rattle.table_runs.specs.Rule.{IsPrefixOf as Starts}
use Rattle.robust.proofs.AllSent.{OfBegins, begins_all, begins_it, content_numbered, shown_entries, at_most, its, gathered_layout, sending_more}
use Rattle.robust.proofs.Below.{member_of, number_of, has_below}
use Rattle.table_runs.proofs.Turned.{answers-append}
use Rattle.robust.proofs.Appended.{all_at, among_more}
use Rattle.robust.proofs.Numbered.{senders, has_all, fewer_all}
use Rattle.robust.proofs.Unruined.{execution_within, none_read}

-- one of those that are mapped
all_mapped : {A B : Type 0} (f : A → B) (P : B → Type 0) (xs : List A) (x : A) (ys : List A) → All P (map f (xs ++ x ∷ ys)) → P (f x)
all_mapped f P [] x ys h = All-head P (f x) (map f ys) h
all_mapped f P (y ∷ xs) x ys h = all_mapped f P xs x ys (All-tail P (f y) (map f (xs ++ x ∷ ys)) h)

to_mapped : {A B : Type 0} (f : A → B) (P : B → Type 0) (Q : A → Type 0) (xs : List A) → ((x : A) → Q x → P (f x)) → All Q xs → All P (map f xs)
to_mapped f P Q [] k h = All-nil _
to_mapped f P Q (x ∷ xs) k h = All-cons P (f x) (map f xs) (k x (All-head Q x xs h)) (to_mapped f P Q xs k (All-tail Q x xs h))

from_mapped : {A B : Type 0} (f : A → B) (P : B → Type 0) (xs : List A) → All P (map f xs) → All (λ (x : A). P (f x)) xs
from_mapped f P [] h = All-nil _
from_mapped f P (x ∷ xs) h = All-cons (λ y. P (f y)) x xs (All-head P (f x) (map f xs) h) (from_mapped f P xs (All-tail P (f x) (map f xs) h))

none_long : {A : Type 0} (xs : List A) → length xs ≡ 0 → xs ≡ []
none_long [] h = refl
none_long (x ∷ xs) h = absurd (cc)

-- at one point of the run its mailbox refused a message
module _ (s : Spec) (run front rest : List TakenStep) (is : run ≡ front ++ rest) (layout : IsLayout (sizes_of s).layout) (legal : IsRun (sizes_of s) run) (sending : (p : ℕ) → p < s.procs → AreSending s.width s.messages p (entries_of p run)) where
  abbrev z : Setup
  z = sizes_of s

  front_run : IsRun z front
  front_run = legal_front z front rest (subst (IsRun z) is legal)

  -- no worker closes it
  never_closed : EveryCloseWasAsked → (judged_by z front).mail.closed ≡ true → ⊥
  never_closed every closed =
      let asked = every z.layout z.limit (events_of_run front) layout front_run closed in
      let p = asked.0 in
      let P = IsSending s.width s.messages p in
      let F : TakenStep → Type 0 = λ e. OfStart P e.step.start in
      let below : p < s.procs = All-contains (λ (h : WorldEvent). who h < s.procs) (events_of_run front) (Begins p Close) (execution_within z.layout z.limit at_first (events_of_run front) front_run) asked.1 in
      let mine : All F (entries_of p front) = all_left F (entries_of p front) (entries_of p rest) (subst (All F) (ap (entries_of p) is ∙ own-append p front rest) (sending p below)) in
      begins_it P p Close (All-contains (OfBegins P p) (events_of_run front) (Begins p Close) (begins_all P p front mine) asked.1)

  -- if it was full, there is less room than there are messages
  module _ (w : Words) (n : ℕ) (numbered : IsNumbered z.layout w n) (sent : EveryMessageWasSent) (shown : shown_by z run ≡ entries z.layout w n) (room : n ≤ s.cap) where
    abbrev ms : List Message
    ms = entries z.layout w n

    -- a full list is the list at the end
    full_shows : length (shown_by z front) ≡ s.cap → shown_by z front ≡ ms
    full_shows full =
        let more = shown_on z front rest in
        let all : shown_by z front ++ more.0 ≡ ms = sym more.1 ∙ ap (shown_by z) (sym is) ∙ shown in
        let lengths = length-append (shown_by z front) more.0 in
        let long : length (shown_by z front ++ more.0) ≡ n = ap length all ∙ length-entries z.layout w n in
        let none : more.0 ≡ [] = none_long more.0 (omega (arith, lengths, long, full, room)) in
        sym (append-nil (shown_by z front)) ∙ ap (λ (l : List Message). shown_by z front ++ l) (sym none) ∙ all

    little_room : (p seq : ℕ) → p < s.procs → 1 ≤ seq → seq ≤ s.messages → length (shown_by z front) ≡ s.cap → (IsAmong p seq (shown_by z front) → ⊥) → s.cap < s.procs * s.messages
    little_room p seq below some few full missing =
        let same : shown_by z front ≡ ms = full_shows full in
        let count : length ms ≡ s.cap = sym (ap length same) ∙ full in
        let less : count_of p ms < s.messages =
        elim (cases_lt (count_of p ms) s.messages) [
          | inl h ↦ h
          | inr many ↦ absurd (missing (subst (IsAmong p seq) (sym same) (has_all z.layout w n p seq numbered some (omega (arith, few, many)))))
        ] in
        let fewer = fewer_all s.procs s.messages p ms (senders z.layout w n numbered) (λ q low. at_most s run w n layout legal numbered sent shown sending q) below less in
        omega (arith, fewer, count)

-- it was answered so at a point of a longer run too
spent_more : (z : Setup) (es more : List TakenStep) → NumbersWereSpent z es → NumbersWereSpent z (es ++ more)
spent_more z es more h =
    let later : List Answer = answers_from z (process_state_past z at_rest (events_of_run es)) more in
    (h.0, h.1 ++ later, answers-append z at_rest es more ∙ ap (λ (l : List Answer). l ++ later) h.2 ∙ append_assoc h.0 (SpentAnswer ∷ h.1) later)

pub lab_ends : (s : Spec) (ended : List Done) (image : Image) (cause : LabFault) → IsLayout (sizes_of s).layout → All (λ (x : Seated). x.seat_view.setup ≡ sizes_of s) (map member_of ended) → All (HasWorked s) ended → map number_of ended ≡ count_from 0 s.procs → IsFirstWorkerFault ended cause → Gathers (map member_of ended) image
    → IsLawfulImage image → EveryMessageWasSent → EveryCloseWasAsked → RunsShow → LoadsTell → NobodyRuins → EndsLab s cause
lab_ends s ended image cause layout setups worked order f g lawful was closes shows loads nobody = by f.done.ending has.1 f.cause_is
  where
    z : Setup
    z = sizes_of s

    x : Seated
    x = f.done.member

    Q : ℕ → List TakenStep → Type 0
    Q = AreSending s.width s.messages

    more : (p : ℕ) (es glances : List TakenStep) → All IsGlance glances → Q p es → Q p (es ++ glances)
    more = sending_more s.width s.messages

    has : HasWorked s f.done
    has = all_at (HasWorked s) f.front f.done f.back (subst (All (HasWorked s)) f.are worked)

    setup : x.seat_view.setup ≡ z
    setup = all_mapped member_of (λ (y : Seated). y.seat_view.setup ≡ z) f.front f.done f.back (subst (λ (ds : List Done). All (λ (y : Seated). y.seat_view.setup ≡ z) (map member_of ds)) f.are setups)

    below : x.seat_view.by < s.procs
    below = subst (λ (u : Setup). x.seat_view.by < u.layout.procs) setup f.below

    same : g.first.seat_view.setup ≡ z
    same = All-head (λ (y : Seated). y.seat_view.setup ≡ z) g.first g.others (subst (All (λ (y : Seated). y.seat_view.setup ≡ z)) g.are setups)

    legal : IsRun z g.run
    legal = subst (λ (u : Setup). IsRun u g.run) same g.legal

    keeps : All (Keeps Q more g.first g.others (length g.others) g.run g.reports) (g.first ∷ g.others)
    keeps = subst (All (Keeps Q more g.first g.others (length g.others) g.run g.reports)) g.are (to_mapped member_of (Keeps Q more g.first g.others (length g.others) g.run g.reports) (HasWorked s) ended (λ d h. h.0) worked)

    H : Seated → Type 0
    H = Holds Q more g.first g.others (length g.others) g.run g.reports

    held : All H (map member_of ended)
    held = subst (All H) (sym g.are) (all_hold Q more g.first g.others (length g.others) g.run g.reports keeps)

    starts : Starts x.seat_view.seen g.run
    starts = (all_mapped member_of H f.front f.done f.back (subst (λ (ds : List Done). All H (map member_of ds)) f.are held)).1

    sending : (p : ℕ) → p < s.procs → AreSending s.width s.messages p (entries_of p g.run)
    sending p low =
        let there : has_member p (g.first ∷ g.others) ≡ true = subst (λ (l : List Seated). has_member p l ≡ true) g.are (g.all p (subst (λ (u : Setup). p < u.layout.procs) (sym same) low)) in
        each_holds Q more g.first g.others (length g.others) g.run g.reports keeps p there

    of_front : (front rest : List TakenStep) → g.run ≡ front ++ rest → IsLabRun s front
    of_front front rest split =
        record {
          legal = legal_front z front rest (subst (IsRun z) split legal);
          sending = λ q low.
              (let F : TakenStep → Type 0 = λ e. OfStart (IsSending s.width s.messages q) e.step.start in
              all_left F (entries_of q front) (entries_of q rest) (subst (All F) (ap (entries_of q) split ∙ own-append q front rest) (sending q low)));
        }

    O : ℕ → List TakenStep → Type 0
    O p es = AreInWorkerOrder None es

    keep_order : All (Keeps O order_more g.first g.others (length g.others) g.run g.reports) (g.first ∷ g.others)
    keep_order =
        subst (All (Keeps O order_more g.first g.others (length g.others) g.run g.reports)) g.are (to_mapped member_of (Keeps O order_more g.first g.others (length g.others) g.run g.reports) (HasWorked s) ended (λ d h. h.2) worked)

    ordered : (p : ℕ) → p < s.procs → AreInWorkerOrder None (entries_of p g.run)
    ordered p low =
        let there : has_member p (g.first ∷ g.others) ≡ true = subst (λ (l : List Seated). has_member p l ≡ true) g.are (g.all p (subst (λ (u : Setup). p < u.layout.procs) (sym same) low)) in
        each_holds O order_more g.first g.others (length g.others) g.run g.reports keep_order p there

    w : Words
    w = words_of image.cells

    n : ℕ
    n = slice_index image.cells 2

    words : w ≡ cells_of z g.run
    words = ap (λ (i : Image). words_of i.cells) (g.words ∙ ap (λ (u : Setup). image_at u (end_of u g.run)) same) ∙ cells_counted z g.run legal

    count : n ≡ cells_of z g.run 2
    count = ap (λ (v : Words). v 2) words

    numbered : IsNumbered z.layout w n
    numbered = subst (λ (l : Layout). IsNumbered l w n) (gathered_layout z (map member_of ended) image setups g) (content_numbered (layout_of image) image.cells (lawful_content image lawful))

    shown : shown_by z g.run ≡ entries z.layout w n
    shown = shown_entries z g.run layout legal shows ∙ (λ i. entries z.layout (sym words i) (sym count i))

    room : n ≤ s.cap
    room = let h = (shows z g.run layout legal).1 in omega (arith, h, count)

    -- what is known of each worker that has ended
    OfLab : Done → Type 0
    OfLab d = d.member.seat_view.setup ≡ z

    Known : Done → Type 0
    Known d = (OfLab d × H d.member) × HasWorked s d

    known : All Known f.front
    known =
        let set = from_mapped member_of (λ (y : Seated). y.seat_view.setup ≡ z) ended setups in
        let here = from_mapped member_of H ended held in
        all_left Known f.front (f.done ∷ f.back) (subst (All Known) f.are (all_both (λ d. OfLab d × H d.member) (HasWorked s) ended (all_both OfLab (λ d. H d.member) ended set here) worked))

    -- the last message of a worker that has sent all
    Shows : Seated → Type 0
    Shows y = IsAmong y.seat_view.by s.messages (shown_by z g.run)

    shows_last : (d : Done) → Known d × (d.ending ≡ AllSent) → Shows d.member
    shows_last d h =
        let y = d.member in
        let last : HasShown s.messages y = subst (EndsSo s y) h.1 h.0.1.1 in
        let here : IsAmong y.seat_view.by s.messages (shown_by z y.seat_view.seen) = subst (λ (u : Setup). IsAmong y.seat_view.by s.messages (shown_by u y.seat_view.seen)) h.0.0.0 last in
        let begins = h.0.0.1.1 in
        let on = shown_on z y.seat_view.seen begins.0 in
        subst (λ (es : List TakenStep). IsAmong y.seat_view.by s.messages (shown_by z es)) (sym begins.1) (subst (IsAmong y.seat_view.by s.messages) (sym on.1) (among_more y.seat_view.by s.messages (shown_by z y.seat_view.seen) on.0 here))

    last_below : (q : ℕ) → q < x.seat_view.by → IsAmong q s.messages (shown_by z g.run)
    last_below q low =
        let there = has_below s.procs q f.front f.done f.back (subst (λ (ds : List Done). map number_of ds ≡ count_from 0 s.procs) f.are order) low in
        let all = to_mapped member_of Shows (λ d. Known d × (d.ending ≡ AllSent)) f.front shows_last (all_both Known (λ d. d.ending ≡ AllSent) f.front known f.sent) in
        let m = member_at Shows q (map member_of f.front) there all in
        subst (λ (k : ℕ). IsAmong k s.messages (shown_by z g.run)) m.1 m.2

    below_in : (ms : List Message) → entries z.layout w n ≡ ms → (q : ℕ) → q < x.seat_view.by → messages_by q ms ≡ messages_sent s.width q s.messages
    below_in ms is q low = subst (λ (l : List Message). messages_by q l ≡ messages_sent s.width q s.messages) is (its s g.run w n layout legal numbered was shown sending q (last_below q low))

    same_fault : (one other : LabFault) → Some one ≡ Some other → one ≡ other
    same_fault one other is = cc

    -- it was answered so in the whole run
    whole : NumbersWereSpent x.seat_view.setup (own_of x.seat_view) → NumbersWereSpent z (entries_of x.seat_view.by g.run)
    whole h =
        let p = x.seat_view.by in
        let here : NumbersWereSpent z (entries_of p x.seat_view.seen) = subst (λ (u : Setup). NumbersWereSpent u (entries_of p x.seat_view.seen)) setup h in
        subst (NumbersWereSpent z) (sym (ap (entries_of p) starts.1 ∙ own-append p x.seat_view.seen starts.0)) (spent_more z (entries_of p x.seat_view.seen) (entries_of p starts.0) here)

    by : (e : WorkerEnd) → EndsSo s x e → fault_by x.seat_view.by e ≡ Some cause → EndsLab s cause
    by AllSent h is = absurd (cc)
    by (Fault purpose) (inl spent) is =
        subst (EndsLab s) (same_fault (Member x.seat_view.by purpose) cause is) (below, spent.0, (g.run, record { legal = legal; sending = sending }, below_in (shown_by z g.run) (sym shown), whole spent.1))
    by (Fault purpose) (inr ruin) is = absurd (none_read z x.seat_view.seen starts.0 x.seat_view.by layout (subst (IsRun z) starts.1 legal) (λ p low. subst (λ (es : List TakenStep). AreInWorkerOrder None (entries_of p es)) starts.1 (ordered p low)) loads nobody ruin.1)
    by (Refused reply) h is =
        let at = h.1.3 in
        let seq = h.1.0 in
        let rest = at.later ++ starts.0 in
        let split : g.run ≡ at.front ++ rest = starts.1 ∙ ap (λ (es : List TakenStep). es ++ starts.0) at.seen ∙ append_assoc at.front at.later starts.0 in
        let tells : ReplyTells z.layout x.seat_view.by seq reply (judged_by z at.front).mail = subst (λ (u : Setup). ReplyTells u.layout x.seat_view.by seq reply (judged_by u at.front).mail) setup at.tells in
        elim h.0 [
          | inl full ↦
              (let reports = subst (λ (r : Reply). ReplyTells z.layout x.seat_view.by seq r (judged_by z at.front).mail) full tells in
              subst (EndsLab s) (same_fault (Replied x.seat_view.by reply) cause is) (below, full, little_room s g.run at.front rest split layout legal sending w n numbered was shown room x.seat_view.by seq below h.1.1 h.1.2 reports.0 reports.1, (at.front, of_front at.front rest split, below_in (shown_by z at.front) (sym (full_shows s g.run at.front rest split layout legal sending w n numbered was shown room reports.0)), (seq, h.1.1, h.1.2, tells))))
          | inr closed ↦
              (let reports = subst (λ (r : Reply). ReplyTells z.layout x.seat_view.by seq r (judged_by z at.front).mail) closed tells in
              absurd (never_closed s g.run at.front rest split layout legal sending closes reports.0))
        ]
