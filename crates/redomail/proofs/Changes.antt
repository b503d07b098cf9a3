-- What a put keeps of a mode, and the mode after a deed.
use Rattle.std.proofs.Common.{◌≡◌, ℕ, zero, suc, ◌+◌, ◌<◌, ◌≤◌, true, false, not, ◌==◌, nat_lt, cond, List, [], ◌∷◌, ◌++◌, length, is_none, refl, sym, ◌∙◌, ap, inl, inr, arith, add-one, length-append, below_more, eq-eqb, ne_eqb, lt-ltb}
use Rattle.redomail.proofs.Common.{cases_eq, bytes_eq-Decides, put, AllHold, Layout, Message, Record, row, Words, last_at, place_at, message, Mailbox, mailbox_after, is_by, is_pending, entry, entries}
use Rattle.redomail.proofs.Common.{count_of, bit}
use Rattle.std.proofs.lemmas.List.Sums.{sum_by-append}
use Rattle.redomail.specs.declared.deed.Deed.TheVariants as deed
use Rattle.redomail.specs.Mailbox.{row as row_of}
use Rattle.redomail.proofs.Words.{put-other, put-same, place_low, row-alike, entry-alike, entries-alike, IsNumbered-alike, ListRule-alike}
use Rattle.redomail.proofs.Modes.{Base, Idle, Armed, Half, Whole}

pub length-entries : (l : Layout) (w : Words) (k : ℕ) → length (entries l w k) ≡ k
length-entries l w zero = refl
length-entries l w (suc k) =
    omega (arith, length-append (entries l w k) (entry l w k ∷ []), length-entries l w k)

pub entries-more : (l : Layout) (w : Words) (k : ℕ) → entries l w (k + 1) ≡ entries l w k ++ entry l w k ∷ []
entries-more l w k = rw (add-one k) refl

pub count_of-push : (q : ℕ) (ms : List Message) (m : Message) → count_of q (ms ++ m ∷ []) ≡ count_of q ms + cond (m.sender == q) 1 0
count_of-push q ms m = let e = sum_by-append (λ y. cond (is_by q y) 1 0) ms (m ∷ []) in omega (arith, e)

Base-put : (l : Layout) (p : ℕ) (w : Words) (s t : Mailbox) (i v : ℕ) → 1 < i → t.ruined ≡ s.ruined → t.closed ≡ s.closed → Base l p w s → Base l p (put w i v) t
Base-put l p w s t i v h ruined closed b = record {
  layout = b.layout;
  process = b.process;
  unruined = ruined ∙ b.unruined;
  sound = put-other w i v 0 (λ e. omega arith) ∙ b.sound;
  closed = put-other w i v 1 (λ e. omega arith) ∙ b.closed ∙ ap bit (sym closed);
}

-- Idle, after a put of a record word
pub Idle-put : (l : Layout) (p : ℕ) (w : Words) (s : Mailbox) (i v : ℕ) → 3 < i → i < 10 + l.width → Idle l p w s → Idle l p (put w i v) s
Idle-put l p w s i v a b h =
    let alike : (j : ℕ) → 10 + l.width ≤ j → j < place_at l (w 2) → put w i v j ≡ w j = λ j x y. put-other w i v j (λ e. omega arith) in
    let two = put-other w i v 2 (λ e. omega arith) in
    record {
      base = Base-put l p w s s i v (omega arith) refl refl h.base;
      disarmed = put-other w i v 3 (λ e. omega arith) ∙ h.disarmed;
      room = omega (arith, two, h.room);
      shown = rw (two, entries-alike l (put w i v) w (w 2) (λ j x y. alike j (omega arith) y)) h.shown;
      listed = rw two (ListRule-alike l (put w i v) w (w 2) alike h.listed);
      pending = h.pending;
    }

Armed-put : (l : Layout) (p : ℕ) (w : Words) (s : Mailbox) (r : Record) (i v : ℕ) → 9 + l.width < i → Armed l p w s r → Armed l p (put w i v) s r
Armed-put l p w s r i v a h = record {
  base = Base-put l p w s s i v (omega arith) refl refl h.base;
  open_yet = h.open_yet;
  wide = h.wide;
  room = h.room;
  armed = put-other w i v 3 (λ e. omega arith) ∙ h.armed;
  at = put-other w i v 4 (λ e. omega arith) ∙ h.at;
  seq = put-other w i v 5 (λ e. omega arith) ∙ h.seq;
  value = row-alike (put w i v) w 6 l.width (λ j x y. put-other w i v j (λ e. omega arith)) ∙ h.value;
}

-- Half, before the put of p's last number, after a put of the entry at the record's place
pub Half-put : (l : Layout) (p : ℕ) (w : Words) (s : Mailbox) (r : Record) (i v : ℕ) → place_at l r.at ≤ i → Half l p w s r × (w (last_at l p) + 1 ≡ r.seq) → Half l p (put w i v) s r × (put w i v (last_at l p) + 1 ≡ r.seq)
Half-put l p w s r i v a g =
    let h = g.0 in
    let below = place_low l r.at in
    let process = h.armed.base.process in
    let es : entries l (put w i v) r.at ≡ entries l w r.at = entries-alike l (put w i v) w r.at (λ j x y. put-other w i v j (λ e. omega arith)) in
    let low : put w i v (last_at l p) + 1 ≡ r.seq = rw (put-other w i v (last_at l p) (λ e. omega arith)) g.1 in (
      record {
        armed = Armed-put l p w s r i v (omega arith) h.armed;
        count = put-other w i v 2 (λ e. omega arith) ∙ h.count;
        shown = rw es h.shown;
        numbered = IsNumbered-alike l (put w i v) w r.at (λ j x y. put-other w i v j (λ e. omega arith)) h.numbered;
        others = λ q lq ne. put-other w i v (last_at l q) (λ e. omega arith) ∙ (rw es (h.others q lq ne));
        next = rw es h.next;
        last = inl low;
        pending = h.pending;
      },
      low,
    )

-- Half with a complete entry, after the put of p's last number
pub Half-put-last : (l : Layout) (p : ℕ) (w : Words) (s : Mailbox) (r : Record) → entry l w r.at ≡ message p r.seq r.value → Half l p w s r → Half l p (put w (last_at l p) r.seq) s r
Half-put-last l p w s r whole h =
    let process = h.armed.base.process in
    let v = put w (last_at l p) r.seq in
    let below = place_low l r.at in
    let alike : (j : ℕ) → 10 + l.width + l.procs ≤ j → v j ≡ w j = λ j x. put-other w (last_at l p) r.seq j (λ e. omega arith) in
    let es : entries l v r.at ≡ entries l w r.at = entries-alike l v w r.at (λ j x y. alike j x) in
    let en : entry l v r.at ≡ entry l w r.at = entry-alike l v w r.at (λ j x y. alike j (omega arith)) in
    record {
      armed = Armed-put l p w s r (last_at l p) r.seq (omega arith) h.armed;
      count = put-other w (last_at l p) r.seq 2 (λ e. omega arith) ∙ h.count;
      shown = rw es h.shown;
      numbered = IsNumbered-alike l v w r.at (λ j x y. alike j x) h.numbered;
      others = λ q lq ne. put-other w (last_at l p) r.seq (last_at l q) (λ e. ne (let g : q ≡ p = omega arith in g)) ∙ (rw es (h.others q lq ne));
      next = rw es h.next;
      last = inr (put-same w (last_at l p) r.seq (last_at l p) refl, en ∙ whole);
      pending = h.pending;
    }

-- A deed whose needs are met is allowed.
pub Allowed-show : (l : Layout) (p : ℕ) (w : Words) (s : Mailbox) (r : Record) → Half l p w s r → AllHold (row_of l.cap true s (deed.Show p r.at r.seq r.value))
Allowed-show l p w s r h =
    let b = h.armed.base in
    let e3 : is_pending s.pending p r.seq r.value ≡ true =
    rw (h.pending, eq-eqb p p refl, eq-eqb r.seq r.seq refl, (bytes_eq-Decides r.value r.value).1 refl) refl in
    let e4 : (r.at == length s.shown) ≡ true = eq-eqb r.at (length s.shown) (rw h.shown (sym (length-entries l w r.at))) in
    (refl, (e3, (e4, tt)))

-- the messages shown after a Show are those of the words after the put of count
pub Whole-from_half : (l : Layout) (p : ℕ) (w : Words) (s : Mailbox) (r : Record) → entry l w r.at ≡ message p r.seq r.value → w (last_at l p) ≡ r.seq → Half l p w s r
    → Whole l p (put w 2 (r.at + 1)) (mailbox_after s (deed.Show p r.at r.seq r.value)) r
Whole-from_half l p w s r whole last h =
    let b = h.armed.base in
    let v = put w 2 (r.at + 1) in
    let m = message p r.seq r.value in
    let below = place_low l r.at in
    let alike : (j : ℕ) → 10 + l.width ≤ j → v j ≡ w j = λ j x. put-other w 2 (r.at + 1) j (λ e. omega arith) in
    let es : entries l v r.at ≡ entries l w r.at = entries-alike l v w r.at (λ j x y. alike j (omega arith)) in
    let en : entry l v r.at ≡ m = entry-alike l v w r.at (λ j x y. alike j (omega arith)) ∙ whole in
    let all : entries l v (r.at + 1) ≡ entries l w r.at ++ m ∷ [] = entries-more l v r.at ∙ rw (es, en) refl in
    let mine : m.sender ≡ v (place_at l r.at) = sym (ap (λ x. x.sender) en) in
    let number : r.seq ≡ v (place_at l r.at + 1) = sym (ap (λ x. x.seq) en) in
    record {
      armed = record {
        base = Base-put l p w s (mailbox_after s (deed.Show p r.at r.seq r.value)) 2 (r.at + 1) (omega arith) refl refl b;
        open_yet = h.armed.open_yet;
        armed = h.armed.armed;
        at = h.armed.at;
        seq = h.armed.seq;
        value = row-alike v w 6 l.width (λ j x y. put-other w 2 (r.at + 1) j (λ e. omega arith)) ∙ h.armed.value;
        wide = h.armed.wide;
        room = h.armed.room;
      };
      count = refl;
      shown = rw (h.shown, all) refl;
      listed = record {
        numbered = below_more (λ a. (v (place_at l a) < l.procs) × (v (place_at l a + 1) ≡ count_of (v (place_at l a)) (entries l v a) + 1)) r.at
            (IsNumbered-alike l v w r.at (λ j x y. alike j (omega arith)) h.numbered)
            (rw (← mine, ← number, es) (b.process, h.next));
        counted = λ q lq.
            elim (cases_eq q p) [
              | inl same ↦ rw (all, count_of-push q (entries l w r.at) m, same, alike (last_at l p) (omega arith), eq-eqb p p refl) (last ∙ h.next)
              | inr other ↦
                  rw (all, count_of-push q (entries l w r.at) m, alike (last_at l q) (omega arith), ne_eqb p q (λ e. other (sym e)))
                  (omega (arith, h.others q lq other))
            ];
      };
      entry = en;
      pending = refl;
    }

-- no record is armed after it
pub Idle-from_whole : (l : Layout) (p : ℕ) (w : Words) (s : Mailbox) (r : Record) → Whole l p w s r → Idle l p (put w 3 0) s
Idle-from_whole l p w s r h =
    let b = h.armed.base in
    let v = put w 3 0 in
    let two : v 2 ≡ r.at + 1 = h.count in
    let alike : (j : ℕ) → 10 + l.width ≤ j → v j ≡ w j = λ j x. put-other w 3 0 j (λ e. omega arith) in
    record {
      base = Base-put l p w s s 3 0 (omega arith) refl refl b;
      disarmed = refl;
      room = omega (arith, two, h.armed.room);
      shown = rw (h.count, entries-alike l v w (r.at + 1) (λ j x y. alike j (omega arith))) h.shown;
      listed = rw h.count (ListRule-alike l v w (r.at + 1) (λ j x y. alike j x) h.listed);
      pending = h.pending;
    }

-- an append that has read its words, and what it knows of its record
pub record Ready (l : Layout) (p : ℕ) (w : Words) (s : Mailbox) (r : Record) : Type 0 where
  pub idle : Idle l p w s
  pub at : r.at ≡ w 2
  pub wide : length r.value ≡ l.width
  pub room : r.at < l.cap
  pub next : r.seq ≡ w (last_at l p) + 1
  pub open_yet : s.closed ≡ false

pub Ready-put : (l : Layout) (p : ℕ) (w : Words) (s : Mailbox) (r : Record) (i v : ℕ) → 3 < i → i < 10 + l.width → Ready l p w s r → Ready l p (put w i v) s r
Ready-put l p w s r i v a b h = record {
  idle = Idle-put l p w s i v a b h.idle;
  at = h.at ∙ sym (put-other w i v 2 (λ e. omega arith));
  wide = h.wide;
  room = h.room;
  next = h.next ∙ ap (λ x. x + 1) (sym (put-other w i v (last_at l p) (λ e. omega arith)));
  open_yet = h.open_yet;
}

pub Allowed-commit : (l : Layout) (p : ℕ) (w : Words) (s : Mailbox) (r : Record) → Ready l p w s r → AllHold (row_of l.cap true s (deed.Commit p r.seq r.value))
Allowed-commit l p w s r h =
    let b = h.idle.base in
    let e3 : not s.ruined ≡ true = ap not b.unruined in
    let e4 : is_none s.pending ≡ true = ap is_none h.idle.pending in
    let len : length s.shown ≡ w 2 = rw h.idle.shown (length-entries l w (w 2)) in
    let e5 : nat_lt (length s.shown) l.cap ≡ true = lt-ltb (length s.shown) l.cap (omega (arith, len, h.at, h.room)) in
    let number : r.seq ≡ count_of p s.shown + 1 = h.next ∙ ap (λ x. x + 1) (h.idle.listed.counted p b.process ∙ ap (count_of p) (sym h.idle.shown)) in
    let e6 : (r.seq == count_of p s.shown + 1) ≡ true = eq-eqb _ _ number in
    let e7 : not s.closed ≡ true = ap not h.open_yet in
    (refl, (e3, (e4, (e5, (e6, (e7, tt))))))

pub Half-from_ready : (l : Layout) (p : ℕ) (w : Words) (s : Mailbox) (r : Record) → w 4 ≡ r.at → w 5 ≡ r.seq → row w 6 l.width ≡ r.value → Ready l p w s r
    → Half l p (put w 3 1) (mailbox_after s (deed.Commit p r.seq r.value)) r
Half-from_ready l p w s r at seq value h =
    let b = h.idle.base in
    let v = put w 3 1 in
    let alike : (j : ℕ) → 10 + l.width ≤ j → v j ≡ w j = λ j x. put-other w 3 1 j (λ e. omega arith) in
    let es : entries l v r.at ≡ entries l w (w 2) = (entries-alike l v w r.at (λ j x y. alike j (omega arith))) ∙ ap (entries l w) h.at in
    let number : r.seq ≡ count_of p (entries l w (w 2)) + 1 = h.next ∙ ap (λ x. x + 1) (h.idle.listed.counted p b.process) in
    record {
      armed = record {
        base = Base-put l p w s (mailbox_after s (deed.Commit p r.seq r.value)) 3 1 (omega arith) refl refl b;
        open_yet = h.open_yet;
        armed = refl;
        at = at;
        seq = seq;
        value = row-alike v w 6 l.width (λ j x y. put-other w 3 1 j (λ e. omega arith)) ∙ value;
        wide = h.wide;
        room = h.room;
      };
      count = sym h.at;
      shown = rw es h.idle.shown;
      numbered = IsNumbered-alike l v w r.at (λ j x y. alike j (omega arith)) (rw h.at h.idle.listed.numbered);
      others = λ q lq ne. alike (last_at l q) (omega arith) ∙ (rw es (h.idle.listed.counted q lq));
      next = rw es number;
      last = inl (rw (alike (last_at l p) (omega arith)) (sym h.next));
      pending = refl;
    }

-- Closing.
pub Allowed-close : (l : Layout) (p : ℕ) (w : Words) (s : Mailbox) → s.closed ≡ false → Idle l p w s → AllHold (row_of l.cap true s (deed.Close p))
Allowed-close l p w s open_yet h =
    let e3 : is_none s.pending ≡ true = ap is_none h.pending in
    let e4 : not s.closed ≡ true = ap not open_yet in
    (refl, (e3, (e4, tt)))

pub Idle-closed : (l : Layout) (p : ℕ) (w : Words) (s : Mailbox) → Idle l p w s → Idle l p (put w 1 1) (mailbox_after s (deed.Close p))
Idle-closed l p w s h =
    let b = h.base in
    let v = put w 1 1 in
    let alike : (j : ℕ) → 10 + l.width ≤ j → v j ≡ w j = λ j x. put-other w 1 1 j (λ e. omega arith) in
    record {
      base = record {
        layout = b.layout;
        process = b.process;
        unruined = b.unruined;
        sound = b.sound;
        closed = refl;
      };
      disarmed = h.disarmed;
      room = h.room;
      shown = rw (entries-alike l v w (w 2) (λ j x y. alike j (omega arith))) h.shown;
      listed = ListRule-alike l v w (w 2) (λ j x y. alike j x) h.listed;
      pending = h.pending;
    }

-- once it is shown, p's last number is the record's
pub Whole-last : (l : Layout) (p : ℕ) (w : Words) (s : Mailbox) (r : Record) → Whole l p w s r → w (last_at l p) ≡ r.seq
Whole-last l p w s r h =
    let n = (h.listed.numbered r.at (omega arith)).1 in
    let c = h.listed.counted p h.armed.base.process in
    let mine : w (place_at l r.at) ≡ p = ap (λ x. x.sender) h.entry in
    let number : w (place_at l r.at + 1) ≡ r.seq = ap (λ x. x.seq) h.entry in
    let more = ap (count_of p) (entries-more l w r.at) ∙ count_of-push p (entries l w r.at) (entry l w r.at) in
    let one : ◌≡◌ {A = ℕ} (cond (w (place_at l r.at) == p) 1 0) 1 = rw (eq-eqb (w (place_at l r.at)) p mine) refl in
    let n' : w (place_at l r.at + 1) ≡ count_of p (entries l w r.at) + 1 = n ∙ ap (λ x. count_of x (entries l w r.at) + 1) mine in
    omega (arith, c, more, one, n', number)
