-- The three modes of the words during a task: no record is armed, one is armed and not shown, one is armed and shown.
use Rattle.std.proofs.Common.{◌≡◌, ◌≢◌, ℕ, ◌+◌, ◌<◌, ◌≤◌, false, Some, None, refl, ◌⊎◌, sym, ◌∙◌, ap, subst, inl, inr, arith, length, zero, suc, eq-eqb, ne_eqb}
use Rattle.redomail.proofs.Common.{cond_both, Layout, Record, row, Words, last_at, IsLayout, message, Mailbox, entry, entries, count_of, IsNumbered, Shape, bit, recorded_message, RecordRule, ListRule}
use Rattle.redomail.proofs.Common.{Unshown, Shown, pending_in}

-- the facts of every mode
pub record Base (l : Layout) (p : ℕ) (w : Words) (s : Mailbox) : Type 0 where
  pub layout : IsLayout l
  pub process : p < l.procs
  pub unruined : s.ruined ≡ false
  pub sound : w 0 ≡ 0
  pub closed : w 1 ≡ bit s.closed

-- no record is armed
pub record Idle (l : Layout) (p : ℕ) (w : Words) (s : Mailbox) : Type 0 where
  pub base : Base l p w s
  pub disarmed : w 3 ≡ 0
  pub room : w 2 ≤ l.cap
  pub shown : s.shown ≡ entries l w (w 2)
  pub listed : ListRule l w (w 2)
  pub pending : s.pending ≡ None

-- this record is armed
pub record Armed (l : Layout) (p : ℕ) (w : Words) (s : Mailbox) (r : Record) : Type 0 where
  pub base : Base l p w s
  pub open_yet : s.closed ≡ false
  pub armed : w 3 ≡ 1
  pub at : w 4 ≡ r.at
  pub seq : w 5 ≡ r.seq
  pub value : row w 6 l.width ≡ r.value
  pub wide : length r.value ≡ l.width
  pub room : r.at < l.cap

-- it isn't shown
pub record Half (l : Layout) (p : ℕ) (w : Words) (s : Mailbox) (r : Record) : Type 0 where
  pub armed : Armed l p w s r
  pub count : w 2 ≡ r.at
  pub shown : s.shown ≡ entries l w r.at
  pub numbered : IsNumbered l w r.at
  pub others : (q : ℕ) → q < l.procs → q ≢ p → w (last_at l q) ≡ count_of q (entries l w r.at)
  pub next : r.seq ≡ count_of p (entries l w r.at) + 1
  pub last : (w (last_at l p) + 1 ≡ r.seq) ⊎ ((w (last_at l p) ≡ r.seq) × (entry l w r.at ≡ message p r.seq r.value))
  pub pending : s.pending ≡ Some (message p r.seq r.value)

-- it is shown
pub record Whole (l : Layout) (p : ℕ) (w : Words) (s : Mailbox) (r : Record) : Type 0 where
  pub armed : Armed l p w s r
  pub count : w 2 ≡ r.at + 1
  pub shown : s.shown ≡ entries l w (r.at + 1)
  pub listed : ListRule l w (r.at + 1)
  pub entry : entry l w r.at ≡ message p r.seq r.value
  pub pending : s.pending ≡ None

pub length-row : (w : Words) (i n : ℕ) → length (row w i n) ≡ n
length-row w i zero = refl
length-row w i (suc n) = ap suc (length-row w (i + 1) n)

bit_of_unruined : (s : Mailbox) → s.ruined ≡ false → bit s.ruined ≡ 0
bit_of_unruined s e = rw e refl

-- From the modes to the shape.
pub Shape-from_idle : (l : Layout) (p : ℕ) (w : Words) (s : Mailbox) → Idle l p w s → Shape l p w s
Shape-from_idle l p w s h = record {
  ruined = h.base.sound ∙ sym (bit_of_unruined s h.base.unruined);
  closed = h.base.closed;
  armed = inl h.disarmed;
  apart = λ a b. absurd (omega (arith, h.disarmed));
  room = h.room;
  shown = h.shown;
  listed = λ _. h.listed;
  record_rule = λ a. absurd (omega (arith, h.disarmed));
  pending = λ _. rw h.disarmed h.pending;
}

-- an armed record with its rule, and the messages shown
Shape-from_armed : (l : Layout) (p : ℕ) (w : Words) (s : Mailbox) (r : Record) → Armed l p w s r → w 2 ≤ l.cap → s.shown ≡ entries l w (w 2) → Unshown l p w ⊎ Shown l p w → s.pending ≡ pending_in l p w → Shape l p w s
Shape-from_armed l p w s r h room shown rule pending = record {
  ruined = h.base.sound ∙ sym (bit_of_unruined s h.base.unruined);
  closed = h.base.closed;
  armed = inr h.armed;
  apart = λ a b. let c : w 1 ≡ 0 = h.base.closed ∙ (rw h.open_yet refl) in absurd (omega arith);
  room = room;
  shown = shown;
  listed = λ a. absurd (omega (arith, h.armed));
  record_rule = λ _. (p, h.base.process, record { room = omega (arith, h.at, h.room); rule = rule }, λ _. refl);
  pending = λ _. pending;
}

pub Shape-from_half : (l : Layout) (p : ℕ) (w : Words) (s : Mailbox) (r : Record) → Half l p w s r → Shape l p w s
Shape-from_half l p w s r h =
    let same : w 2 ≡ w 4 = h.count ∙ sym h.armed.at in
    let message_same : message p r.seq r.value ≡ recorded_message l p w = rw (h.armed.seq, h.armed.value) refl in
    Shape-from_armed l p w s r h.armed (omega (arith, h.count, h.armed.room)) (rw h.count h.shown)
    (inl record {
      count = same;
      numbered = rw h.count h.numbered;
      others = rw h.count h.others;
      next = rw (h.count, h.armed.seq) h.next;
      last = rw (h.armed.at, h.armed.seq, h.armed.value) h.last;
    })
    (h.pending ∙ (rw (h.armed.armed, eq-eqb (w 2) (w 4) same) (ap Some message_same)))

pub Shape-from_whole : (l : Layout) (p : ℕ) (w : Words) (s : Mailbox) (r : Record) → Whole l p w s r → Shape l p w s
Shape-from_whole l p w s r h =
    let same : w 2 ≡ w 4 + 1 = h.count ∙ ap (λ x. x + 1) (sym h.armed.at) in
    Shape-from_armed l p w s r h.armed (omega (arith, h.count, h.armed.room)) (rw h.count h.shown)
    (inr record {
      count = same;
      listed = rw h.count h.listed;
      entry = rw (h.armed.at, h.armed.seq, h.armed.value) h.entry;
    })
    (h.pending ∙ (rw (h.armed.armed, ne_eqb (w 2) (w 4) (λ e. omega arith)) refl))

-- From the shape to the modes, for the process inside a lock that isn't ruined.

pub closed_off : (s : Mailbox) (x : ℕ) → x ≡ bit s.closed → (x ≡ 1 → ⊥) → s.closed ≡ false
closed_off s x e other = cond_both s.closed 1 0 (λ y. x ≡ y → s.closed ≡ false) (λ _ h. absurd (other h)) (λ h _. h) e

pub base_of : (l : Layout) (p : ℕ) (w : Words) (s : Mailbox) → IsLayout l → p < l.procs → s.ruined ≡ false → Shape l p w s → Base l p w s
base_of l p w s layout process unruined h = record {
  layout = layout;
  process = process;
  unruined = unruined;
  sound = h.ruined ∙ bit_of_unruined s unruined;
  closed = h.closed;
}

pub Idle-from_shape : (l : Layout) (p : ℕ) (w : Words) (s : Mailbox) → Base l p w s → w 3 ≡ 0 → Shape l p w s → Idle l p w s
Idle-from_shape l p w s base off h = record {
  base = base;
  disarmed = off;
  room = h.room;
  shown = h.shown;
  listed = h.listed off;
  pending = h.pending base.unruined ∙ rw off refl;
}

-- the record in the words
abbrev pub record_in : Layout → Words → Record
record_in l w = record { at = w 4; seq = w 5; value = row w 6 l.width }

armed_of : (l : Layout) (p : ℕ) (w : Words) (s : Mailbox) → Base l p w s → w 3 ≡ 1 → w 4 < l.cap → Shape l p w s → Armed l p w s (record_in l w)
armed_of l p w s base on room h = record {
  base = base;
  open_yet = closed_off s (w 1) h.closed (λ e. h.apart e on);
  armed = on;
  at = refl;
  seq = refl;
  value = refl;
  wide = length-row w 6 l.width;
  room = room;
}

Half-from_shape : (l : Layout) (p : ℕ) (w : Words) (s : Mailbox) → Base l p w s → w 3 ≡ 1 → w 4 < l.cap → Shape l p w s → Unshown l p w → Half l p w s (record_in l w)
Half-from_shape l p w s base on room h u = record {
  armed = armed_of l p w s base on room h;
  count = u.count;
  shown = rw u.count at h.shown;
  numbered = rw u.count at u.numbered;
  others = rw u.count at u.others;
  next = rw u.count at u.next;
  last = u.last;
  pending = h.pending base.unruined ∙ rw (on, eq-eqb (w 2) (w 4) u.count) refl;
}

Whole-from_shape : (l : Layout) (p : ℕ) (w : Words) (s : Mailbox) → Base l p w s → w 3 ≡ 1 → w 4 < l.cap → Shape l p w s → Shown l p w → Whole l p w s (record_in l w)
Whole-from_shape l p w s base on room h u = record {
  armed = armed_of l p w s base on room h;
  count = u.count;
  shown = rw u.count at h.shown;
  listed = rw u.count at u.listed;
  entry = u.entry;
  pending = h.pending base.unruined ∙ rw (on, ne_eqb (w 2) (w 4) (λ e. let c = u.count in omega arith)) refl;
}

-- an armed record is that of the process inside
pub Mode-from_shape : (l : Layout) (p : ℕ) (w : Words) (s : Mailbox) → Base l p w s → Shape l p w s → (w 3 ≡ 0) ⊎ (w 3 ≡ 1) → Idle l p w s ⊎ (Half l p w s (record_in l w) ⊎ Whole l p w s (record_in l w))
Mode-from_shape l p w s base h (inl off) = inl (Idle-from_shape l p w s base off h)
Mode-from_shape l p w s base h (inr on) =
    let q = h.record_rule on in
    let same : q.0 ≡ p = q.3 base.unruined in
    let rule : RecordRule l p w = subst (λ x. RecordRule l x w) same q.2 in
    elim rule.rule [
      | inl u ↦ inr (inl (Half-from_shape l p w s base on rule.room h u))
      | inr u ↦ inr (inr (Whole-from_shape l p w s base on rule.room h u))
    ]
