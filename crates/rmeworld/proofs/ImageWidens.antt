-- A wider image keeps the rules, and its messages.
use Rattle.std.proofs.Common.{◌≡◌, ℕ, zero, suc, ◌+◌, ◌<◌, ◌≤◌, List, [], ◌∷◌, length, map, cond, ◌==◌, inl, inr, refl, sym, ap, subst, ◌∙◌, arith}
use Rattle.rmeworld.proofs.ImageCommon.{map-append, own_at, Layout, HeadsHold, Words, words_of, row, last_at, place_at, RecordRule, entry, entries, recorded_message, IsNumbered, count_of, ListRule, Unshown, Shown}
use Rattle.rmeworld.proofs.ImageCommon.{Image, layout_of, IsLawfulImage, IsRecorded, IsSized, padded_words, widened_message, IsWider, shown_in}
use Rattle.rmeworld.specs.ImageRules.{IsInsideByImage}
use Rattle.redomail.proofs.Changes.{count_of-push}

head_or : ℕ → List ℕ → ℕ
head_or x [] = x
head_or x (y ∷ ys) = y

rest_of : List ℕ → List ℕ
rest_of [] = []
rest_of (x ∷ xs) = xs

-- words in equal rows
pub in_rows : (v w : Words) (i j n k : ℕ) → k < n → row v i n ≡ row w j n → v (i + k) ≡ w (j + k)
unfolding head_or rest_of
in_rows v w i j zero k h e = absurd (omega arith)
in_rows v w i j (suc n) zero h e = let a : i + 0 ≡ i = omega arith in let b : j + 0 ≡ j = omega arith in rw (a, b) (ap (head_or (v i)) e)
in_rows v w i j (suc n) (suc k) h e =
    let a : i + suc k ≡ i + 1 + k = omega arith in
    let b : j + suc k ≡ j + 1 + k = omega arith in
    rw (a, b) (in_rows v w (i + 1) (j + 1) n k (omega arith) (ap rest_of e))

module _ (l m : Layout) (w v : Words) (wide : ℕ) (places : (a : ℕ) → a < l.cap → entry m v a ≡ widened_message wide (entry l w a)) where
  pub entries-widened : (k : ℕ) → k ≤ l.cap → entries m v k ≡ map (widened_message wide) (entries l w k)
  entries-widened zero h = refl
  entries-widened (suc k) h = rw (entries-widened k (omega arith), places k (omega arith)) (sym (map-append (widened_message wide) (entries l w k) (entry l w k ∷ [])))

  counts-same : (q k : ℕ) → k ≤ l.cap → count_of q (entries m v k) ≡ count_of q (entries l w k)
  counts-same q zero h = refl
  counts-same q (suc k) h =
      let new = count_of-push q (entries m v k) (entry m v k) in
      let old = count_of-push q (entries l w k) (entry l w k) in
      let before = counts-same q k (omega arith) in
      let same : ◌≡◌ {A = ℕ} (cond (v (place_at m k) == q) 1 0) (cond (w (place_at l k) == q) 1 0) = ap (λ x. cond (x.sender == q) 1 0) (places k (omega arith)) in
      omega (arith, new, old, before, same)

  pub IsNumbered-widened : (k : ℕ) → k ≤ l.cap → m.procs ≡ l.procs → IsNumbered l w k → IsNumbered m v k
  IsNumbered-widened k h same n a low =
      let sender : v (place_at m a) ≡ w (place_at l a) = ap (λ x. x.sender) (places a (omega arith)) in
      let seq : v (place_at m a + 1) ≡ w (place_at l a + 1) = ap (λ x. x.seq) (places a (omega arith)) in
      let count = ap (λ q. count_of q (entries m v a)) sender ∙ counts-same (w (place_at l a)) a (omega arith) in
      let old = n a low in
      (omega (arith, sender, same, old.0), omega (arith, seq, count, old.1))

-- the words of the wider image beside those of the old one
module _ (l m : Layout) (w v : Words) (wide : ℕ) (procs : m.procs ≡ l.procs) (width : m.width ≡ wide) (cap : m.cap ≡ l.cap)
    (heads : row v 0 6 ≡ row w 0 6) (record_is : row v 6 wide ≡ padded_words wide (row w 6 l.width)) (others : row v (6 + wide) (4 + l.procs) ≡ row w (6 + l.width) (4 + l.procs))
    (places : (a : ℕ) → a < l.cap → entry m v a ≡ widened_message wide (entry l w a)) where
  pub head : (k : ℕ) → k < 6 → v k ≡ w k
  head k h = let e : 0 + k ≡ k = omega arith in let t = in_rows v w 0 0 6 k h heads in rw e at t

  last : (q : ℕ) → q < l.procs → v (last_at m q) ≡ w (last_at l q)
  last q h =
      let t = in_rows v w (6 + wide) (6 + l.width) (4 + l.procs) (4 + q) (omega arith) others in
      let a : last_at m q ≡ 6 + wide + (4 + q) = omega (arith, width) in
      let b : last_at l q ≡ 6 + l.width + (4 + q) = omega arith in
      rw (a, b) t

  recorded-widened : (p : ℕ) → recorded_message m p v ≡ widened_message wide (recorded_message l p w)
  recorded-widened p = rw (width, record_is, head 5 (omega arith)) refl

  pub ListRule-widened : (k : ℕ) → k ≤ l.cap → ListRule l w k → ListRule m v k
  ListRule-widened k h r = record {
    numbered = IsNumbered-widened l m w v wide places k h procs r.numbered;
    counted = λ q lq.
        let low : q < l.procs = omega (arith, procs) in
        last q low ∙ r.counted q low ∙ sym (counts-same l m w v wide places q k h);
  }

  at_record : (p : ℕ) → w 4 < l.cap → entry l w (w 4) ≡ recorded_message l p w → entry m v (v 4) ≡ recorded_message m p v
  at_record p room e = rw (head 4 (omega arith)) (places (w 4) room ∙ ap (widened_message wide) e ∙ sym (recorded-widened p))

  unshown : (p : ℕ) → p < l.procs → w 2 ≤ l.cap → w 4 < l.cap → Unshown l p w → Unshown m p v
  unshown p lp low room r =
      let count = head 2 (omega arith) in
      record {
        count = count ∙ r.count ∙ sym (head 4 (omega arith));
        numbered = rw count (IsNumbered-widened l m w v wide places (w 2) low procs r.numbered);
        others = λ q lq other.
            let below : q < l.procs = omega (arith, procs) in
            rw count (last q below ∙ r.others q below other ∙ sym (counts-same l m w v wide places q (w 2) low));
        next = rw count (head 5 (omega arith) ∙ r.next ∙ sym (ap (λ n. n + 1) (counts-same l m w v wide places p (w 2) low)));
        last = elim r.last [
          | inl e ↦ inl (omega (arith, e, last p lp, head 5 (omega arith)))
          | inr e ↦ inr (last p lp ∙ e.0 ∙ sym (head 5 (omega arith)), at_record p room e.1)
        ];
      }

  shown : (p : ℕ) → w 2 ≤ l.cap → w 4 < l.cap → Shown l p w → Shown m p v
  shown p low room r =
      let count = head 2 (omega arith) in
      record {
        count = omega (arith, count, r.count, head 4 (omega arith));
        listed = rw count (ListRule-widened (w 2) low r.listed);
        entry = at_record p room r.entry;
      }

  pub RecordRule-widened : (p : ℕ) → p < l.procs → w 2 ≤ l.cap → RecordRule l p w → RecordRule m p v
  RecordRule-widened p lp low r = record {
    room = omega (arith, head 4 (omega arith), r.room, cap);
    rule = elim r.rule [ inl h ↦ inl (unshown p lp low r.room h) | inr h ↦ inr (shown p low r.room h) ];
  }

module _ (wide : ℕ) (i j : Image) (k : IsLawfulImage i) (least : i.width ≤ wide) (most : wide ≤ 8) (h : IsWider wide i j) where
  abbrev w : Words
  w = words_of i.cells

  abbrev v : Words
  v = words_of j.cells

  procs : length j.lock ≡ length i.lock
  procs = ap length h.lock

  head_is : (n : ℕ) → n < 6 → v n ≡ w n
  head_is = head (layout_of i) (layout_of j) w v wide procs h.width h.cap h.heads h.recorded h.others h.places

  listed_is : ListRule (layout_of i) w (w 2) → ListRule (layout_of j) v (w 2)
  listed_is = ListRule-widened (layout_of i) (layout_of j) w v wide procs h.width h.cap h.heads h.recorded h.others h.places (w 2) (k.heads (omega arith)).room

  rule_is : (p : ℕ) → p < length i.lock → RecordRule (layout_of i) p w → RecordRule (layout_of j) p v
  rule_is p low = RecordRule-widened (layout_of i) (layout_of j) w v wide procs h.width h.cap h.heads h.recorded h.others h.places p low (k.heads (omega arith)).room

  sized : IsSized j
  sized =
      let s = k.sized (omega arith) in
      record {
        someone = omega (arith, procs, s.someone);
        few = omega (arith, procs, s.few);
        limited = omega (arith, h.limit, s.limited);
        low = omega (arith, h.limit, s.low);
        room = omega (arith, h.cap, s.room);
        small = omega (arith, h.cap, s.small);
        least = omega (arith, h.width, s.least);
        most = omega (arith, h.width);
      }

  heads_hold : HeadsHold (layout_of j) j.cells
  heads_hold =
      let s = k.sized (omega arith) in
      let old = k.heads (omega arith) in
      let closed = head_is 1 (omega arith) in
      let armed = head_is 3 (omega arith) in
      record {
        least = omega (arith, h.width, s.least);
        most = omega (arith, h.width);
        size = h.filled;
        ruined = omega (arith, head_is 0 (omega arith), old.ruined);
        closed = omega (arith, closed, old.closed);
        armed = omega (arith, armed, old.armed);
        room = omega (arith, head_is 2 (omega arith), h.cap, old.room);
        apart = λ c a. old.apart (sym closed ∙ c) (sym armed ∙ a);
      }

  in_is : (p : ℕ) → IsInsideByImage i p → IsInsideByImage j p
  in_is p x = let o : own_at j.lock p ≡ own_at i.lock p = ap (λ lock. own_at lock p) h.lock in (omega (arith, procs, x.0), rw o x.1, rw o x.2)

  recorded_is : IsRecorded j
  recorded_is =
      let r = k.recorded (omega arith) in
      let armed = head_is 3 (omega arith) in
      let ruined = head_is 0 (omega arith) in
      record {
        clean = λ a c.
            let old = r.clean (sym armed ∙ a) (sym ruined ∙ c) in
            (old.0, in_is old.0 old.1, rule_is old.0 old.1.0 old.2);
        ruined = λ a c.
            let old = r.ruined (sym armed ∙ a) (sym ruined ∙ c) in
            (old.0, omega (arith, procs, old.1), rule_is old.0 old.1 old.2);
      }

  pub wider_is_lawful : IsLawfulImage j
  wider_is_lawful = record {
    versioned = λ _. inl h.version;
    sized = λ _. sized;
    filled = λ _. h.filled;
    rows = λ _. rw (h.limit, h.lock) (k.rows (omega arith));
    lawful = λ _. rw (h.limit, h.lock) (k.lawful (omega arith));
    heads = λ _. heads_hold;
    listed = λ _. λ armed.
        let count = head_is 2 (omega arith) in
        subst (ListRule (layout_of j) v) (sym count) (listed_is (k.listed (omega arith) (sym (head_is 3 (omega arith)) ∙ armed)));
    recorded = λ _. recorded_is;
  }

  pub wider_shows : shown_in j ≡ map (widened_message wide) (shown_in i)
  wider_shows =
      ap (entries (layout_of j) v) (head_is 2 (omega arith))
      ∙ entries-widened (layout_of i) (layout_of j) w v wide h.places (w 2) (k.heads (omega arith)).room
