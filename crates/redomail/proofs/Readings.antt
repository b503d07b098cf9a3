-- Reading the messages of data words.
use Rattle.std.proofs.Common.{◌≡◌, ◌≢◌, ℕ, zero, suc, ◌+◌, ◌-◌, ◌<◌, ◌≤◌, List, [], ◌∷◌, ◌++◌, length, take, drop, slice_index, slice_set, cond, ◌==◌, refl, sym, ◌∙◌, ap, inl, inr, arith, drop-cons, below_more, get_or-set_same, get_or-set_other, ◌⊎◌, eqb-true, true≢false, eq-eqb, ne_eqb}
use Rattle.redomail.proofs.Common.{length-set, cases_Bool, cond_both, eqb-false, cases_eq, cases_lt, Layout, Message, HeadsHold, AreCountsFrom, IsNumberedIn, row, Words, words_of, place_at, entry, entries, count_of}
use Rattle.redomail.proofs.Common.{bit}
use Rattle.rmecore.specs.Body.{zeros}
use Rattle.redomail.specs.Laws.{ContentIsShape}
use Rattle.redomail.proofs.Words.{place_low, place_up}
use Rattle.redomail.proofs.Changes.{entries-more, count_of-push}

pub at_zeros : (n q : ℕ) → slice_index (zeros n) q ≡ 0
at_zeros zero q = refl
at_zeros (suc n) zero = refl
at_zeros (suc n) (suc q) = at_zeros n q

pub row-slice : (xs : List ℕ) (i n : ℕ) → i + n ≤ length xs → row (words_of xs) i n ≡ take n (drop i xs)
row-slice xs i zero h = refl
row-slice xs i (suc n) h =
    let low : i < length xs = omega arith in
    let e = drop-cons xs i 0 low in
    let one : i + 1 ≡ suc i = omega arith in
    let rest = row-slice xs (i + 1) n (omega arith) in
    rw e (ap (λ ys. slice_index xs i ∷ ys) (rest ∙ ap (λ k. take n (drop k xs)) one))

pub slice-length : (xs : List ℕ) (i n : ℕ) → i + n ≤ length xs → row (words_of xs) i n ≡ take (i + n - i) (drop i xs)
slice-length xs i n h =
    let e : i + n - i ≡ n = omega arith in rw e (row-slice xs i n h)

-- the words of a place are within the words
pub place_within : (l : Layout) (xs : List ℕ) (a : ℕ) → HeadsHold l xs → a < l.cap → (10 + l.width ≤ place_at l a) × (place_at l a + 2 + l.width ≤ length xs)
place_within l xs a h room =
    let low = place_low l a in
    let up = place_up l a l.cap room in
    let n = h.size in
    (omega arith, omega arith)

pub cases_in : (first past q : ℕ) → ((first ≤ q) × (q < past)) ⊎ (first ≤ q → q < past → ⊥)
cases_in first past q =
    elim (cases_lt q first) [
      | inl low ↦ inr (λ from _. omega arith)
      | inr from ↦ elim (cases_lt q past) [ inl to ↦ inl (from, to) | inr high ↦ inr (λ _ to. omega arith) ]
    ]

-- One more entry, of a sender that has a count.
pub counted_more : (l : Layout) (xs : List ℕ) (a first i : ℕ) (counts : List ℕ) (m : Message) → m ≡ entry l (words_of xs) a → m.sender < l.procs → m.sender ≡ first + i → i < length counts → slice_index counts i + 1 ≡ m.seq
    → AreCountsFrom l xs a first counts → IsNumberedIn l (words_of xs) a first (first + length counts)
    → AreCountsFrom l xs (a + 1) first (slice_set counts i m.seq) × IsNumberedIn l (words_of xs) (a + 1) first (first + length counts)
counted_more l xs a first i counts m em low at here seq c n =
    let w : Words = words_of xs in
    let past : ℕ = first + length counts in
    let more : entries l w (a + 1) ≡ entries l w a ++ m ∷ [] = entries-more l w a ∙ ap (λ x. entries l w a ++ x ∷ []) (sym em) in
    let mine : m.sender ≡ w (place_at l a) = ap (λ x. x.sender) em in
    let number : m.seq ≡ w (place_at l a + 1) = ap (λ x. x.seq) em in
    let before : slice_index counts i ≡ count_of m.sender (entries l w a) = c i m.sender here at in (
      (λ j q small e.
          let push = ap (count_of q) more ∙ count_of-push q (entries l w a) m in
          let long : length (slice_set counts i m.seq) ≡ length counts = length-set counts i m.seq in
          elim (cases_eq j i) [
            | inl same ↦
                (let set : slice_index (slice_set counts i m.seq) j ≡ m.seq = rw (same, get_or-set_same) refl in
                let its : q ≡ m.sender = omega arith in
                let one : ◌≡◌ {A = ℕ} (cond (m.sender == q) 1 0) 1 = rw (eq-eqb m.sender q (sym its)) refl in
                let b : count_of q (entries l w a) ≡ slice_index counts i = ap (λ x. count_of x (entries l w a)) its ∙ sym before in
                omega (arith, set, one, b, push, seq))
            | inr other ↦
                (let d : j ≢ i = other in
                let set : slice_index (slice_set counts i m.seq) j ≡ slice_index counts j = rw get_or-set_other refl in
                let none : ◌≡◌ {A = ℕ} (cond (m.sender == q) 1 0) 0 = rw (ne_eqb m.sender q (λ x. d (omega arith))) refl in
                omega (arith, set, none, push, c j q (omega arith) e))
          ]),
      record {
        sent = below_more (λ b. w (place_at l b) < l.procs) a n.sent (rw (← mine) low);
        numbered = below_more (λ b. first ≤ w (place_at l b) → w (place_at l b) < past → w (place_at l b + 1) ≡ count_of (w (place_at l b)) (entries l w b) + 1) a
            n.numbered
            (λ _ _. rw (← mine, ← number) (sym seq ∙ ap (λ x. x + 1) before));
      },
    )

-- One more entry, of another sender.
pub others_more : (l : Layout) (xs : List ℕ) (a first : ℕ) (counts : List ℕ) (m : Message) → m ≡ entry l (words_of xs) a → m.sender < l.procs → (first ≤ m.sender → m.sender < first + length counts → ⊥)
    → AreCountsFrom l xs a first counts → IsNumberedIn l (words_of xs) a first (first + length counts)
    → AreCountsFrom l xs (a + 1) first counts × IsNumberedIn l (words_of xs) (a + 1) first (first + length counts)
others_more l xs a first counts m em low out c n =
    let w : Words = words_of xs in
    let past : ℕ = first + length counts in
    let more : entries l w (a + 1) ≡ entries l w a ++ m ∷ [] = entries-more l w a ∙ ap (λ x. entries l w a ++ x ∷ []) (sym em) in
    let mine : m.sender ≡ w (place_at l a) = ap (λ x. x.sender) em in (
      (λ j q small e.
          let push = ap (count_of q) more ∙ count_of-push q (entries l w a) m in
          let none : ◌≡◌ {A = ℕ} (cond (m.sender == q) 1 0) 0 = rw (ne_eqb m.sender q (λ x. out (omega arith) (omega arith))) refl in
          omega (arith, none, push, c j q small e)),
      record {
        sent = below_more (λ b. w (place_at l b) < l.procs) a n.sent (rw (← mine) low);
        numbered = below_more (λ b. first ≤ w (place_at l b) → w (place_at l b) < past → w (place_at l b + 1) ≡ count_of (w (place_at l b)) (entries l w b) + 1) a
            n.numbered
            (λ from to. absurd (out (rw mine from) (rw mine to)));
      },
    )

-- The number of an entry that is numbered comes next after the count of its sender.
pub next_number : (l : Layout) (xs : List ℕ) (a first i past k : ℕ) (counts : List ℕ) (m : Message) → m ≡ entry l (words_of xs) a → m.sender ≡ first + i → i < length counts → first ≤ m.sender → m.sender < past
    → IsNumberedIn l (words_of xs) k first past → a < k → AreCountsFrom l xs a first counts → slice_index counts i + 1 ≡ m.seq
next_number l xs a first i past k counts m em at here from to n below c =
    let w : Words = words_of xs in
    let mine : m.sender ≡ w (place_at l a) = ap (λ x. x.sender) em in
    let number : m.seq ≡ w (place_at l a + 1) = ap (λ x. x.seq) em in
    let counted : slice_index counts i ≡ count_of m.sender (entries l w a) = c i m.sender here at in
    let next : w (place_at l a + 1) ≡ count_of (w (place_at l a)) (entries l w a) + 1 = n.numbered a below (omega (arith, mine)) (omega (arith, mine)) in
    let same : count_of m.sender (entries l w a) ≡ count_of (w (place_at l a)) (entries l w a) = ap (λ q. count_of q (entries l w a)) mine in
    omega (arith, number, counted, next, same)

-- One more entry, and how many p has.
pub counted_one : (l : Layout) (w : Words) (a p : ℕ) → w (place_at l a) ≡ p → count_of p (entries l w (a + 1)) ≡ count_of p (entries l w a) + 1
counted_one l w a p e =
    let push = ap (count_of p) (entries-more l w a) ∙ count_of-push p (entries l w a) (entry l w a) in
    let one : ◌≡◌ {A = ℕ} (cond (w (place_at l a) == p) 1 0) 1 = rw (eq-eqb (w (place_at l a)) p e) refl in
    omega (arith, push, one)

pub counted_none : (l : Layout) (w : Words) (a p : ℕ) → (w (place_at l a) ≡ p → ⊥) → count_of p (entries l w (a + 1)) ≡ count_of p (entries l w a)
counted_none l w a p ne =
    let push = ap (count_of p) (entries-more l w a) ∙ count_of-push p (entries l w a) (entry l w a) in
    let none : ◌≡◌ {A = ℕ} (cond (w (place_at l a) == p) 1 0) 0 = rw (ne_eqb (w (place_at l a)) p ne) refl in
    omega (arith, push, none)

bit_of : (x : ℕ) → x ≤ 1 → x ≡ bit (x == 1)
bit_of x small =
    cond_both (x == 1) 1 0 (λ y. x ≡ y) (λ t. eqb-true x 1 t) (λ f. let n = eqb-false x 1 f in omega (arith, n))

pub content_is_shape : ContentIsShape
content_is_shape l p xs h process mine =
    let w : Words = words_of xs in
    let flag : (w 3 ≡ 0) ⊎ (w 3 ≡ 1) = elim (cases_eq (w 3) 0) [ inl z ↦ inl z | inr n ↦ inr (omega (arith, n, h.heads.armed)) ] in
    record {
      ruined = bit_of (w 0) h.heads.ruined;
      closed = bit_of (w 1) h.heads.closed;
      armed = flag;
      apart = h.heads.apart;
      room = h.heads.room;
      shown = refl;
      listed = h.entries.listed;
      record_rule = λ on.
          elim (cases_Bool (w 0 == 1)) [
            | inl gone ↦ (let r = h.entries.recorded on in (r.0, r.1, r.2, λ sound. absurd (true≢false (sym gone ∙ sound))))
            | inr sound ↦ (let n = eqb-false (w 0) 1 sound in (p, process, mine (omega (arith, n, h.heads.ruined)) on, λ _. refl))
          ];
      pending = λ sound. rw sound refl;
    }
