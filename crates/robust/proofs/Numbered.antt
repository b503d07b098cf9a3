-- Numbered entries, where each sender's are entries that it sent: how many each sender has, and how many there are.
use Rattle.std.proofs.Common.{◌≡◌, ℕ, zero, suc, ◌+◌, ◌*◌, ◌<◌, ◌≤◌, ◌==◌, Bool, true, false, List, [], ◌∷◌, ◌++◌, length, filter, All, refl, sym, ap, ◌∙◌, subst, inl, inr, arith, append-nil, eqb-true, eq-eqb}
use Rattle.robust.proofs.Common.{cases_eq, cases_Bool, cases_lt, All-nil, All-head, All-tail, All-weaker, All-push, filter-append, Layout, Message, Words, IsAmong, message, is_by, entries, count_of}
use Rattle.robust.proofs.Common.{IsNumbered, entry, all_left, all_right, words_sent, messages_sent, messages_by, message_sent}
use Rattle.redomail.proofs.Changes.{count_of-push}
use Rattle.judge.proofs.Counts.{one_if, count_cons}
use Rattle.robust.proofs.Appended.{all_at, among_more}

-- the last of k + 1
all_last : {A : Type 0} (P : A → Type 0) (xs : List A) (x : A) → All P (xs ++ x ∷ []) → P x
all_last P xs x h = All-head P x [] (all_right P xs (x ∷ []) h)

is_its : (p q : ℕ) → q ≡ p → one_if (q == p) ≡ 1
is_its p q e = ap one_if (eq-eqb q p e)

not_its : (p q : ℕ) → (q ≡ p → ⊥) → one_if (q == p) ≡ 0
not_its p q ne = elim (cases_Bool (q == p)) [ inl same ↦ absurd (ne (eqb-true q p same)) | inr other ↦ ap one_if other ]

module _ (l : Layout) (w : Words) where
  abbrev es : ℕ → List Message
  es k = entries l w k

  fewer : (k : ℕ) → IsNumbered l w (suc k) → IsNumbered l w k
  fewer k h = λ a below. h a (omega arith)

  -- no number is above its sender's count
  pub bounded : (k : ℕ) → IsNumbered l w k → All (λ (m : Message). m.seq ≤ count_of m.sender (es k)) (es k)
  bounded zero h = All-nil _
  bounded (suc k) h =
      let e = entry l w k in
      let old = All-weaker (λ (m : Message). m.seq ≤ count_of m.sender (es k)) (λ (m : Message). m.seq ≤ count_of m.sender (es k ++ e ∷ [])) (λ m few. let c = count_of-push m.sender (es k) e in omega arith) (es k) (bounded k (fewer k h)) in
      let c = count_of-push e.sender (es k) e in
      let one = is_its e.sender e.sender refl in
      let seq = (h k (omega arith)).1 in
      All-push (λ (m : Message). m.seq ≤ count_of m.sender (es k ++ e ∷ [])) (es k) e old (omega (arith, c, one, seq))

  pub senders : (k : ℕ) → IsNumbered l w k → All (λ (m : Message). m.sender < l.procs) (es k)
  senders zero h = All-nil _
  senders (suc k) h = All-push (λ (m : Message). m.sender < l.procs) (es k) (entry l w k) (senders k (fewer k h)) (h k (omega arith)).0

  pub many : (k p seq : ℕ) → IsNumbered l w k → IsAmong p seq (es k) → seq ≤ count_of p (es k)
  many k p seq h among = all_at (λ (m : Message). m.seq ≤ count_of m.sender (es k)) among.before (message p seq among.value) among.later (subst (All (λ (m : Message). m.seq ≤ count_of m.sender (es k))) among.found (bounded k h))

  -- each sender's number is that of one of its entries
  pub few : (p most k : ℕ) → IsNumbered l w k → All (λ (m : Message). m.sender ≡ p → m.seq ≤ most) (es k) → count_of p (es k) ≤ most
  few p most zero h all = omega arith
  few p most (suc k) h all =
      let e = entry l w k in
      let old = few p most k (fewer k h) (all_left (λ (m : Message). m.sender ≡ p → m.seq ≤ most) (es k) (e ∷ []) all) in
      let c = count_of-push p (es k) e in
      elim (cases_eq e.sender p) [
        | inl same ↦
            (let last = all_last (λ (m : Message). m.sender ≡ p → m.seq ≤ most) (es k) e all same in
            let one = is_its p e.sender same in
            let seq : e.seq ≡ count_of p (es k) + 1 = (h k (omega arith)).1 ∙ ap (λ (q : ℕ). count_of q (es k) + 1) same in
            omega (arith, c, one, seq, last))
        | inr other ↦ (let none = not_its p e.sender other in omega (arith, c, none, old))
      ]

  -- each sender has all numbers up to its count
  pub has_all : (k p seq : ℕ) → IsNumbered l w k → 1 ≤ seq → seq ≤ count_of p (es k) → IsAmong p seq (es k)
  has_all zero p seq h some within = absurd (omega (arith, some, within))
  has_all (suc k) p seq h some within =
      let e = entry l w k in
      let c = count_of-push p (es k) e in
      elim (cases_lt (count_of p (es k)) seq) [
        | inr old ↦ among_more p seq (es k) (e ∷ []) (has_all k p seq (fewer k h) some old)
        | inl above ↦
            elim (cases_eq e.sender p) [
              | inl same ↦
                  (let one = is_its p e.sender same in
                  let count : count_of e.sender (es k) ≡ count_of p (es k) = ap (λ (q : ℕ). count_of q (es k)) same in
                  let number = (h k (omega arith)).1 in
                  let its : e.seq ≡ seq = omega (arith, c, one, count, number, within, above) in
                  let it : e ≡ message p seq e.value = λ i. message (same i) (its i) e.value in
                  record { before = es k; value = e.value; later = []; found = ap (λ (m : Message). es k ++ m ∷ []) it })
              | inr other ↦ absurd (let none = not_its p e.sender other in omega (arith, c, none, within, above))
            ]
      ]

  -- each sender's entries are what it sent
  pub sent_by : (p k : ℕ) → IsNumbered l w k → All (λ (m : Message). m.sender ≡ p → m.value ≡ words_sent p m.seq l.width) (es k) → messages_by p (es k) ≡ messages_sent l.width p (count_of p (es k))
  sent_by p zero h all = refl
  sent_by p (suc k) h all = by (e.sender == p) refl (sent_by p k (fewer k h) (all_left Fits (es k) (e ∷ []) all))
    where
      e : Message
      e = entry l w k

      Fits : Message → Type 0
      Fits m = m.sender ≡ p → m.value ≡ words_sent p m.seq l.width

      split : messages_by p (es k ++ e ∷ []) ≡ messages_by p (es k) ++ filter (is_by p) (e ∷ [])
      split = filter-append (is_by p) (es k) (e ∷ [])

      count : count_of p (es k ++ e ∷ []) ≡ count_of p (es k) + one_if (e.sender == p)
      count = count_of-push p (es k) e

      by : (b : Bool) → (e.sender == p) ≡ b → messages_by p (es k) ≡ messages_sent l.width p (count_of p (es k)) → messages_by p (es k ++ e ∷ []) ≡ messages_sent l.width p (count_of p (es k ++ e ∷ []))
      by true is old =
          let same = eqb-true e.sender p is in
          let c = count_of p (es k) in
          let seq : e.seq ≡ suc c = (let n = (h k (omega arith)).1 in let there : count_of e.sender (es k) ≡ c = ap (λ (q : ℕ). count_of q (es k)) same in omega (arith, n, there)) in
          let value : e.value ≡ words_sent p (suc c) l.width = all_last Fits (es k) e all same ∙ ap (λ (n : ℕ). words_sent p n l.width) seq in
          let it : e ≡ message_sent l.width p (suc c) = λ i. message (same i) (seq i) (value i) in
          let more : count_of p (es k ++ e ∷ []) ≡ suc c = (let one = is_its p e.sender same in omega (arith, count, one)) in
          let kept : filter (is_by p) (e ∷ []) ≡ e ∷ [] = rw is refl in
          split ∙ ap (λ (ms : List Message). messages_by p (es k) ++ ms) kept ∙ (λ i. old i ++ it i ∷ []) ∙ ap (messages_sent l.width p) (sym more)
      by false is old =
          let more : count_of p (es k ++ e ∷ []) ≡ count_of p (es k) = (let none : one_if (e.sender == p) ≡ 0 = ap one_if is in omega (arith, count, none)) in
          let kept : filter (is_by p) (e ∷ []) ≡ [] = rw is refl in
          split ∙ ap (λ (ms : List Message). messages_by p (es k) ++ ms) kept ∙ append-nil (messages_by p (es k)) ∙ old ∙ ap (messages_sent l.width p) (sym more)

-- how many messages the senders below n have together
totals : ℕ → List Message → ℕ
totals zero ms = 0
totals (suc n) ms = totals n ms + count_of n ms

totals_far : (n : ℕ) (m : Message) (ms : List Message) → n ≤ m.sender → totals n (m ∷ ms) ≡ totals n ms
unfolding totals
totals_far zero m ms h = refl
totals_far (suc n) m ms h =
    let old = totals_far n m ms (omega arith) in
    let c = count_cons (is_by n) m ms in
    let none = not_its n m.sender (λ e. omega arith) in
    omega (arith, old, c, none)

totals_near : (n : ℕ) (m : Message) (ms : List Message) → m.sender < n → totals n (m ∷ ms) ≡ suc (totals n ms)
unfolding totals
totals_near zero m ms h = absurd (omega arith)
totals_near (suc n) m ms h =
    let c = count_cons (is_by n) m ms in
    elim (cases_eq m.sender n) [
      | inl e ↦ (let old = totals_far n m ms (omega (arith, e)) in let one = is_its n m.sender e in omega (arith, old, c, one))
      | inr ne ↦ (let old = totals_near n m ms (omega (arith, h, ne)) in let none = not_its n m.sender ne in omega (arith, old, c, none))
    ]

totals_none : (n : ℕ) → totals n [] ≡ 0
unfolding totals
totals_none zero = refl
totals_none (suc n) = omega (arith, totals_none n)

all_counted : (n : ℕ) (ms : List Message) → All (λ (m : Message). m.sender < n) ms → length ms ≡ totals n ms
all_counted n [] h = sym (totals_none n)
all_counted n (m ∷ ms) h =
    let P : Message → Type 0 = λ m. m.sender < n in
    let old = all_counted n ms (All-tail P m ms h) in
    let one = totals_near n m ms (All-head P m ms h) in
    omega (arith, old, one)

totals_each : (n each : ℕ) (ms : List Message) → ((p : ℕ) → p < n → count_of p ms ≡ each) → totals n ms ≡ n * each
unfolding totals
totals_each zero each ms h = omega arith
totals_each (suc n) each ms h =
    let old = totals_each n each ms (λ p low. h p (omega (arith, low))) in
    let here = h n (omega arith) in
    let product : suc n * each ≡ n * each + each = grind arith in
    omega (arith, old, here, product)

pub counted_all : (n each : ℕ) (ms : List Message) → All (λ (m : Message). m.sender < n) ms → ((p : ℕ) → p < n → count_of p ms ≡ each) → length ms ≡ n * each
counted_all n each ms all h = all_counted n ms all ∙ totals_each n each ms h

totals_most : (n each : ℕ) (ms : List Message) → ((p : ℕ) → p < n → count_of p ms ≤ each) → totals n ms ≤ n * each
unfolding totals
totals_most zero each ms h = omega arith
totals_most (suc n) each ms h =
    let old = totals_most n each ms (λ p low. h p (omega (arith, low))) in
    let here = h n (omega arith) in
    let product : suc n * each ≡ n * each + each = grind arith in
    omega (arith, old, here, product)

totals_less : (n each p : ℕ) (ms : List Message) → ((q : ℕ) → q < n → count_of q ms ≤ each) → p < n → count_of p ms < each → totals n ms < n * each
unfolding totals
totals_less zero each p ms h below less = absurd (omega (arith, below))
totals_less (suc n) each p ms h below less =
    let product : suc n * each ≡ n * each + each = grind arith in
    elim (cases_eq p n) [
      | inl same ↦
          (let old = totals_most n each ms (λ q low. h q (omega (arith, low))) in
          let count : count_of n ms ≡ count_of p ms = ap (λ (q : ℕ). count_of q ms) (sym same) in
          omega (arith, old, count, less, product))
      | inr other ↦
          (let old = totals_less n each p ms (λ q low. h q (omega (arith, low))) (omega (arith, below, other)) less in
          let here = h n (omega arith) in
          omega (arith, old, here, product))
    ]

-- if one sender has fewer, there are fewer
pub fewer_all : (n each p : ℕ) (ms : List Message) → All (λ (m : Message). m.sender < n) ms → ((q : ℕ) → q < n → count_of q ms ≤ each) → p < n → count_of p ms < each → length ms < n * each
fewer_all n each p ms all h below less = subst (λ (k : ℕ). k < n * each) (sym (all_counted n ms all)) (totals_less n each p ms h below less)
