-- The words of a wider image have the indexes of its layout.
use Rattle.std.proofs.Common.{◌≡◌, ℕ, zero, suc, ◌+◌, ◌-◌, ◌<◌, ◌≤◌, List, [], ◌++◌, length, drop, refl, sym, ap, inl, inr, ◌∙◌, arith, append_assoc, length-append, length-take, length-drop, append-nil}
use Rattle.rmeworld.proofs.ImageCommon.{take-append_seam, drop-append_seam, cases_eq, Own, Layout, HeadsHold, Words, size, words_of, row, place_at, entry, place_low, entry-from_row, Image, layout_of}
use Rattle.rmeworld.proofs.ImageCommon.{padded_words, widened_message, IsWider, words_from, wide_place, wide_words}
use Rattle.rmecore.specs.Body.{zeros}
use Rattle.redomail.proofs.Readings.{row-slice, place_within}

length-zeros : (n : ℕ) → length (zeros n) ≡ n
length-zeros zero = refl
length-zeros (suc n) = ap suc (length-zeros n)

length-padded : (n : ℕ) (xs : List ℕ) → length xs ≤ n → length (padded_words n xs) ≡ n
length-padded n xs h = omega (arith, length-append xs (zeros (n - length xs)), length-zeros (n - length xs))

length-words_from : (i n : ℕ) (xs : List ℕ) → i + n ≤ length xs → length (words_from i n xs) ≡ n
length-words_from i n xs h = omega (arith, length-take n (drop i xs), length-drop i xs)

-- the lists that the parts of a wider image append
pub padded_from : (before between after xs : List ℕ) (i n wide : ℕ) → i + n ≤ length xs → between ≡ before ++ words_from i n xs → after ≡ between ++ zeros (wide - n)
    → after ≡ before ++ padded_words wide (words_from i n xs)
padded_from before between after xs i n wide h e f =
    let part = words_from i n xs in
    f
    ∙ ap (λ ys. ys ++ zeros (wide - n)) e
    ∙ append_assoc before part (zeros (wide - n))
    ∙ ap (λ k. before ++ (part ++ zeros (wide - k))) (sym (length-words_from i n xs h))

pub place_from : (before between after xs : List ℕ) (l : Layout) (wide a at : ℕ) → at ≡ place_at l a → between ≡ before ++ words_from at 2 xs
    → after ≡ between ++ padded_words wide (words_from (at + 2) l.width xs)
    → after ≡ before ++ wide_place l wide xs a
place_from before between after xs l wide a at same e f =
    let value = padded_words wide (words_from (at + 2) l.width xs) in
    f
    ∙ ap (λ ys. ys ++ value) e
    ∙ append_assoc before (words_from at 2 xs) value
    ∙ ap (λ k. before ++ (words_from k 2 xs ++ padded_words wide (words_from (k + 2) l.width xs))) same

pub front_from : (before one two after xs : List ℕ) (l : Layout) (wide : ℕ) → one ≡ before ++ words_from 0 6 xs
    → two ≡ one ++ padded_words wide (words_from 6 l.width xs)
    → after ≡ two ++ words_from (6 + l.width) (4 + l.procs) xs
    → after ≡ before ++ wide_words l wide xs 0
front_from before one two after xs l wide e f g =
    let head = words_from 0 6 xs in
    let value = padded_words wide (words_from 6 l.width xs) in
    let others = words_from (6 + l.width) (4 + l.procs) xs in
    g
    ∙ ap (λ ys. ys ++ others) (f ∙ ap (λ ys. ys ++ value) e ∙ append_assoc before head value)
    ∙ append_assoc before (head ++ value) others

pub one_place_more : (before between after xs : List ℕ) (l : Layout) (wide a : ℕ) → between ≡ before ++ wide_words l wide xs a
    → after ≡ between ++ wide_place l wide xs a
    → after ≡ before ++ wide_words l wide xs (a + 1)
one_place_more before between after xs l wide a e f =
    let next : suc a ≡ a + 1 = omega arith in
    f
    ∙ ap (λ ys. ys ++ wide_place l wide xs a) e
    ∙ append_assoc before (wide_words l wide xs a) (wide_place l wide xs a)
    ∙ ap (λ k. before ++ wide_words l wide xs k) next

-- a range between two lists
row_between : (front bs cs ys : List ℕ) (i n : ℕ) → ys ≡ front ++ (bs ++ cs) → length front ≡ i → length bs ≡ n → row (words_of ys) i n ≡ bs
row_between front bs cs ys i n e a b =
    let all = ap length e in
    let low : i + n ≤ length ys = omega (arith, all, a, b, length-append front (bs ++ cs), length-append bs cs) in
    row-slice ys i n low ∙ rw (e, ← a, ← b, drop-append_seam front (bs ++ cs)) (take-append_seam bs cs)

place_start : (l : Layout) → place_at l 0 ≡ 10 + l.width + l.procs
unfolding place_at
place_start l = omega arith

place_next : (l : Layout) (a : ℕ) → place_at l (suc a) ≡ place_at l a + 2 + l.width
unfolding place_at
place_next l a = grind arith

module _ (l : Layout) (wide : ℕ) (xs : List ℕ) (h : HeadsHold l xs) (more : l.width ≤ wide) where
  abbrev m : Layout
  m = record { procs = l.procs; cap = l.cap; width = wide }

  abbrev heads : List ℕ
  heads = words_from 0 6 xs

  abbrev value : List ℕ
  value = padded_words wide (words_from 6 l.width xs)

  abbrev others : List ℕ
  others = words_from (6 + l.width) (4 + l.procs) xs

  pub long : 10 + l.width + l.procs ≤ length xs
  long = omega (arith, place_low l l.cap, h.size)

  length-heads : length heads ≡ 6
  length-heads = length-words_from 0 6 xs (omega (arith, long))

  length-value : length value ≡ wide
  length-value = length-padded wide (words_from 6 l.width xs) (omega (arith, length-words_from 6 l.width xs (omega (arith, long))))

  length-others : length others ≡ 4 + l.procs
  length-others = length-words_from (6 + l.width) (4 + l.procs) xs (omega (arith, long))

  length-place : (a : ℕ) → a < l.cap → length (wide_place l wide xs a) ≡ 2 + wide
  length-place a room =
      let within = (place_within l xs a h room).1 in
      let two = length-words_from (place_at l a) 2 xs (omega (arith, within)) in
      let old = length-words_from (place_at l a + 2) l.width xs (omega (arith, within)) in
      let new = length-padded wide (words_from (place_at l a + 2) l.width xs) (omega (arith, old)) in
      omega (arith, two, new, length-append (words_from (place_at l a) 2 xs) (padded_words wide (words_from (place_at l a + 2) l.width xs)))

  length-wide : (k : ℕ) → k ≤ l.cap → length (wide_words l wide xs k) ≡ place_at m k
  length-wide zero low = omega (arith, length-append (heads ++ value) others, length-append heads value, length-heads, length-value, length-others, place_start m)
  length-wide (suc k) low =
      omega (arith, length-append (wide_words l wide xs k) (wide_place l wide xs k), length-wide k (omega arith), length-place k (omega arith), place_next m k)

  -- the words after the first ones
  after_front : (k : ℕ) → (ts : List ℕ) × (wide_words l wide xs k ≡ wide_words l wide xs 0 ++ ts)
  after_front zero = ([], sym (append-nil (wide_words l wide xs 0)))
  after_front (suc k) =
      let before = after_front k in
      (before.0 ++ wide_place l wide xs k, ap (λ ys. ys ++ wide_place l wide xs k) before.1 ∙ append_assoc (wide_words l wide xs 0) before.0 (wide_place l wide xs k))

  -- the words after a place
  after_place : (k a : ℕ) → a < k → (ts : List ℕ) × (wide_words l wide xs k ≡ wide_words l wide xs a ++ (wide_place l wide xs a ++ ts))
  after_place zero a low = absurd (omega arith)
  after_place (suc k) a low =
      elim (cases_eq a k) [
        | inl same ↦
            ([], (rw same (ap (λ ys. wide_words l wide xs k ++ ys) (sym (append-nil (wide_place l wide xs k))))))
        | inr other ↦
            (let before = after_place k a (omega arith) in (
              before.0 ++ wide_place l wide xs k,
              ap (λ ys. ys ++ wide_place l wide xs k) before.1
                  ∙ append_assoc (wide_words l wide xs a) (wide_place l wide xs a ++ before.0) (wide_place l wide xs k)
                  ∙ ap (λ ys. wide_words l wide xs a ++ ys) (append_assoc (wide_place l wide xs a) before.0 (wide_place l wide xs k)),
            ))
      ]

  module _ (ys : List ℕ) (e : ys ≡ wide_words l wide xs l.cap) where
    pub filled : length ys ≡ size m
    filled = ap length e ∙ length-wide l.cap (omega arith)

    abbrev rest : List ℕ
    rest = (after_front l.cap).0

    all : ys ≡ heads ++ value ++ (others ++ rest)
    all = e ∙ (after_front l.cap).1 ∙ append_assoc (heads ++ value) others rest

    pub heads_stand : row (words_of ys) 0 6 ≡ row (words_of xs) 0 6
    heads_stand =
        row_between [] heads (value ++ (others ++ rest)) ys 0 6 (all ∙ append_assoc heads value (others ++ rest)) refl length-heads
        ∙ sym (row-slice xs 0 6 (omega (arith, long)))

    pub value_stands : row (words_of ys) 6 wide ≡ padded_words wide (row (words_of xs) 6 l.width)
    value_stands =
        row_between heads value (others ++ rest) ys 6 wide (all ∙ append_assoc heads value (others ++ rest)) length-heads length-value
        ∙ ap (padded_words wide) (sym (row-slice xs 6 l.width (omega (arith, long))))

    pub others_stand : row (words_of ys) (6 + wide) (4 + l.procs) ≡ row (words_of xs) (6 + l.width) (4 + l.procs)
    others_stand =
        row_between (heads ++ value) others rest ys (6 + wide) (4 + l.procs) all (omega (arith, length-append heads value, length-heads, length-value)) length-others
        ∙ sym (row-slice xs (6 + l.width) (4 + l.procs) (omega (arith, long)))

    pub places_stand : (a : ℕ) → a < l.cap → entry m (words_of ys) a ≡ widened_message wide (entry l (words_of xs) a)
    places_stand a room =
        let w : Words = words_of xs in
        let within = (place_within l xs a h room).1 in
        let after_it = after_place l.cap a room in
        let stands = row_between (wide_words l wide xs a) (wide_place l wide xs a) after_it.0 ys (place_at m a) (2 + wide) (e ∙ after_it.1) (length-wide a (omega arith)) (length-place a room) in
        let two : row w (place_at l a) 2 ≡ words_from (place_at l a) 2 xs = row-slice xs (place_at l a) 2 (omega (arith, within)) in
        let old : row w (place_at l a + 2) l.width ≡ words_from (place_at l a + 2) l.width xs = row-slice xs (place_at l a + 2) l.width (omega (arith, within)) in
        let n : 2 + wide ≡ suc (suc wide) = omega arith in
        entry-from_row m (words_of ys) a (w (place_at l a)) (w (place_at l a + 1)) (padded_words wide (row w (place_at l a + 2) l.width))
        ((rw n at stands) ∙ rw (← two, ← old) refl)

-- The wider image with these words.
pub wider_by : (wide : ℕ) (i : Image) (ys : List ℕ) (lock : List Own) → HeadsHold (layout_of i) i.cells → i.width ≤ wide → ys ≡ wide_words (layout_of i) wide i.cells i.cap → lock ≡ i.lock
    → IsWider wide i (record { cap = i.cap; cells = ys; limit = i.limit; lock = lock; version = 2; width = wide })
wider_by wide i ys lock h more e same = record {
  version = refl;
  width = refl;
  cap = refl;
  limit = refl;
  lock = same;
  filled = rw same (filled (layout_of i) wide i.cells h more ys e);
  heads = heads_stand (layout_of i) wide i.cells h more ys e;
  recorded = value_stands (layout_of i) wide i.cells h more ys e;
  others = others_stand (layout_of i) wide i.cells h more ys e;
  places = rw same (places_stand (layout_of i) wide i.cells h more ys e);
}
