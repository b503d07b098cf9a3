-- Words after a put, ranges of words, places, and the words of the list rule that a put does not change.
use Rattle.std.proofs.Common.{◌≡◌, ℕ, zero, suc, ◌+◌, ◌<◌, ◌≤◌, ◌==◌, List, [], ◌∷◌, refl, sym, ◌∙◌, ap, subst, arith, eqb-true, eq-eqb, ne_eqb}
use Rattle.redomail.proofs.Common.{cond_both, cond-true, cond-false, put, Layout, deeds_of_put, row, Words, last_at, IsLayout, place_at, message, entry, entries, IsNumbered, ListRule}

pub put-other : (w : Words) (i v j : ℕ) → (j ≡ i → ⊥) → put w i v j ≡ w j
put-other w i v j ne = cond-false (j == i) v (w j) (ne_eqb j i ne)

pub put-same : (w : Words) (i v j : ℕ) → j ≡ i → put w i v j ≡ v
put-same w i v j e = cond-true (j == i) v (w j) (eq-eqb j i e)

-- a put of a word's own value changes nothing
pub put-nothing : (w : Words) (i v : ℕ) → w i ≡ v → put w i v ≡ w
put-nothing w i v e = λ t j. each j t
  where
    each : (j : ℕ) → put w i v j ≡ w j
    each j = cond_both (j == i) v (w j) (λ x. x ≡ w j) (λ h. sym e ∙ ap w (sym (eqb-true j i h))) (λ _. refl)

-- Places don't overlap.
pub place_low : (l : Layout) (a : ℕ) → 10 + l.width + l.procs ≤ place_at l a
unfolding place_at
place_low l a = omega arith

pub place_up : (l : Layout) (a b : ℕ) → a < b → place_at l a + 2 + l.width ≤ place_at l b
unfolding place_at
place_up l a b h = grind arith

pub place_small : (l : Layout) (a : ℕ) → IsLayout l → a ≤ 65536 → place_at l a ≤ 900000
unfolding place_at
place_small l a h small = grind arith

-- Ranges of words.
pub row-alike : (v w : Words) (i n : ℕ) → ((j : ℕ) → i ≤ j → j < i + n → v j ≡ w j) → row v i n ≡ row w i n
row-alike v w i zero alike = refl
row-alike v w i (suc n) alike =
    let a = alike i (omega arith) (omega arith) in
    let b = row-alike v w (i + 1) n (λ j x y. alike j (omega arith) (omega arith)) in
    rw (a, b) refl

-- the words of an entry, as a range
pub entry-from_row : (l : Layout) (w : Words) (a p seq : ℕ) (value : List ℕ) → row w (place_at l a) (suc (suc l.width)) ≡ p ∷ seq ∷ value → entry l w a ≡ message p seq value
entry-from_row l w a p seq value e =
    let two : place_at l a + 1 + 1 ≡ place_at l a + 2 = omega arith in
    let x : w (place_at l a) ≡ p = cc in
    let y : w (place_at l a + 1) ≡ seq = cc in
    let z : row w (place_at l a + 1 + 1) l.width ≡ value = cc in
    let z2 : row w (place_at l a + 2) l.width ≡ value = subst (λ i. row w i l.width ≡ value) two z in
    rw (x, y, z2) refl

pub row-from_entry : (l : Layout) (w : Words) (a p seq : ℕ) (value : List ℕ) → entry l w a ≡ message p seq value → row w (place_at l a) (suc (suc l.width)) ≡ p ∷ seq ∷ value
row-from_entry l w a p seq value e =
    let two : place_at l a + 1 + 1 ≡ place_at l a + 2 = omega arith in
    let x : w (place_at l a) ≡ p = ap (λ m. m.sender) e in
    let y : w (place_at l a + 1) ≡ seq = ap (λ m. m.seq) e in
    let z : row w (place_at l a + 2) l.width ≡ value = ap (λ m. m.value) e in
    rw (x, y, two, z) refl

-- Entries.
pub entry-alike : (l : Layout) (v w : Words) (a : ℕ) → ((i : ℕ) → place_at l a ≤ i → i < place_at l a + 2 + l.width → v i ≡ w i) → entry l v a ≡ entry l w a
entry-alike l v w a alike =
    let x = alike (place_at l a) (omega arith) (omega arith) in
    let y = alike (place_at l a + 1) (omega arith) (omega arith) in
    let z = row-alike v w (place_at l a + 2) l.width (λ j f g. alike j (omega arith) (omega arith)) in
    rw (x, y, z) refl

pub entries-alike : (l : Layout) (v w : Words) (k : ℕ) → ((i : ℕ) → 10 + l.width + l.procs ≤ i → i < place_at l k → v i ≡ w i) → entries l v k ≡ entries l w k
entries-alike l v w zero alike = refl
entries-alike l v w (suc k) alike =
    let low = place_low l k in
    let up = place_up l k (suc k) (omega arith) in
    let front = entries-alike l v w k (λ i a b. alike i a (omega arith)) in
    let e = entry-alike l v w k (λ i a b. alike i (omega arith) (omega arith)) in
    rw (front, e) refl

pub IsNumbered-alike : (l : Layout) (v w : Words) (k : ℕ) → ((i : ℕ) → 10 + l.width + l.procs ≤ i → i < place_at l k → v i ≡ w i) → IsNumbered l w k → IsNumbered l v k
IsNumbered-alike l v w k alike numbered a h =
    let low = place_low l a in
    let up = place_up l a k h in
    let s = alike (place_at l a) (omega arith) (omega arith) in
    let n = alike (place_at l a + 1) (omega arith) (omega arith) in
    let es = entries-alike l v w a (λ i x y. alike i x (omega arith)) in
    rw (s, n, es) (numbered a h)

pub ListRule-alike : (l : Layout) (v w : Words) (k : ℕ) → ((i : ℕ) → 10 + l.width ≤ i → i < place_at l k → v i ≡ w i) → ListRule l w k → ListRule l v k
ListRule-alike l v w k alike rule =
    let low = place_low l k in
    record {
      numbered = IsNumbered-alike l v w k (λ i a b. alike i (omega arith) b) rule.numbered;
      counted = λ q h.
          let es = entries-alike l v w k (λ i a b. alike i (omega arith) b) in
          let e = alike (last_at l q) (omega arith) (omega arith) in
          rw (e, es) (rule.counted q h);
    }

-- a put that touches no word of the list rule has no deed
pub deeds_of_put-none : (l : Layout) (p : ℕ) (w : Words) (i v : ℕ) → 3 < i → deeds_of_put l p w i v ≡ []
deeds_of_put-none l p w i v h =
    rw (ne_eqb i 3 (λ e. omega arith), ne_eqb i 2 (λ e. omega arith), ne_eqb i 1 (λ e. omega arith), ne_eqb i 0 (λ e. omega arith))
    (cond_both (w i == v) [] [] (λ x. x ≡ []) (λ _. refl) (λ _. refl))
