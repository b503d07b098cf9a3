-- Puts and gets in a row, after some of their steps.
use Rattle.std.proofs.Common.{◌≡◌, ℕ, zero, suc, ◌+◌, ◌-◌, ◌*◌, ◌<◌, ◌≤◌, List, [], ◌∷◌, ◌++◌, length, take, drop, slice_index, slice_set, refl, sym, ◌∙◌, ap, arith, length-append}
use Rattle.redomail.proofs.Common.{Layout, Record, Reply, saturate, last_at, place_at, puts, Script, gets, in_row, tail, apply_steps, store_steps}
use Rattle.std.proofs.lemmas.List.{take_more_set}

abbrev Puts : Type 0
Puts = List (ℕ × ℕ)

pub held-small : (x : ℕ) → x ≤ 1000000 → saturate x ≡ x
held-small x h = omega arith

drop-in_row : (i : ℕ) (vs : List ℕ) (ys : List (ℕ × ℕ)) (j : ℕ) → j < length vs → drop j (in_row i vs ++ ys) ≡ (saturate (i + j), slice_index vs j) ∷ drop (j + 1) (in_row i vs ++ ys)
drop-in_row i [] ys j h = absurd (omega arith)
drop-in_row i (v ∷ vs) ys zero h =
    let e : i + 0 ≡ i = omega arith in rw e refl
drop-in_row i (v ∷ vs) ys (suc j) h =
    let a : i + suc j ≡ i + 1 + j = omega arith in
    let b : suc j + 1 ≡ suc (j + 1) = omega arith in
    rw (a, b) (drop-in_row (i + 1) vs ys j (omega arith))

drop-past_row : (i : ℕ) (vs : List ℕ) (ys : List (ℕ × ℕ)) (k j : ℕ) → k ≡ length vs + j → drop k (in_row i vs ++ ys) ≡ drop j ys
drop-past_row i [] ys k j h =
    let e : k ≡ j = omega arith in rw e refl
drop-past_row i (v ∷ vs) ys zero j h = absurd (omega arith)
drop-past_row i (v ∷ vs) ys (suc k) j h = drop-past_row (i + 1) vs ys k j (omega arith)

pub length-in_row : (i : ℕ) (vs : List ℕ) → length (in_row i vs) ≡ length vs
length-in_row i [] = refl
length-in_row i (v ∷ vs) = ap suc (length-in_row (i + 1) vs)

-- the steps of storing, by their number
module _ (l : Layout) (p : ℕ) (r : Record) where
  past_record : (k j : ℕ) → k ≡ 2 + length r.value + j → drop k (store_steps l p r) ≡ drop j ((3, 1) ∷ apply_steps l p r)
  past_record k j h = drop-past_row 4 (r.at ∷ r.seq ∷ r.value) ((3, 1) ∷ apply_steps l p r) k j (omega arith)

  past_commit : (k j : ℕ) → k ≡ 3 + length r.value + j → drop k (store_steps l p r) ≡ drop j (apply_steps l p r)
  past_commit k j h = past_record k (suc j) (omega arith)

  past_entry : (k j : ℕ) → k ≡ 5 + 2 * length r.value + j → drop k (store_steps l p r) ≡ drop j ((last_at l p, r.seq) ∷ (2, saturate (r.at + 1)) ∷ (3, 0) ∷ [])
  past_entry k j h =
      past_commit k (2 + length r.value + j) (omega arith)
      ∙ drop-past_row (place_at l r.at) (p ∷ r.seq ∷ r.value) ((last_at l p, r.seq) ∷ (2, saturate (r.at + 1)) ∷ (3, 0) ∷ []) (2 + length r.value + j) j (omega arith)

  pub step-record : (k : ℕ) → length r.value ≤ 8 → k < 2 + length r.value → drop k (store_steps l p r) ≡ (4 + k, slice_index (r.at ∷ r.seq ∷ r.value) k) ∷ drop (k + 1) (store_steps l p r)
  step-record k small h =
      let e : saturate (4 + k) ≡ 4 + k = held-small (4 + k) (omega arith) in
      drop-in_row 4 (r.at ∷ r.seq ∷ r.value) ((3, 1) ∷ apply_steps l p r) k (omega arith) ∙ rw e refl

  pub step-commit : (k : ℕ) → k ≡ 2 + length r.value → drop k (store_steps l p r) ≡ (3, 1) ∷ drop (k + 1) (store_steps l p r)
  step-commit k h = past_record k 0 (omega arith) ∙ ap (λ xs. (3, 1) ∷ xs) (sym (past_record (k + 1) 1 (omega arith)))

  pub step-entry : (k j : ℕ) → k ≡ 3 + length r.value + j → j < 2 + length r.value → drop k (store_steps l p r) ≡ (saturate (place_at l r.at + j), slice_index (p ∷ r.seq ∷ r.value) j) ∷ drop (k + 1) (store_steps l p r)
  step-entry k j h small =
      past_commit k j h
      ∙ (drop-in_row (place_at l r.at) (p ∷ r.seq ∷ r.value) ((last_at l p, r.seq) ∷ (2, saturate (r.at + 1)) ∷ (3, 0) ∷ []) j (omega arith)
      ∙ ap (λ xs. (saturate (place_at l r.at + j), slice_index (p ∷ r.seq ∷ r.value) j) ∷ xs) (sym (past_commit (k + 1) (j + 1) (omega arith))))

  pub step-last : (k : ℕ) → k ≡ 5 + 2 * length r.value → drop k (store_steps l p r) ≡ (last_at l p, r.seq) ∷ drop (k + 1) (store_steps l p r)
  step-last k h = past_entry k 0 (omega arith) ∙ ap (λ xs. (last_at l p, r.seq) ∷ xs) (sym (past_entry (k + 1) 1 (omega arith)))

  pub step-count : (k : ℕ) → k ≡ 6 + 2 * length r.value → drop k (store_steps l p r) ≡ (2, saturate (r.at + 1)) ∷ drop (k + 1) (store_steps l p r)
  step-count k h = past_entry k 1 (omega arith) ∙ ap (λ xs. (2, saturate (r.at + 1)) ∷ xs) (sym (past_entry (k + 1) 2 (omega arith)))

  pub step-disarm : (k : ℕ) → k ≡ 7 + 2 * length r.value → drop k (store_steps l p r) ≡ (3, 0) ∷ drop (k + 1) (store_steps l p r)
  step-disarm k h = past_entry k 2 (omega arith) ∙ ap (λ xs. (3, 0) ∷ xs) (sym (past_entry (k + 1) 3 (omega arith)))

  pub length-store_steps : length (store_steps l p r) ≡ 8 + 2 * length r.value
  length-store_steps =
      let tail3 : Puts = (last_at l p, r.seq) ∷ (2, saturate (r.at + 1)) ∷ (3, 0) ∷ [] in
      omega (
        arith,
        length-append (in_row 4 (r.at ∷ r.seq ∷ r.value)) ((3, 1) ∷ apply_steps l p r),
        length-append (in_row (place_at l r.at) (p ∷ r.seq ∷ r.value)) tail3,
        length-in_row 4 (r.at ∷ r.seq ∷ r.value),
        length-in_row (place_at l r.at) (p ∷ r.seq ∷ r.value),
      )

-- a put of the row, then the rest of the row
puts-step : (xs : List (ℕ × ℕ)) (e : Script Reply) (v k : ℕ) → k < length xs → tail (puts (drop k xs) e) v ≡ puts (drop (k + 1) xs) e
puts-step [] e v k h = absurd (omega arith)
puts-step (x ∷ xs) e v zero h = refl
puts-step (x ∷ xs) e v (suc k) h =
    let b : suc k + 1 ≡ suc (k + 1) = omega arith in rw b (puts-step xs e v k (omega arith))

drop-all : (xs : List (ℕ × ℕ)) (k : ℕ) → k ≡ length xs → drop k xs ≡ []
drop-all [] zero h = refl
drop-all [] (suc k) h = absurd (omega arith)
drop-all (x ∷ xs) zero h = absurd (omega arith)
drop-all (x ∷ xs) (suc k) h = drop-all xs k (omega arith)

pub store-on : (l : Layout) (p : ℕ) (r : Record) (e : Script Reply) (v k : ℕ) → k < 8 + 2 * length r.value → tail (puts (drop k (store_steps l p r)) e) v ≡ puts (drop (k + 1) (store_steps l p r)) e
store-on l p r e v k h =
    let n = length-store_steps l p r in puts-step (store_steps l p r) e v k (omega arith)

pub store-end : (l : Layout) (p : ℕ) (r : Record) (e : Script Reply) (v k : ℕ) → k + 1 ≡ 8 + 2 * length r.value → tail (puts (drop k (store_steps l p r)) e) v ≡ e
store-end l p r e v k h =
    let n = length-store_steps l p r in
    puts-step (store_steps l p r) e v k (omega arith) ∙ ap (λ xs. puts xs e) (drop-all (store_steps l p r) (k + 1) (omega arith))

pub store-redo : (l : Layout) (p : ℕ) (r : Record) (k : ℕ) → k ≡ 3 + length r.value → drop k (store_steps l p r) ≡ apply_steps l p r
store-redo l p r k h = past_commit l p r k 0 (omega arith)

-- a get of the row, then the rest of the row
pub gets-on : (i n m : ℕ) (read : List ℕ) (next : List ℕ → Script Reply) (x : ℕ) → n ≡ suc m → tail (gets i n read next) x ≡ gets (i + 1) m (read ++ x ∷ []) next
gets-on i n m read next x h = rw h refl

-- a repair after one more word, and after the last word
pub read-on : (width read : ℕ) (words : List ℕ) (x : ℕ) (next : List ℕ → Script Reply) → read + 1 ≤ width → read < length words
    → gets (6 + (read + 1)) (width - (read + 1)) (take (read + 1) (slice_set words read x)) next ≡ tail (gets (6 + read) (width - read) (take read words) next) x
read-on width read words x next h room =
    let a : 6 + (read + 1) ≡ 6 + read + 1 = omega arith in
    let b = take_more_set words read x room in
    rw (a, b) (sym (gets-on (6 + read) (width - read) (width - (read + 1)) (take read words) next x (omega arith)))

pub read-end : (width read : ℕ) (words : List ℕ) (x : ℕ) (next : List ℕ → Script Reply) → read + 1 ≡ width → read < length words
    → next (take (read + 1) (slice_set words read x)) ≡ tail (gets (6 + read) (width - read) (take read words) next) x
read-end width read words x next h room =
    let none : width - (read + 1) ≡ 0 = omega arith in
    (rw none refl) ∙ read-on width read words x next (omega arith) room
