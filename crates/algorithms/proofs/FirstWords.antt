-- The words of a world at its beginning: how many rows there are, and how long they are.
use Rattle.std.proofs.Common.{ℕ, zero, suc, ◌+◌, ◌<◌, ◌≤◌, ◌≡◌, ◌⊎◌, ◌∙◌, inl, inr, subst, length-append, sym, refl, ap, arith, add-one, append_assoc, Bool, ◌&&◌, List, [], ◌∷◌, ◌++◌, drop, length, replicate, slice_get, slice_set, Option, Some, None}
use Rattle.std.proofs.lemmas.List.{length-replicate}
use Rattle.std.proofs.lemmas.Option.{same_Some}
use Rattle.algorithms.specs.Extents.{or_zero}
use Rattle.algorithms.specs.FirstWords.{first_row, first_rows, first_value, row_of_values, row_or_zeros, rows_at_beginning, rows_said, values_to, all_below, declaration_size}
use Rattle.algorithms.specs.declared.algorithm.Algorithm.{Algorithm}
use Rattle.algorithms.specs.declared.algorithm.Declaration.{Declaration}
use Rattle.algorithms.specs.declared.expression.Expression.{Expression}
use Rattle.algorithms.specs.declared.first_values.FirstValues.{FirstValues}

-- ---- the values of a function

length_more : {A : Type 0} (xs : List A) (x : A) → length (xs ++ x ∷ []) ≡ length xs + 1
length_more [] x = refl
length_more (y ∷ ys) x = let h = length_more ys x in omega (arith, h)

pub values_length : {A : Type 0} (f : ℕ → A) (n : ℕ) → length (values_to f n) ≡ n
values_length f zero = refl
values_length f (suc n) = let h = length_more (values_to f n) (f n) in let k = values_length f n in omega (arith, h, k)

-- a value more
pub values_more : {A : Type 0} (f : ℕ → A) (n : ℕ) → values_to f n ++ f n ∷ [] ≡ values_to f (n + 1)
values_more f n = rw (add-one n) refl

pub below_more : (test : ℕ → Bool) (n : ℕ) → (all_below test n && test n) ≡ all_below test (n + 1)
below_more test n = rw (add-one n) refl

set_at : {A : Type 0} (xs : List A) (n : ℕ) (y v : A) (zs : List A) → length xs ≡ n → slice_set (xs ++ (y ∷ zs)) n v ≡ xs ++ (v ∷ zs)
set_at [] zero y v zs e = refl
set_at [] (suc n) y v zs e = absurd (omega (arith, e))
set_at (x ∷ xs) zero y v zs e = absurd (omega (arith, e))
set_at (x ∷ xs) (suc n) y v zs e = ap (λ ws. x ∷ ws) (set_at xs n y v zs (omega (arith, e)))

drop_at : {A : Type 0} (n : ℕ) (ys : List A) → n < length ys → (y : A) × (drop n ys ≡ y ∷ drop (suc n) ys)
drop_at n [] h = absurd (omega (arith, h))
drop_at zero (y ∷ ys) h = (y, refl)
drop_at (suc n) (y ∷ ys) h = drop_at n ys (omega (arith, h))

set_values_suc : {A : Type 0} (f : ℕ → A) (n : ℕ) (ys : List A) → n < length ys → slice_set (values_to f n ++ drop n ys) n (f n) ≡ values_to f (suc n) ++ drop (suc n) ys
set_values_suc f n ys h =
    let rest = drop_at n ys h in
    ap (λ zs. slice_set (values_to f n ++ zs) n (f n)) rest.1
    ∙ set_at (values_to f n) n rest.0 (f n) (drop (suc n) ys) (values_length f n)
    ∙ sym (append_assoc (values_to f n) (f n ∷ []) (drop (suc n) ys))

-- one more place is set to the value of the function there
pub set_values : {A : Type 0} (f : ℕ → A) (n : ℕ) (ys : List A) → n < length ys → slice_set (values_to f n ++ drop n ys) n (f n) ≡ values_to f (n + 1) ++ drop (n + 1) ys
set_values f n ys h = rw (add-one n) (set_values_suc f n ys h)

-- ---- how long rows are

got_more : {A : Type 0} (xs : List A) (x y : A) (d : ℕ) → slice_get (xs ++ x ∷ []) d ≡ Some y → (slice_get xs d ≡ Some y) ⊎ (x ≡ y)
got_more [] x y zero e = inr (same_Some x y e)
got_more [] x y (suc d) e = absurd (cc)
got_more (z ∷ zs) x y zero e = inl e
got_more (z ∷ zs) x y (suc d) e = got_more zs x y d e

-- what each value of a function is, each of those in a list of them is
pub value_got : {A : Type 0} (P : A → Type 0) (f : ℕ → A) (n d : ℕ) (y : A) → ((k : ℕ) → P (f k)) → slice_get (values_to f n) d ≡ Some y → P y
value_got P f zero d y each e = absurd (cc)
value_got P f (suc n) d y each e = elim (got_more (values_to f n) (f n) y d e) [
  | inl h ↦ value_got P f n d y each h
  | inr h ↦ subst P h (each n)
]

drop_long : {A : Type 0} (n : ℕ) (ys : List A) → n ≤ length ys → length (drop n ys) + n ≡ length ys
drop_long zero ys h = omega arith
drop_long (suc n) [] h = absurd (omega (arith, h))
drop_long (suc n) (y ∷ ys) h = let k = drop_long n ys (omega (arith, h)) in omega (arith, k)

size_few : (procs limit : ℕ) (d : Declaration) → declaration_size procs limit d ≤ 64
size_few procs limit d = omega arith

filled_long : (f : ℕ → ℕ) (n : ℕ) → n ≤ 64 → length (values_to f n ++ drop n (replicate 64 0)) ≡ 64
filled_long f n few =
    let all = length-append (values_to f n) (drop n (replicate 64 0)) in
    let rest : length {A = ℕ} (drop n (replicate 64 0)) + n ≡ 64 = drop_long n (replicate 64 0) few in
    omega (arith, all, values_length f n, rest)

row_long : (procs limit : ℕ) (d : Declaration) (o : Option Expression) → length (row_of_values procs limit d o) ≡ 64
row_long procs limit d None = refl
row_long procs limit d (Some value) = filled_long (λ i. or_zero (first_value procs limit d value i)) (declaration_size procs limit d) (size_few procs limit d)

-- a row has 64 values
first_row_long : (procs limit : ℕ) (o : Option Declaration) (start : Option (Option Expression)) → length (first_row procs limit o start) ≡ 64
first_row_long procs limit None start = refl
first_row_long procs limit (Some d) None = refl
first_row_long procs limit (Some d) (Some start) = row_long procs limit d start

zeros_long : length {A = ℕ} (replicate 64 0) ≡ 64
zeros_long = refl

or_zeros_long : (o : Option (List ℕ)) → ((row : List ℕ) → o ≡ Some row → length row ≡ 64) → length (row_or_zeros o) ≡ 64
or_zeros_long None each = zeros_long
or_zeros_long (Some row) each = each row refl

pub got_replicate : {A : Type 0} (n : ℕ) (x y : A) (d : ℕ) → slice_get (replicate n x) d ≡ Some y → x ≡ y
got_replicate zero x y d e = absurd (cc)
got_replicate (suc n) x y zero e = same_Some x y e
got_replicate (suc n) x y (suc d) e = got_replicate n x y d e

-- each row at the beginning has 64 values
pub first_long : (a : Algorithm) (procs limit : ℕ) (o : Option FirstValues) (count d : ℕ) (row : List ℕ) → slice_get (rows_at_beginning (first_rows a procs limit o) count) d ≡ Some row → length row ≡ 64
first_long a procs limit None count d row e = ap length (sym (got_replicate count (replicate 64 0) row d e)) ∙ zeros_long
first_long a procs limit (Some v) count d row e =
    let said : ℕ → List ℕ = λ k. first_row procs limit (slice_get a.declarations.items k) (slice_get v.starts.items k) in
    let long : (k : ℕ) → length (said k) ≡ 64 = λ k. first_row_long procs limit (slice_get a.declarations.items k) (slice_get v.starts.items k) in
    let rows : List (List ℕ) = rows_said a procs limit v in
    let each : (k : ℕ) (r : List ℕ) → slice_get rows k ≡ Some r → length r ≡ 64 = λ k r h. value_got (λ r. length r ≡ 64) said (length a.declarations.items) k r long h in
    value_got (λ r. length r ≡ 64) (λ k. row_or_zeros (slice_get rows k)) count d row (λ k. or_zeros_long (slice_get rows k) (each k)) e

-- there are as many rows at the beginning as are asked for
pub rows_length : (first : Option (List (List ℕ))) (count : ℕ) → length (rows_at_beginning first count) ≡ count
rows_length None count = length-replicate count (replicate 64 0)
rows_length (Some rows) count = values_length (λ k. row_or_zeros (slice_get rows k)) count
