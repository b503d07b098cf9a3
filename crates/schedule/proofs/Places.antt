-- Places of a line: reading and spelling their numbers are inverse.
use Rattle.std.proofs.Common.{◌≡◌, ℕ, zero, suc, ◌^◌, ◌<◌, ◌≤◌, ◌==◌, Bool, true, false, cond, ltb, eqb, not, ◌||◌, List, [], ◌∷◌, length, get_or, map, drop, Option, Some, None, Result, Ok, Err, refl, sym, ap, subst, ◌∙◌, arith, inl, inr, ⊎_elim, lit<, eqb-true, ltb-false, ltb-true, le-ltb, lt-ltb, ne_eqb}
use Rattle.schedule.proofs.LinesCommon.{cases_eq, cases_Bool, and_parts, and_from, or_cases, or_left, or_right, not-true, not-false, not_from_false, cond-true, cond-false, decimal_digit, digits_decimal}
use Rattle.schedule.proofs.LinesCommon.{decimal-digits_value, decimal_nonempty, digits_value-decimal, first_decimal, decimal, AllByRecursion, digits_value, LineFault, BadNumber, TooBig, WordShape, Number, repeated_shape}
use Rattle.schedule.proofs.LinesCommon.{has_fixed, numbers_at, first_of, value_of_name, ◌>>=◌, Fixed, is_numeral, number_in}
use Rattle.std.proofs.lemmas.Slice.Eq.{bytes_eq-Decides}
use Rattle.std.specs.Str.{bytes_eq}
use Rattle.schedule.proofs.Numbers.{own}

-- ---- results

pub bind_ok : {A B E : Type 0} (r : Result A E) (f : A → Result B E) (y : B) → (r >>= f) ≡ Ok y → (x : A) × (r ≡ Ok x) × (f x ≡ Ok y)
bind_ok (Ok x) f y e = (x, refl, e)
bind_ok (Err d) f y e = absurd cc

-- a test that did not fail
pub pass : {A E : Type 0} (b : Bool) (d : E) (r : Result A E) (y : A) → cond b (Err d) r ≡ Ok y → (b ≡ false) × (r ≡ Ok y)
pass true d r y e = absurd cc
pass false d r y e = (refl, e)

pub taken : {A E : Type 0} (b : Bool) (d : E) (r : Result A E) (y : A) → cond b r (Err d) ≡ Ok y → (b ≡ true) × (r ≡ Ok y)
taken true d r y e = (refl, e)
taken false d r y e = absurd cc

abbrev pub done : {A E : Type 0} → A → Result A E
done x = Ok x

pub ok_is : {A E : Type 0} (x y : A) → done {A = A} {E = E} x ≡ done y → x ≡ y
ok_is x y e = cc

-- ---- one number

lead_is : (word : List ℕ) → (length word == 1 || not (get_or word 0 0 == 48)) ≡ true → get_or word 0 0 ≡ 48 → length word ≡ 1
lead_is word e zero_first =
    ⊎_elim (λ one. eqb-true _ _ one) (λ other. absurd (let no : eqb (get_or word 0 0) 48 ≡ false = not-true _ other in let yes : eqb (get_or word 0 0) 48 ≡ true = rw zero_first refl in cc)) (or_cases _ _ e)

pub number_takes : (least most : ℕ) (o : Option (List ℕ)) (n : ℕ) → most < 2 ^ 64 → number_in least most o ≡ Ok n → (o ≡ Some (decimal n)) × (least ≤ n) × (n ≤ most)
unfolding number_in
number_takes least most None n small e = absurd cc
number_takes least most (Some word) n small e =
    let a = pass (not (is_numeral word)) BadNumber _ n e in
    let b = pass (ltb (digits_value 10 word) least) BadNumber _ n a.1 in
    let c = pass (ltb most (digits_value 10 word)) TooBig _ n b.1 in
    let is : digits_value 10 word ≡ n = ok_is {E = LineFault} _ n c.1 in
    let low = ltb-false _ _ b.0 in
    let high = ltb-false _ _ c.0 in
    let numeral = and_parts _ _ (not-false _ a.0) in
    let digits = and_parts _ _ numeral.0 in
    let back = decimal-digits_value own word digits.1 (ltb-true _ _ digits.0) (lead_is word numeral.1) (omega arith) in
    (ap (λ (w : List ℕ). Some w) (sym back ∙ ap decimal is), omega arith, omega arith)

decimal_numeral : (n : ℕ) → n < 2 ^ 64 → is_numeral (decimal n) ≡ true
decimal_numeral n small =
    let some = lt-ltb _ _ (decimal_nonempty n small) in
    let digits = digits_decimal own n small in
    let lead : (length (decimal n) == 1 || not (get_or (decimal n) 0 0 == 48)) ≡ true =
    elim (cases_eq n 0) [
      | inl is ↦ or_left (length (decimal n) == 1) (not (get_or (decimal n) 0 0 == 48)) (rw (is, decimal_digit 0 (lit< tt)) refl)
      | inr isnt ↦ or_right _ _ (not_from_false _ (ne_eqb (get_or (decimal n) 0 0) 48 (λ (z : get_or (decimal n) 0 0 ≡ 48). absurd (let h = first_decimal n (omega arith) small in omega arith))))
    ] in
    and_from _ _ (and_from _ _ some digits) lead

pub number_again : (least most n : ℕ) → most < 2 ^ 64 → least ≤ n → n ≤ most → number_in least most (Some (decimal n)) ≡ Ok n
unfolding number_in
number_again least most n small low high =
    let value = digits_value-decimal own n (omega arith) in
    rw (decimal_numeral n (omega arith), value, le-ltb n least low, le-ltb most n high) refl

-- ---- the places of a line

-- the words of these numbers
abbrev pub spelled : List WordShape → List ℕ → List (List ℕ)
spelled [] ns = []
spelled (Fixed word ∷ shapes) ns = word ∷ spelled shapes ns
spelled (Number least most ∷ shapes) [] = []
spelled (Number least most ∷ shapes) (n ∷ ns) = decimal n ∷ spelled shapes ns

abbrev pub Fits : List WordShape → List ℕ → Type 0
Fits [] [] = Unit {0}
Fits [] (n ∷ ns) = ⊥
Fits (Fixed word ∷ shapes) ns = Fits shapes ns
Fits (Number least most ∷ shapes) [] = ⊥
Fits (Number least most ∷ shapes) (n ∷ ns) = (least ≤ n) × (n ≤ most) × (most < 2 ^ 64) × Fits shapes ns

abbrev pub AreNarrow : List WordShape → Type 0
AreNarrow [] = Unit {0}
AreNarrow (Fixed word ∷ shapes) = AreNarrow shapes
AreNarrow (Number least most ∷ shapes) = (most < 2 ^ 64) × AreNarrow shapes

first_is : (ws : List (List ℕ)) (w : List ℕ) → first_of ws ≡ Some w → ws ≡ w ∷ drop 1 ws
first_is [] w e = absurd cc
first_is (v ∷ ws) w e = let is : v ≡ w = cc in ap (λ (x : List ℕ). x ∷ ws) is

pub numbers_take : (shapes : List WordShape) (ws : List (List ℕ)) (ns : List ℕ) → AreNarrow shapes → has_fixed shapes ws ≡ true → numbers_at shapes ws ≡ Ok ns
    → (ws ≡ spelled shapes ns) × Fits shapes ns
numbers_take [] [] ns narrow fixed e = subst (λ (xs : List ℕ). ([] ≡ spelled [] xs) × Fits [] xs) (ok_is {E = LineFault} [] ns e) (refl, tt)
numbers_take [] (w ∷ ws) ns narrow fixed e = absurd cc
numbers_take (Fixed word ∷ shapes) [] ns narrow fixed e = absurd cc
numbers_take (Fixed word ∷ shapes) (w ∷ ws) ns narrow fixed e =
    let p = and_parts (bytes_eq w word) (has_fixed shapes ws) fixed in
    let rest = numbers_take shapes ws ns narrow p.1 e in
    let is : w ≡ word = (bytes_eq-Decides w word).0 p.0 in
    (ap (λ (x : List ℕ). x ∷ ws) is ∙ ap (λ (xs : List (List ℕ)). word ∷ xs) rest.0, rest.1)
numbers_take (Number least most ∷ shapes) ws ns narrow fixed e =
    let a = bind_ok (number_in least most (first_of ws)) (λ n. numbers_at shapes (drop 1 ws) >>= λ xs. Ok (n ∷ xs)) ns e in
    let b = bind_ok (numbers_at shapes (drop 1 ws)) (λ xs. Ok (a.0 ∷ xs)) ns a.2 in
    let t = number_takes least most (first_of ws) a.0 narrow.0 a.1 in
    let rest = numbers_take shapes (drop 1 ws) b.0 narrow.1 fixed b.1 in
    subst (λ (xs : List ℕ). (ws ≡ spelled (Number least most ∷ shapes) xs) × Fits (Number least most ∷ shapes) xs) (ok_is {E = LineFault} (a.0 ∷ b.0) ns b.2)
    (first_is ws (decimal a.0) t.0 ∙ ap (λ (xs : List (List ℕ)). decimal a.0 ∷ xs) rest.0, (t.1, t.2, narrow.0, rest.1))

pub numbers_again : (shapes : List WordShape) (ns : List ℕ) → Fits shapes ns → numbers_at shapes (spelled shapes ns) ≡ Ok ns
numbers_again [] [] h = refl
numbers_again [] (n ∷ ns) h = absurd h
numbers_again (Fixed word ∷ shapes) ns h = numbers_again shapes ns h
numbers_again (Number least most ∷ shapes) [] h = absurd h
numbers_again (Number least most ∷ shapes) (n ∷ ns) h = rw (number_again least most n h.2 h.0 h.1, numbers_again shapes ns h.3) refl

pub fixed_again : (shapes : List WordShape) (ns : List ℕ) → Fits shapes ns → has_fixed shapes (spelled shapes ns) ≡ true
fixed_again [] ns h = refl
fixed_again (Fixed word ∷ shapes) ns h = and_from (bytes_eq word word) (has_fixed shapes (spelled shapes ns)) ((bytes_eq-Decides word word).1 refl) (fixed_again shapes ns h)
fixed_again (Number least most ∷ shapes) [] h = absurd h
fixed_again (Number least most ∷ shapes) (n ∷ ns) h = fixed_again shapes ns h.3

-- ---- many numbers

pub many_narrow : (width : ℕ) → AreNarrow (repeated_shape width)
many_narrow zero = tt
many_narrow (suc n) = (lit< tt, many_narrow n)

pub many_fixed : (width : ℕ) (ws : List (List ℕ)) → has_fixed (repeated_shape width) ws ≡ true
many_fixed zero ws = refl
many_fixed (suc n) ws = many_fixed n (drop 1 ws)

pub many_from : (width : ℕ) (v : List ℕ) → Fits (repeated_shape width) v → (spelled (repeated_shape width) v ≡ map decimal v) × (length v ≡ width) × AllByRecursion (λ n. n < 2 ^ 64) v
many_from zero [] h = (refl, refl, tt)
many_from zero (n ∷ ns) h = absurd h
many_from (suc w) [] h = absurd h
many_from (suc w) (n ∷ ns) h = let rest = many_from w ns h.3 in (ap (λ (xs : List (List ℕ)). decimal n ∷ xs) rest.0, ap suc rest.1, (omega arith, rest.2))

pub many_fit : (width : ℕ) (v : List ℕ) → length v ≡ width → AllByRecursion (λ n. n < 2 ^ 64) v → Fits (repeated_shape width) v
many_fit zero [] l h = tt
many_fit zero (n ∷ ns) l h = absurd (omega arith)
many_fit (suc w) [] l h = absurd (omega arith)
many_fit (suc w) (n ∷ ns) l h = (omega arith, omega (arith, h.0), lit< tt, many_fit w ns (omega arith) h.1)

-- ---- words that name something

pub named_is : {A : Type 0} (name : A → List ℕ) (entries : List (List ℕ × A)) (word : List ℕ) (a : A)
    → AllByRecursion (λ e. name e.1 ≡ e.0) entries → value_of_name entries word ≡ Some a → word ≡ name a
named_is name [] word a all e = absurd cc
named_is name (entry ∷ entries) word a all e =
    elim (cases_Bool (bytes_eq word entry.0)) [
      | inl same ↦ let found : cond (bytes_eq word entry.0) (Some entry.1) (value_of_name entries word) ≡ Some entry.1 = cond-true _ _ _ same in
          let is : entry.1 ≡ a = cc in
          (bytes_eq-Decides word entry.0).0 same ∙ sym all.0 ∙ ap name is
      | inr other ↦ named_is name entries word a all.1 (sym (cond-false (bytes_eq word entry.0) (Some entry.1) (value_of_name entries word) other) ∙ e)
    ]
