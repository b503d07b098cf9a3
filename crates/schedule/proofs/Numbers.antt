-- Digits, and the numbers that they write.
use Rattle.std.proofs.Common.{◌≡◌, ℕ, ◌+◌, ◌*◌, ◌-◌, ◌^◌, ◌<◌, ◌≤◌, true, List, length, get_or, take, refl, ap, ◌∙◌, lit<, arith, rules}
use Rattle.schedule.proofs.LinesCommon.{common_steps, IsNumeralModel, numerals_by_value, digits_value-take-le, digits_value_short, digit_at, is_ascii_digit, digit_value, list_all, digits_value, AllDigits}
use Rattle.std.proofs.lemmas.List.Folds.{list_all_more}
use Rattle.std.proofs.lemmas.Int.Digits.{digits_value_more}

pub own : IsNumeralModel (λ ds. list_all is_ascii_digit ds ≡ true) (digits_value 10)
own = numerals_by_value _ (search rules)

pub all_digits : (word : List ℕ) → list_all is_ascii_digit word ≡ true → AllDigits 10 word
all_digits word e = own.to word e

digit_is : (c : ℕ) → 48 ≤ c → c ≤ 57 → digit_value c ≡ c - 48
digit_is c low high = grind arith

pub value_step : (ds : List ℕ) (i : ℕ) → AllDigits 10 ds → i < length ds
    → digits_value 10 (take (i + 1) ds) ≡ digits_value 10 (take i ds) * 10 + (get_or ds i 0 - 48)
value_step ds i all lt =
    let at = digit_at ds i all lt in
    digits_value_more 10 ds i lt ∙ ap (λ d. digits_value 10 (take i ds) * 10 + d) (digit_is _ at.0 at.1)

pub value_over : (ds : List ℕ) (i : ℕ) → AllDigits 10 ds → i < length ds
    → 2 ^ 64 ≤ digits_value 10 (take i ds) * 10 + (get_or ds i 0 - 48) → 2 ^ 64 ≤ digits_value 10 ds
value_over ds i all lt over = omega (arith, value_step ds i all lt, digits_value-take-le 10 ds (i + 1) (omega arith))

ascii_is : (c : ℕ) → is_ascii_digit c ≡ true → digit_value c ≡ c - 48
ascii_is c e = grind arith

-- one more digit of a short word
pub short_step : (ds : List ℕ) (i : ℕ) → length ds ≤ 19 → i < length ds → list_all is_ascii_digit (take i ds) ≡ true → is_ascii_digit (get_or ds i 0) ≡ true
    → (list_all is_ascii_digit (take (i + 1) ds) ≡ true) × (digits_value 10 (take (i + 1) ds) ≡ digits_value 10 (take i ds) * 10 + (get_or ds i 0 - 48))
    × (digits_value 10 (take i ds) * 10 + (get_or ds i 0 - 48) < 2 ^ 64)
short_step ds i short lt all digit =
    let more : list_all is_ascii_digit (take (i + 1) ds) ≡ true = list_all_more is_ascii_digit ds i 0 lt ∙ rw (all, digit) refl in
    let value : digits_value 10 (take (i + 1) ds) ≡ digits_value 10 (take i ds) * 10 + (get_or ds i 0 - 48) =
    digits_value_more 10 ds i lt ∙ ap (λ d. digits_value 10 (take i ds) * 10 + d) (ascii_is (get_or ds i 0) digit) in
    let few : length (take (i + 1) ds) ≤ 19 = grind (arith, common_steps) in
    let bound : digits_value 10 (take (i + 1) ds) < 10 ^ 19 = digits_value_short own (take (i + 1) ds) 19 more few in
    let fits : 10 ^ 19 < 2 ^ 64 = lit< tt in
    (more, value, omega (arith, value, bound, fits))
