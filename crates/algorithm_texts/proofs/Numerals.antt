-- Digits, and the numbers that they write.
use Rattle.std.proofs.Common.{◌≡◌, ℕ, ◌+◌, ◌*◌, ◌-◌, ◌^◌, ◌<◌, ◌≤◌, List, length, get_or, take, ap, ◌∙◌, arith}
use Rattle.std.proofs.lemmas.Str.Parse.{digits_value-take-le, digit_at}
use Rattle.std.proofs.lemmas.Int.Digits.{digits_value_more}
use Rattle.std.specs.Char.{digit_value}
use Rattle.std.specs.Str.Parse.{digits_value, AllDigits}

digit_is : (c : ℕ) → 48 ≤ c → c ≤ 57 → digit_value c ≡ c - 48
digit_is c low high = grind arith

pub value_step : (ds : List ℕ) (i : ℕ) → AllDigits 10 ds → i < length ds
    → digits_value 10 (take (i + 1) ds) ≡ digits_value 10 (take i ds) * 10 + (get_or ds i 0 - 48)
value_step ds i all lt =
    let at = digit_at ds i all lt in
    digits_value_more 10 ds i lt ∙ ap (λ d. digits_value 10 (take i ds) * 10 + d) (digit_is _ at.0 at.1)

pub value_over : (ds : List ℕ) (i : ℕ) → AllDigits 10 ds → i < length ds
    → 2 ^ 64 ≤ digits_value 10 (take i ds) * 10 + (get_or ds i 0 - 48) → 2 ^ 64 ≤ digits_value 10 ds
value_over ds i all lt over = omega (arith, value_step ds i all lt, digits_value-take-le 10 ds (i + 1) (omega arith))
