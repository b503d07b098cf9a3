-- A row of bits as a number.
use Rattle.std.proofs.Common.{◌≡◌, ℕ, zero, suc, ◌+◌, ◌-◌, ◌*◌, ◌%◌, ◌^◌, ◌<◌, ◌≤◌, Bool, true, false, if◌then◌else◌, ◌∙◌, inl, inr, arith}
use Rattle.judge.proofs.Common.{cases_eq, bit_at_cat_low, bit_at_cat_high, bit_at_lowest, bit_at, HasBits, row_word}
use Rattle.std.proofs.lemmas.Nat.{mod-pow-add}
use Rattle.std.proofs.Math.Nat.{mod-one, mod-eq_of_lt, two-pow-succ}
use Rattle.std.proofs.Math.Pow.{pow-lt, pow_mono}

pub mod-pow-suc : (row n : ℕ) → row % 2 ^ suc n ≡ (bit_at row n) * 2 ^ n + row % 2 ^ n
mod-pow-suc row n = let e : suc n ≡ 1 + n = omega arith in rw e (mod-pow-add row 1 n)

-- the first n bits of a row with the function's values
pub mod-row_word : (row n : ℕ) (f : ℕ → Bool) → HasBits row n f → row % 2 ^ n ≡ row_word n f
mod-row_word row zero f h = mod-one row
mod-row_word row (suc n) f h =
    let rest : row % 2 ^ n ≡ row_word n f = mod-row_word row n f (λ q l. h q (omega arith)) in
    let top : bit_at row n ≡ (if f n then 1 else 0) = h n (omega arith) in
    mod-pow-suc row n ∙ ap-sum top rest
  where
    ap-sum : {a b c d : ℕ} → a ≡ b → c ≡ d → a * 2 ^ n + c ≡ b * 2 ^ n + d
    ap-sum x y = λ i. x i * 2 ^ n + y i

pub bit-mod : (b : Bool) → (if b then 1 else 0) % 2 ≡ (if b then 1 else 0)
bit-mod true = omega arith
bit-mod false = omega arith

-- it has no other bits
pub row_word-lt : (n : ℕ) (f : ℕ → Bool) → row_word n f < 2 ^ n
row_word-lt zero f = omega arith
row_word-lt (suc n) f =
    let rest = row_word-lt n f in
    let twice : 2 ^ suc n ≡ 2 ^ n + 2 ^ n = two-pow-succ n in
    top (f n) rest twice
  where
    top : (b : Bool) → row_word n f < 2 ^ n → 2 ^ suc n ≡ 2 ^ n + 2 ^ n → (if b then 1 else 0) * 2 ^ n + row_word n f < 2 ^ suc n
    top true r t = omega arith
    top false r t = omega arith

pub row_word-top : (n : ℕ) (f : ℕ → Bool) → bit_at (row_word (suc n) f) n ≡ (if f n then 1 else 0)
row_word-top n f =
    let cut = bit_at_cat_high (if f n then 1 else 0) n (row_word n f) n (row_word-lt n f) (omega arith) in
    let none : n - n ≡ 0 = omega arith in
    cut ∙ (rw none (bit_at_lowest (if f n then 1 else 0) ∙ bit-mod (f n)))

-- it has these bits
pub row_word-bits : (n : ℕ) (f : ℕ → Bool) → HasBits (row_word n f) n f
row_word-bits zero f q l = omega arith
row_word-bits (suc n) f q l =
    elim (cases_eq q n) [
      | inl e ↦ rw e (row_word-top n f)
      | inr d ↦ bit_at_cat_low (if f n then 1 else 0) n (row_word n f) q (omega arith) ∙ row_word-bits n f q (omega arith)
    ]

-- a power of two that fits in a word
pub low-pow : (n : ℕ) → n < 64 → 1 * 2 ^ n % 18446744073709551616 ≡ 2 ^ n
low-pow n l =
    let below : 2 ^ n < 18446744073709551616 = pow-lt l in
    let one : 1 * 2 ^ n ≡ 2 ^ n = omega arith in
    rw one (mod-eq_of_lt below)

-- all bits of a word
pub all-mod : (row n : ℕ) → row < 18446744073709551616 → 64 ≤ n → row % 2 ^ n ≡ row
all-mod row n fits l =
    let above : 18446744073709551616 ≤ 2 ^ n = pow_mono l in
    mod-eq_of_lt (omega arith)
