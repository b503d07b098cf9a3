-- One bit of a row that is changed.
use Rattle.std.proofs.Common.{◌≡◌, ◌≢◌, ◌∙◌, ℕ, ◌-◌, ◌*◌, ◌%◌, ◌^◌, ◌<◌, max, min, Bool, true, false, true≢false, ◌==◌, bit_and, sym, refl, ap, subst, inl, inr, arith, w64, eq-eqb, ne_eqb}
use Rattle.std.proofs.lemmas.Bool.{cases_eq, false≢true}
use Rattle.std.proofs.lemmas.Nat.Bits.{bit_at_clear_same, bit_at_clear_other, bit_at-pow_same, bit_at-pow_other}
use Rattle.std.specs.Int.{bit_at}
use Rattle.algorithms.specs.remote_references.Copies.{copy_change, crash_change, exclusive_change, last_or}
use Rattle.algorithms.specs.remote_references.CopyRows.{bit_of}

-- a bit as a test
pub tested : (b : Bool) (x : ℕ) → x ≡ bit_of b → (x == 1) ≡ b
tested true x e = eq-eqb x 1 e
tested false x e = ne_eqb x 1 (λ h. omega arith)

-- the bits of a row of one process
pub one_bit : (p q : ℕ) → bit_at (2 ^ p) q ≡ bit_of (p == q)
one_bit p q =
    elim (cases_eq p q) [
      | inl e ↦ subst (λ k. bit_at (2 ^ p) k ≡ bit_of (p == k)) e (bit_at-pow_same p ∙ ap bit_of (sym (eq-eqb p p refl)))
      | inr d ↦ bit_at-pow_other p q (λ h. d (sym h)) ∙ ap bit_of (sym (ne_eqb p q d))
    ]

-- a bit of a row that process p is taken out of
pub without_bit : (row p q : ℕ) (had : Bool) → p < 64 → q < 64 → bit_at row q ≡ bit_of had
    → bit_at (bit_and row (18446744073709551615 - 1 * 2 ^ p % 18446744073709551616)) q ≡ bit_of (last_or had (crash_change (p == q)))
without_bit row p q had lp lq here =
    elim (cases_eq p q) [
      | inl e ↦ subst (λ k. bit_at (bit_and row (18446744073709551615 - 1 * 2 ^ p % 18446744073709551616)) k ≡ bit_of (last_or had (crash_change (p == k)))) e
          (bit_at_clear_same w64 row p lp ∙ ap (λ b. bit_of (last_or had (crash_change b))) (sym (eq-eqb p p refl)))
      | inr d ↦ bit_at_clear_other w64 row p lp q lq (λ h. d (sym h)) ∙ (here ∙ ap (λ b. bit_of (last_or had (crash_change b))) (sym (ne_eqb p q d)))
    ]

-- a process of another number is in no row
pub apart_bit : (p q : ℕ) (had : Bool) → p ≢ q → bit_of had ≡ bit_of (last_or had (crash_change (p == q)))
apart_bit p q had d = ap (λ b. bit_of (last_or had (crash_change b))) (sym (ne_eqb p q d))

-- ---- who has a copy after an access: `one` is the bit of the row of its process, `row` the bit before

pub held_stored : (stores own had : Bool) (one : ℕ) → stores ≡ true → one ≡ bit_of own → one ≡ bit_of (last_or had (copy_change own stores))
held_stored true true had one s o = o
held_stored true false had one s o = o
held_stored false own had one s o = absurd (false≢true s)

pub held_loaded : (stores own had : Bool) (row one : ℕ) → stores ≡ false → one ≡ bit_of own → row ≡ bit_of had → max row one ≡ bit_of (last_or had (copy_change own stores))
held_loaded true own had row one s o r = absurd (true≢false s)
held_loaded false true true row one s o r = let is : one ≡ 1 = o in let was : row ≡ 1 = r in omega arith
held_loaded false true false row one s o r = let is : one ≡ 1 = o in let was : row ≡ 0 = r in omega arith
held_loaded false false true row one s o r = let is : one ≡ 0 = o in let was : row ≡ 1 = r in omega arith
held_loaded false false false row one s o r = let is : one ≡ 0 = o in let was : row ≡ 0 = r in omega arith

pub exclusive_stored : (stores own had : Bool) (one : ℕ) → stores ≡ true → one ≡ bit_of own → one ≡ bit_of (last_or had (exclusive_change own stores))
exclusive_stored true true had one s o = o
exclusive_stored true false had one s o = o
exclusive_stored false own had one s o = absurd (false≢true s)

pub exclusive_loaded : (stores own had : Bool) (row one : ℕ) → stores ≡ false → one ≡ bit_of own → row ≡ bit_of had → min row one ≡ bit_of (last_or had (exclusive_change own stores))
exclusive_loaded true own had row one s o r = absurd (true≢false s)
exclusive_loaded false true true row one s o r = let is : one ≡ 1 = o in let was : row ≡ 1 = r in omega arith
exclusive_loaded false true false row one s o r = let is : one ≡ 1 = o in let was : row ≡ 0 = r in omega arith
exclusive_loaded false false true row one s o r = let is : one ≡ 0 = o in let was : row ≡ 1 = r in omega arith
exclusive_loaded false false false row one s o r = let is : one ≡ 0 = o in let was : row ≡ 0 = r in omega arith
