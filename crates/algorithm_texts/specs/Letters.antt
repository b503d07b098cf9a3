-- A word in a place of fixed size, filled up with zeros.
use Rattle.std.proofs.Common.{◌≡◌, ℕ, ◌-◌, ◌≤◌, ◌++◌, List, length, take, drop, replicate, IsAscii, sym, ap, ◌∙◌, subst, arith}
use Rattle.std.proofs.lemmas.Grind.{common_steps}
use Rattle.std.proofs.lemmas.List.{take_at, drop-replicate}

pub padded : {R : Type 0} (make : List ℕ → ℕ → R) (letters : List ℕ) (n : ℕ) → n ≤ 32 → length letters ≡ 32 → letters ≡ take n letters ++ replicate (32 - n) 0
    → make (take n letters ++ replicate (32 - length (take n letters)) 0) (length (take n letters)) ≡ make letters n
padded make letters n few long e =
    let size : length (take n letters) ≡ n = grind (arith, common_steps) in
    rw size (ap (λ ls. make ls n) (sym e))

-- letters at the front of zeros
pub filled_up : (m : ℕ) (bs new : List ℕ) → new ≡ bs → length bs ≤ m → IsAscii bs
    → (length bs ≤ m) × (length (new ++ drop (length bs) (replicate m 0)) ≡ m)
    × (new ++ drop (length bs) (replicate m 0) ≡ take (length bs) (new ++ drop (length bs) (replicate m 0)) ++ replicate (m - length bs) 0)
    × IsAscii (take (length bs) (new ++ drop (length bs) (replicate m 0)))
filled_up m bs new e few ascii =
    let front : take (length bs) (new ++ drop (length bs) (replicate m 0)) ≡ bs = take_at new (drop (length bs) (replicate m 0)) (length bs) (ap length e) ∙ e in
    let rest : drop (length bs) (replicate m 0) ≡ replicate (m - length bs) 0 = drop-replicate (length bs) m 0 in (
      few,
      grind (arith, common_steps),
      ap (λ ls. new ++ ls) rest ∙ ap (λ ls. ls ++ replicate (m - length bs) 0) (e ∙ sym front),
      subst IsAscii (sym front) ascii,
    )
