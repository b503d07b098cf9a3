-- A body from its words.
use Rattle.std.proofs.Common.{◌≡◌, ℕ, zero, suc, ◌+◌, ◌-◌, ◌≤◌, List, ◌++◌, length, drop, refl, sym, ap, subst, arith, length-append, length-drop}
use Rattle.rmecore.proofs.Common.{take-append_seam}
use Rattle.rmecore.specs.Body.{zeros, IsBody}

drop-zeros : (n k : ℕ) → drop n (zeros (n + k)) ≡ zeros k
drop-zeros zero k =
    let e : 0 + k ≡ k = omega arith in rw e refl
drop-zeros (suc n) k =
    let e : suc n + k ≡ suc (n + k) = omega arith in rw e (drop-zeros n k)

drop_eight : (n : ℕ) → n ≤ 8 → drop n (zeros 8) ≡ zeros (8 - n)
drop_eight n h =
    let e : 8 ≡ n + (8 - n) = omega arith in
    subst (λ m. drop n (zeros m) ≡ zeros (8 - n)) (sym e) (drop-zeros n (8 - n))

pub IsBody-of_words : (words : List ℕ) → 1 ≤ length words → length words ≤ 8 → IsBody (length words) (words ++ drop (length words) (zeros 8))
IsBody-of_words words least most =
    let e = take-append_seam words (drop (length words) (zeros 8)) in
    record {
      least = least;
      most = most;
      eight = omega (arith, length-append words (drop (length words) (zeros 8)), length-drop (length words) (zeros 8));
      rest = rw (drop_eight (length words) most) (ap (λ xs. xs ++ zeros (8 - length words)) (sym (take-append_seam words (zeros (8 - length words)))));
    }
